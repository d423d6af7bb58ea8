-- Inside. Where no varint is read. Source: the Riegeli/records file format specification, "Conventions". Own: a varint
-- has at most ten bytes and a value below 2 ^ 64.
use Rattle.std.specs.Prelude.{ℕ, ◌^◌, ◌<◌, ◌≤◌, ◌⊎◌, List, length, take, slice_index, EachIndex}
use Rattle.varint_wire.specs.Varint.{spelled_value}

-- each byte says that another follows: it is at least 128
abbrev pub AllContinue : List ℕ → Type 0
AllContinue bytes = EachIndex bytes (λ i. 128 ≤ slice_index bytes i)

-- the bytes end before the varint does: fewer than ten, and each says that another follows
abbrev pub IsCut : List ℕ → Type 0
IsCut bytes = (length bytes < 10) × AllContinue bytes

-- the first byte that says that none follows is the tenth, and the value of these ten isn't below 2 ^ 64
abbrev pub IsTooLarge : List ℕ → Type 0
IsTooLarge bytes =
    AllContinue (take 9 bytes) × (slice_index bytes 9 < 128) × (2 ^ 64 ≤ spelled_value (take 10 bytes))

-- the bytes begin with ten that say that another follows, or with a value of ten bytes that is too large
abbrev pub IsLong : List ℕ → Type 0
IsLong bytes = (10 ≤ length bytes) × (AllContinue (take 10 bytes) ⊎ IsTooLarge bytes)
