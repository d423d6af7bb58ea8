-- Promise. The hash as Riegeli/records files use it. Source: the Riegeli/records file format specification, "Block
-- header" and "Chunk header", which name the hash and its key.
use Rattle.std.specs.Prelude.{◌≡◌, ℕ, List, [], ◌∷◌, ◌++◌, drop}
use Rattle.std.specs.Int.{w64, to_le_bytes}
use Rattle.highway_hash.specs.HighwayHash.{hash_of}

-- the key: `Riegeli/` and `records` with a newline, twice, as little-endian words
abbrev pub riegeli_key : List ℕ
riegeli_key = 0x2f696c6567656952 ∷ 0x0a7364726f636572 ∷ 0x2f696c6567656952 ∷ 0x0a7364726f636572 ∷ []

-- the hash of the bytes under that key
abbrev pub riegeli_hash : List ℕ → ℕ
riegeli_hash bytes = hash_of riegeli_key bytes

-- the bytes behind the eight bytes of their hash, as in both kinds of header
abbrev pub with_hash : List ℕ → List ℕ
with_hash bytes = to_le_bytes w64 (riegeli_hash bytes) ++ bytes

-- the bytes begin with the hash of those behind it: a header whose own hash matches
abbrev pub BeginsWithHash : List ℕ → Type 0
BeginsWithHash bytes = bytes ≡ with_hash (drop 8 bytes)
