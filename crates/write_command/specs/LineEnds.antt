-- Inside. What is known of the line ends of a buffer, by the place of each byte. Own.
use Rattle.std.specs.Prelude.{◌≡◌, ◌≢◌, ◌↔◌, ℕ, ◌+◌, ◌%◌, ◌<◌, ◌≤◌, List, length, slice_index}
use Rattle.std.specs.Int.{bit_at}

-- bit k of a mask tells whether the byte k places behind base is a 10
abbrev pub MarksEnds : List ℕ → ℕ → ℕ → Type 0
MarksEnds bytes base mask = (k : ℕ) → k < 64 → (bit_at mask k ≡ 1) ↔ (slice_index bytes (base + k) ≡ 10)

-- no byte 10 stands from `from` on and before `to`
abbrev pub NoEnds : List ℕ → ℕ → ℕ → Type 0
NoEnds bytes from to = (p : ℕ) → from ≤ p → p < to → slice_index bytes p ≢ 10

-- the first byte 10 from `from` on and before `to` stands at `at`
pub record IsFirstEnd (bytes : List ℕ) (from to at : ℕ) : Type 0 where
  pub low : from ≤ at
  pub high : at < to
  pub none : NoEnds bytes from at
  pub here : slice_index bytes at ≡ 10

-- of the bytes from `from` on and before `to` none before base is a 10, and the mask has a bit for each 10 among the 64 from
-- base on, and no bit for a byte before `from`
pub record KnowsEnds (bytes : List ℕ) (from to base mask : ℕ) : Type 0 where
  pub passed : (p : ℕ) → from ≤ p → p < to → p < base → slice_index bytes p ≢ 10
  pub sound : (k : ℕ) → k < 64 → bit_at mask k ≡ 1 → (from ≤ base + k) × (slice_index bytes (base + k) ≡ 10)
  pub complete : (k : ℕ) → k < 64 → from ≤ base + k → base + k < to → slice_index bytes (base + k) ≡ 10 → bit_at mask k ≡ 1
  pub near : from ≤ base + 64
  pub room : base + 64 ≤ length bytes
  pub step : base % 64 ≡ 0
