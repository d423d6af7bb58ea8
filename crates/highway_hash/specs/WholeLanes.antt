-- Inside. What holds of the lanes of every vector of the hash. Own.
use Rattle.std.specs.Prelude.{◌≡◌, ℕ, ◌^◌, ◌<◌, List, length, slice_index}

-- four lanes, each of 64 bits
pub record IsFourLanes (xs : List ℕ) : Type 0 where
  pub four : length xs ≡ 4
  pub small : (i : ℕ) → slice_index xs i < 2 ^ 64
