-- Lists of four lanes, as vectors give them.
use Rattle.std.proofs.Common.{◌≡◌, ℕ, zero, suc, ◌^◌, ◌<◌, List, [], ◌∷◌, length, slice_index, refl, arith}
use Rattle.highway_hash.specs.HighwayHash.{lanes}
use Rattle.highway_hash.specs.WholeLanes.{IsFourLanes}

-- four lanes are those that stand at each place
pub four_lanes : (xs : List ℕ) → length xs ≡ 4 → xs ≡ lanes (slice_index xs)
four_lanes (a ∷ b ∷ c ∷ d ∷ []) h = refl
four_lanes xs h = absurd (omega arith)

-- lanes of 64 bits
pub IsFourLanes-lanes : (f : ℕ → ℕ) → ((i : ℕ) → f i < 2 ^ 64) → IsFourLanes (lanes f)
IsFourLanes-lanes f h = record { four = refl; small = fits }
  where
    fits : (i : ℕ) → slice_index (lanes f) i < 2 ^ 64
    fits zero = h 0
    fits (suc zero) = h 1
    fits (suc (suc zero)) = h 2
    fits (suc (suc (suc zero))) = h 3
    fits (suc (suc (suc (suc i)))) = omega arith
