-- What records cost.
use Rattle.std.proofs.Common.{◌≡◌, ℕ, ◌+◌, ◌*◌, ◌<◌, List, [], ◌∷◌, length, refl, arith}
use Rattle.std.specs.List.{AllByRecursion, concat}
use Rattle.std.proofs.lemmas.List.{length-append}
use Rattle.std.proofs.lemmas.List.Sums.{sum_by-cons}
use Rattle.simple_chunk.specs.Costs.{cost, cost_of}

-- what records cost is their bytes, and 8 for each
pub cost_of-is : (records : List (List ℕ)) → cost_of records ≡ length (concat records) + 8 * length records
cost_of-is [] = refl
cost_of-is (record_bytes ∷ records) =
    omega (arith, cost_of-is records, sum_by-cons cost record_bytes records, length-append record_bytes (concat records))

-- no record is longer than all of them together
pub lengths-le-concat : (records : List (List ℕ)) (n : ℕ) → length (concat records) < n
    → AllByRecursion (λ record_bytes. length record_bytes < n) records
lengths-le-concat [] n h = tt
lengths-le-concat (record_bytes ∷ records) n h = (
  omega (arith, length-append record_bytes (concat records)),
  lengths-le-concat records n (omega (arith, length-append record_bytes (concat records))),
)
