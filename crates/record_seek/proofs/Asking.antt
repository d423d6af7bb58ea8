-- The records of a chunk that are asked whether they stand before.
use Rattle.std.proofs.Common.{◌≡◌, ◌∙◌, ℕ, ◌<◌, Option, Some, None, Result, Ok, Err, IfOk, List, length, sym, subst, arith}
use Rattle.std.specs.Prelude.{slice_get}
use Rattle.std.proofs.lemmas.Option.{same_Some}
use Rattle.record_seek.specs.Steps.{IsNumbered, IsFirstNot}
use Rattle.record_seek.specs.declared.chunk_records.Found.{Found}

-- the first that doesn't stand before is found
pub first_not_found : {E : Type 0} (Before : List ℕ → Type 0) (records : List (List ℕ)) (begin number : ℕ) (bytes : List ℕ) (result : Result (Option Found) E)
    → number < length records → slice_get records number ≡ Some bytes → (¬ Before bytes)
    → ((i : ℕ) (other : List ℕ) → i < number → slice_get records i ≡ Some other → Before other)
    → IfOk result (λ found. IsNumbered records begin number found) → IfOk result (λ found. IsFirstNot Before records begin found)
first_not_found Before records begin number bytes (Ok None) below stands apart all numbered = absurd (omega (arith, below, numbered))
first_not_found Before records begin number bytes (Ok (Some found)) below stands apart all numbered =
    let same : bytes ≡ found.bytes = same_Some bytes found.bytes (sym stands ∙ numbered.0) in
    (number, numbered.0, numbered.1, numbered.2, (λ before. apart (subst Before (sym same) before)), all)
first_not_found Before records begin number bytes (Err end) below stands apart all numbered = tt
