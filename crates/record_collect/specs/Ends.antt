-- Inside. How gathering ends, and what it says of files and passes then. Own.
use Rattle.std.specs.Prelude.{◌≡◌, ℕ, ◌⊎◌, Bool, false, true, Some, Result, Ok, Err, List, slice_get}
use Rattle.std.specs.List.{AllByRecursion, AllZip}
use Rattle.chunk_reader.specs.Faults.{IsFirstFault}
use Rattle.chunk_reader.specs.declared.reasons.Fault.{Fault}
use Rattle.chunk_reader.specs.declared.reasons.ReadEnd.{ReadEnd}
use Rattle.chunk_reader.specs.declared.reasons.ReadEnd.TheVariants as read
use Rattle.record_collect.specs.Gatherings.{AreGatheredOf, GatheredValue, IsInBounds, IsTooMuch}
use Rattle.record_collect.specs.Passes.{AreGathered, PassValue}
use Rattle.record_collect.specs.Takings.{IsFirstStopped, IsRead}
use Rattle.record_collect.specs.declared.feeding.Fed.{Fed}
use Rattle.record_collect.specs.declared.feeding.Fed.TheVariants.{Whole, Full, TooLong}
use Rattle.record_collect.specs.declared.gathering.GatherEnd.{GatherEnd}
use Rattle.record_collect.specs.declared.gathering.GatherEnd.TheVariants as gather

-- with the number of a file that was not read to its end, and its fault, or as its store or memory failed
abbrev pub gather_end_of : ℕ → ReadEnd → GatherEnd
gather_end_of index (read.Refused fault) = gather.Refused index fault
gather_end_of index read.Store = gather.Store
gather_end_of index read.Memory = gather.Memory

-- what files are, by how gathering their records ended
abbrev pub IsGatheredOf : Result GatheredValue GatherEnd → List (List ℕ) → Type 0
IsGatheredOf (Ok made) files = AreGatheredOf files made
IsGatheredOf (Err (gather.Refused index fault)) files = IsFirstFault false files index fault
IsGatheredOf (Err gather.TooMuch) files = IsTooMuch files
IsGatheredOf (Err gather.Store) files = Unit {0}
IsGatheredOf (Err gather.Memory) files = Unit {0}

-- and in one list: they are these, unless memory was short
abbrev pub IsInOneList : Result GatheredValue GatherEnd → GatheredValue → Type 0
IsInOneList (Ok made) all = made ≡ all
IsInOneList (Err gather.Memory) all = Unit {0}
IsInOneList (Err other) all = ⊥

-- these are the passes by which files were read to their ends, and whether the pass ended or not
abbrev pub IsPassOf : Result Fed ReadEnd → PassValue → Type 0
IsPassOf answer pass = (answer ≡ Ok (Whole pass)) ⊎ (answer ≡ Ok (Full pass))

-- these are the passes of files that were all read to their ends, and whether none of the passes ended
pub record ArePassesOf (answers : List (Result Fed ReadEnd)) (passes : List PassValue) (are_whole : Bool) : Type 0 where
  pub each : AllZip IsPassOf answers passes
  pub whole : are_whole ≡ true → AllZip (λ answer pass. answer ≡ Ok (Whole pass)) answers passes
  pub full : are_whole ≡ false → (i : ℕ) × (pass : PassValue) × (slice_get answers i ≡ Some (Ok (Full pass)))

-- files were gathered into this by these passes
pub record AreGatheredBy (answers : List (Result Fed ReadEnd)) (passes : List PassValue) (made : GatheredValue) : Type 0 where
  pub each : AllZip IsPassOf answers passes
  pub are : AreGathered passes made
  pub bounds : IsInBounds made

-- and what is held of files
abbrev pub IsGatheredBy : Result GatheredValue GatherEnd → List (Result Fed ReadEnd) → Type 0
IsGatheredBy (Ok made) answers =
    (passes : List PassValue) × AreGatheredBy answers passes made × AllZip (λ answer pass. answer ≡ Ok (Whole pass)) answers passes
IsGatheredBy (Err (gather.Refused index fault)) answers = IsFirstStopped answers index (read.Refused fault)
IsGatheredBy (Err gather.TooMuch) answers =
    AllByRecursion IsRead answers
    × (((i : ℕ) × (slice_get answers i ≡ Some (Ok TooLong)))
    ⊎ ((passes : List PassValue) × (made : GatheredValue) × (i : ℕ) × (pass : PassValue) × AreGatheredBy answers passes made × (slice_get answers i ≡ Some (Ok (Full pass)))))
IsGatheredBy (Err gather.Store) answers = (i : ℕ) × (slice_get answers i ≡ Some (Err read.Store))
IsGatheredBy (Err gather.Memory) answers = Unit {0}

-- the first file with a fault is told, and that the records are too much, unless a store or memory failed
pub record TellsFirst (result : Result GatheredValue GatherEnd) (files : List (List ℕ)) : Type 0 where
  pub refused : (index : ℕ) (fault : Fault) → IsFirstFault false files index fault
      → (result ≡ Err (gather.Refused index fault)) ⊎ (result ≡ Err gather.Store) ⊎ (result ≡ Err gather.Memory)
  pub too_much : IsTooMuch files
      → (result ≡ Err gather.TooMuch) ⊎ (result ≡ Err gather.Store) ⊎ (result ≡ Err gather.Memory)
