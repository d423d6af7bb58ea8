-- Inside. Where the chunk begins of a record that is found. Own.
use Rattle.std.specs.Prelude.{◌≡◌, ℕ, ◌-◌, ◌≤◌, Option, Some, IfSome, List, slice_get}
use Rattle.chunk_reader.specs.PositionSearches.{HasRecordsAt}
use Rattle.record_seek.specs.Met.{IsMetBySearch}
use Rattle.record_seek.specs.declared.chunk_records.Found.{Found}

-- the record of this number of a chunk without fault that begins at a place
pub record IsRecordOf (file : List ℕ) (begin number : ℕ) (bytes : List ℕ) : Type 0 where
  pub records : List (List ℕ)
  pub holds : HasRecordsAt file begin records
  pub stands : slice_get records number ≡ Some bytes

-- a record that is found stands in the chunk at its begin, to which the search may come
pub record StandsInChunk (file : List ℕ) (found : Found) : Type 0 where
  pub met : IsMetBySearch file found.begin
  pub behind : found.begin ≤ found.position
  pub stands : IsRecordOf file found.begin (found.position - found.begin) found.bytes

-- where one is found and the file shows its bytes, it does
abbrev pub StandsIfFound : Option (List ℕ) → Option Found → Type 0
StandsIfFound bytes found = IfSome found (λ f. IfSome bytes (λ file. StandsInChunk file f))
