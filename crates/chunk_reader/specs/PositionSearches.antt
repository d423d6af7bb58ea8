-- Promise. What a search by position finds in a file. Own.
use Rattle.std.specs.Prelude.{◌≡◌, ℕ, ◌+◌, ◌-◌, ◌<◌, ◌≤◌, ◌⊎◌, false, Option, Some, None, List, length, slice_get}
use Rattle.std.specs.List.{AllByRecursion}
use Rattle.chunk_header.specs.SimpleChunks.{IsSimple}
use Rattle.chunk_reader.specs.Faults.{IsVerdict}
use Rattle.chunk_reader.specs.Holders.{ArePlacesBetween, IsHolder, IsHolderFault}
use Rattle.chunk_reader.specs.Places.{header_at, chunk_at}
use Rattle.chunk_reader.specs.Reasons.{Applies, NoneOf, IsFirstOf, unpassed_reasons, strict_reasons}
use Rattle.chunk_reader.specs.declared.reasons.Fault.{Fault}

-- a chunk of so many records has one at or past a position
abbrev pub HasRecordFrom : (position begin num_records : ℕ) → Type 0
HasRecordFrom position begin num_records = (0 < num_records) × (position < begin + num_records)

-- by its header the chunk at a place has one
abbrev pub MayAnswerAt : List ℕ → (position place : ℕ) → Type 0
MayAnswerAt file position place = HasRecordFrom position place (header_at file place).num_records

-- a place to which a search for a position comes from the chunk that holds it, past chunks that have no record from there on
pub record SearchComesTo (file : List ℕ) (position place : ℕ) : Type 0 where
  pub holder : ℕ
  pub places : List ℕ
  pub holds : IsHolder file position holder
  pub between : ArePlacesBetween file holder place places
  pub none : AllByRecursion (λ passed. ¬ MayAnswerAt file position passed) places

-- the chunk at a place answers: from the holder on it is the first that has one
pub record AnswersAt (file : List ℕ) (position place : ℕ) : Type 0 where
  pub searched : SearchComesTo file position place
  pub whole : NoneOf (Applies file place) unpassed_reasons
  pub has : MayAnswerAt file position place

-- at this place stands a simple chunk without fault, and it holds these records
pub record HasRecordsAt (file : List ℕ) (place : ℕ) (records : List (List ℕ)) : Type 0 where
  pub without_fault : NoneOf (Applies file place) (strict_reasons false)
  pub holds : IsSimple (chunk_at file place) records

-- the record that is found, with its position: of the chunk that answers, which has no fault, the one at the position, or
-- the first where the chunk begins past that
pub record IsSought (file : List ℕ) (position : ℕ) (found : ℕ × List ℕ) : Type 0 where
  pub place : ℕ
  pub records : List (List ℕ)
  pub answers : AnswersAt file position place
  pub holds : HasRecordsAt file place records
  pub record_there : slice_get records (position - place) ≡ Some found.1
  pub position_there : found.0 ≡ place + (position - place)

-- what a search for a position gives: a record, or nothing where the position isn't below the file's end, or the search goes
-- on to there
abbrev pub SearchGives : List ℕ → ℕ → Option (ℕ × List ℕ) → Type 0
SearchGives file position (Some found) = IsSought file position found
SearchGives file position None = (length file ≤ position) ⊎ SearchComesTo file position (length file)

-- why it is refused: the position lies below the file's end and no chunk is found to hold it, or behind the holder a chunk has no right header or doesn't lie
-- in the file, or the chunk that answers has a fault
abbrev pub IsSearchFault : List ℕ → ℕ → Fault → Type 0
IsSearchFault file position fault =
    IsHolderFault file position fault
    ⊎ (SearchComesTo file position fault.at × (fault.at < length file) × IsFirstOf (Applies file fault.at) unpassed_reasons fault.why)
    ⊎ ((place : ℕ) × AnswersAt file position place × IsVerdict false file place fault)
