-- Promise. Where a search by key may come to, and what it may answer of a file with a fault. Own.
use Rattle.std.specs.Prelude.{◌≡◌, ℕ, ◌+◌, ◌-◌, ◌<◌, ◌⊎◌, false, Some, List, ◌∷◌, ◌++◌, length, slice_get}
use Rattle.std.specs.List.{AllByRecursion}
use Rattle.chunk_reader.specs.Holders.{TellsBegin, IsBlockFault, ArePlacesBetween}
use Rattle.chunk_reader.specs.Faults.{IsVerdict}
use Rattle.chunk_reader.specs.Places.{header_at, end_at}
use Rattle.chunk_reader.specs.Reasons.{Applies, NoneOf, unpassed_reasons}
use Rattle.chunk_reader.specs.PositionSearches.{HasRecordsAt}
use Rattle.chunk_reader.specs.declared.reasons.Fault.{Fault}

-- the file's front is met; so is the begin of a chunk that a right and sane block header tells, and the end of a chunk at a
-- place that is met, where its header is right and the file has the chunk to its end
pub data IsMetBySearch : List ℕ → ℕ → Type 0 where
  front : {file : List ℕ} → IsMetBySearch file 0
  told : {file : List ℕ} {block place : ℕ} → TellsBegin file block place → IsMetBySearch file place
  behind : {file : List ℕ} {place : ℕ} → IsMetBySearch file place → NoneOf (Applies file place) unpassed_reasons
      → IsMetBySearch file (end_at file place)

-- a fault that is met: of a block that tells no begin, or of a chunk at a place that is met
abbrev pub IsMetFault : List ℕ → Fault → Type 0
IsMetFault file fault =
    ((block : ℕ) × IsBlockFault file block fault)
    ⊎ ((place : ℕ) × IsMetBySearch file place × (place < length file) × IsVerdict false file place fault)

-- the chunks at these places have no records
abbrev pub HaveNoRecords : List ℕ → List ℕ → Type 0
HaveNoRecords file places = AllByRecursion (λ place. (header_at file place).num_records ≡ 0) places

-- chunks lead from the file's front to a place, and none has records
abbrev pub LeadsWithoutRecords : List ℕ → (to : ℕ) → Type 0
LeadsWithoutRecords file to =
    (places : List ℕ) × ArePlacesBetween file 0 to places × HaveNoRecords file places

-- chunks lead to a place from the file's front, or from a begin that a block tells, and of the last of them that has records,
-- which has no fault, the last record stands before
pub record LeadsPastAll (file : List ℕ) (to : ℕ) (Before : List ℕ → Type 0) : Type 0 where
  pub begin : ℕ
  pub front : List ℕ
  pub place : ℕ
  pub rest : List ℕ
  pub records : List (List ℕ)
  pub last : List ℕ
  pub from : (begin ≡ 0) ⊎ ((block : ℕ) × TellsBegin file block begin)
  pub between : ArePlacesBetween file begin to (front ++ place ∷ rest)
  pub none_behind : HaveNoRecords file rest
  pub holds : HasRecordsAt file place records
  pub last_there : slice_get records (length records - 1) ≡ Some last
  pub before : Before last

-- a record, with its position, of a chunk without fault at a place that is met. Those before it in the chunk stand before, and
-- where it is the chunk's first, chunks lead there from the file's front without records, or past a last one that stands before
pub record IsMetRecord (file : List ℕ) (Before : List ℕ → Type 0) (found : ℕ × List ℕ) : Type 0 where
  pub place : ℕ
  pub records : List (List ℕ)
  pub number : ℕ
  pub met : IsMetBySearch file place
  pub holds : HasRecordsAt file place records
  pub stands : slice_get records number ≡ Some found.1
  pub position : found.0 ≡ place + number
  pub before : (i : ℕ) (bytes : List ℕ) → i < number → slice_get records i ≡ Some bytes → Before bytes
  pub behind : (0 < number) ⊎ LeadsWithoutRecords file place ⊎ LeadsPastAll file place Before
