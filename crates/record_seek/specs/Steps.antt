-- Inside. What the steps of a search find. Own.
use Rattle.std.specs.Prelude.{◌≡◌, ℕ, zero, suc, ◌+◌, ◌-◌, ◌*◌, ◌^◌, ◌<◌, ◌≤◌, ◌↔◌, ◌⊎◌, Bool, IsTrue, true, false, Option, Some, None, List, [], ◌∷◌, ◌++◌, length, slice_get, get_or}
use Rattle.record_io.specs.Calls.{HasSize}
use Rattle.block_layout.specs.Layout.{chunk_header_size, IsBoundary}
use Rattle.chunk_header.specs.Chunks.{ChunkValue}
use Rattle.chunk_header.specs.SimpleChunks.{IsSimple}
use Rattle.meta_chunk.specs.Files.{signature, max_data_size}
use Rattle.chunk_reader.specs.Faults.{IsVerdict}
use Rattle.chunk_reader.specs.Holders.{ArePlacesBetween}
use Rattle.chunk_reader.specs.Places.{header_at, end_at, chunk_at}
use Rattle.chunk_reader.specs.Reasons.{Applies, NoneOf, unpassed_reasons, loading_reasons, strict_reasons}
use Rattle.chunk_reader.specs.SearchBounds.{length_of_chunk, chunks_without_records, greatest_length_from}
use Rattle.chunk_reader.specs.PositionSearches.{HasRecordsAt, SearchComesTo, AnswersAt}
use Rattle.chunk_reader.specs.declared.reasons.Fault.{Fault}
use Rattle.record_seek.specs.Met.{HaveNoRecords, IsMetBySearch}
use Rattle.record_seek.specs.declared.chunk_records.Found.{Found}
use Rattle.record_seek.specs.declared.chunk_records.ChunkRecords.{ChunkRecords}
use Rattle.record_seek.specs.declared.finds.Look.{Look}
use Rattle.record_seek.specs.declared.passes.Passed.{Passed}

-- a boundary, up to a place
pub record IsBoundaryTo (last place : ℕ) : Type 0 where
  pub boundary : IsBoundary place
  pub within : place ≤ last

-- a file has a size, and it may be read on from a boundary of it, or from its end
pub record MayReadFrom (told : Option ℕ) (size from : ℕ) : Type 0 where
  pub sized : HasSize told size
  pub place : IsBoundaryTo size from

-- a chunk that is passed from a place on, in a file of so many bytes, ends at a boundary behind its header and its records' positions
pub record IsPassedWithin (size place : ℕ) (chunk : Passed) : Type 0 where
  pub boundary : IsBoundary chunk.end
  pub past : place + chunk_header_size ≤ chunk.end
  pub within : chunk.end ≤ size
  pub room : place + chunk.num_records ≤ chunk.end

-- a chunk that is passed at a place of a file
pub record IsPassedAt (file : List ℕ) (place : ℕ) (chunk : Passed) : Type 0 where
  pub none : NoneOf (Applies file place) unpassed_reasons
  pub end : chunk.end ≡ end_at file place
  pub num_records : chunk.num_records ≡ (header_at file place).num_records

-- the chunk that answers, or none up to the file's end
abbrev pub IsAnswer : List ℕ → ℕ → Option ℕ → Type 0
IsAnswer file position (Some place) = AnswersAt file position place
IsAnswer file position None = SearchComesTo file position (length file)

-- the records of a chunk between boundaries: their positions are numbers of 64 bits, and none is longer than a chunk's data may
-- be
pub record AreChunkRecords (chunk : ChunkRecords) : Type 0 where
  pub after : chunk.begin < chunk.end
  pub to_boundary : IsBoundary chunk.end
  pub room : chunk.begin + length chunk.records < 2 ^ 64
  pub small : (i : ℕ) (bytes : List ℕ) → slice_get chunk.records i ≡ Some bytes → length bytes ≤ max_data_size

-- such a chunk stands at a place or behind it, in a file of so many bytes
pub record AreRecordsFrom (from size : ℕ) (chunk : ChunkRecords) : Type 0 where
  pub of_chunk : AreChunkRecords chunk
  pub begins : from ≤ chunk.begin
  pub within : chunk.end ≤ size

-- the chunk of a file there has no fault, and these are its records
pub record AreRecordsAt (file : List ℕ) (chunk : ChunkRecords) : Type 0 where
  pub none : NoneOf (Applies file chunk.begin) (strict_reasons false)
  pub end : chunk.end ≡ end_at file chunk.begin
  pub records : IsSimple (chunk_at file chunk.begin) chunk.records
      ⊎ (((chunk_at file chunk.begin).num_records ≡ 0) × (chunk.records ≡ []))

-- of the records of a chunk that begins at a place, the one of a number with its position, or nothing where there are fewer
abbrev pub IsNumbered : List (List ℕ) → (begin number : ℕ) → Option Found → Type 0
IsNumbered records begin number (Some found) = (slice_get records number ≡ Some found.bytes) × (found.position ≡ begin + number) × (found.begin ≡ begin)
IsNumbered records begin number None = length records ≤ number

-- whether the first of records stands before: no where there is none
abbrev pub IsFirstBefore : (Before : List ℕ → Type 0) → List (List ℕ) → Bool → Type 0
IsFirstBefore Before records before =
    ((bytes : List ℕ) × (slice_get records 0 ≡ Some bytes) × (IsTrue before ↔ Before bytes))
    ⊎ ((records ≡ []) × (before ≡ false))

-- of the records of a chunk that begins at a place, the first that doesn't stand before, or nothing where each does
abbrev pub IsFirstNot : (Before : List ℕ → Type 0) → List (List ℕ) → (begin : ℕ) → Option Found → Type 0
IsFirstNot Before records begin (Some found) =
    (number : ℕ) × (slice_get records number ≡ Some found.bytes) × (found.position ≡ begin + number) × (found.begin ≡ begin) × (¬ Before found.bytes)
    × ((i : ℕ) (bytes : List ℕ) → i < number → slice_get records i ≡ Some bytes → Before bytes)
IsFirstNot Before records begin None = (i : ℕ) (bytes : List ℕ) → slice_get records i ≡ Some bytes → Before bytes

-- the last record of the chunks at these places stands before
pub record EndBefore (Before : List ℕ → Type 0) (file places : List ℕ) : Type 0 where
  pub front : List ℕ
  pub place : ℕ
  pub rest : List ℕ
  pub records : List (List ℕ)
  pub last : List ℕ
  pub parts : places ≡ front ++ place ∷ rest
  pub none_behind : HaveNoRecords file rest
  pub holds : HasRecordsAt file place records
  pub last_there : slice_get records (length records - 1) ≡ Some last
  pub before : Before last

-- chunks between two places of a file, which have no records, or whose last one stands before
pub record AreReadTo (Before : List ℕ → Type 0) (file : List ℕ) (from to : ℕ) : Type 0 where
  pub places : List ℕ
  pub between : ArePlacesBetween file from to places
  pub last : HaveNoRecords file places ⊎ EndBefore Before file places

-- a record that doesn't stand before, where those before it in its chunk do, and the chunks up to there were read
pub record IsReadRecord (Before : List ℕ → Type 0) (file : List ℕ) (from : ℕ) (found : Found) : Type 0 where
  pub place : ℕ
  pub records : List (List ℕ)
  pub number : ℕ
  pub read : AreReadTo Before file from place
  pub whole : NoneOf (Applies file place) unpassed_reasons
  pub holds : HasRecordsAt file place records
  pub stands : slice_get records number ≡ Some found.bytes
  pub position : found.position ≡ place + number
  pub begin : found.begin ≡ place
  pub apart : ¬ Before found.bytes
  pub before : (i : ℕ) (bytes : List ℕ) → i < number → slice_get records i ≡ Some bytes → Before bytes

-- the first record from a place on that doesn't stand before, or none up to the file's end
abbrev pub IsReadOn : (Before : List ℕ → Type 0) → List ℕ → (from : ℕ) → Option Found → Type 0
IsReadOn Before file from (Some found) = IsReadRecord Before file from found
IsReadOn Before file from None = AreReadTo Before file from (length file)

-- a fault that is met from a place on, from chunk to chunk
pub record IsFaultOn (file : List ℕ) (from : ℕ) (fault : Fault) : Type 0 where
  pub place : ℕ
  pub places : List ℕ
  pub between : ArePlacesBetween file from place places
  pub below : place < length file
  pub verdict : IsVerdict false file place fault

-- chunks lead from a place to one at which the data of a chunk may be read: none of the reasons applies that come before
abbrev pub LoadsOn : List ℕ → (from : ℕ) → Type 0
LoadsOn file from =
    (place : ℕ) × (places : List ℕ) × ArePlacesBetween file from place places × NoneOf (Applies file place) loading_reasons

-- the first record from a place on
pub record IsFirstFrom (file : List ℕ) (from : ℕ) (bytes : List ℕ) : Type 0 where
  pub place : ℕ
  pub places : List ℕ
  pub records : List (List ℕ)
  pub between : ArePlacesBetween file from place places
  pub none_before : HaveNoRecords file places
  pub whole : NoneOf (Applies file place) unpassed_reasons
  pub holds : HasRecordsAt file place records
  pub stands : slice_get records 0 ≡ Some bytes

-- the first chunk with records from a place on: it has no fault, and what was handed out in between is the header of each chunk
-- without records before it, its own header, and the chunk
pub record AreFirstRecords (file : List ℕ) (from spent now : ℕ) (chunk : ChunkRecords) : Type 0 where
  pub places : List ℕ
  pub between : ArePlacesBetween file from chunk.begin places
  pub none_before : HaveNoRecords file places
  pub whole : NoneOf (Applies file chunk.begin) unpassed_reasons
  pub end : chunk.end ≡ end_at file chunk.begin
  pub holds : HasRecordsAt file chunk.begin chunk.records
  pub some : 0 < length chunk.records
  pub paid : now + chunk.begin ≤ spent + chunk_header_size * (length places + 1) + chunk.end

-- what a look at it takes of a file of chunks at most: the headers of chunks without records, and a chunk
abbrev pub look_bound : List ChunkValue → ℕ
look_bound ks = chunk_header_size * (chunks_without_records ks + 1) + greatest_length_from 0 ks

-- it stands before
abbrev pub FirstStandsBefore : (Before : List ℕ → Type 0) → List ℕ → (from : ℕ) → Type 0
FirstStandsBefore Before file from = (bytes : List ℕ) × IsFirstFrom file from bytes × Before bytes

-- chunks without records lead from a place to the file's end
abbrev pub NoneFrom : List ℕ → (from : ℕ) → Type 0
NoneFrom file from = (places : List ℕ) × ArePlacesBetween file from (length file) places × HaveNoRecords file places

-- the first chunk with records, or none up to the file's end
abbrev pub AreNextRecords : List ℕ → (from spent now : ℕ) → Option ChunkRecords → Type 0
AreNextRecords file from spent now (Some chunk) = AreFirstRecords file from spent now chunk
AreNextRecords file from spent now None = NoneFrom file from

-- what is handed out to come to the first chunk with records from a place on: the headers of the chunks without records before a
-- place, that of the chunk there, and where that has records the chunk
pub record IsPaidOn (from spent now : ℕ) (file : List ℕ) : Type 0 where
  pub place : ℕ
  pub places : List ℕ
  pub between : ArePlacesBetween file from place places
  pub none_before : HaveNoRecords file places
  pub paid : (now ≤ spent + chunk_header_size * (length places + 1))
      ⊎ (NoneOf (Applies file place) unpassed_reasons × (0 < (header_at file place).num_records)
      × (now + place ≤ spent + chunk_header_size * (length places + 1) + end_at file place))

-- the first record from a place on doesn't stand before, or there is none
abbrev pub FirstNotBefore : (Before : List ℕ → Type 0) → List ℕ → (from : ℕ) → Type 0
FirstNotBefore Before file from = ((bytes : List ℕ) × IsFirstFrom file from bytes × (¬ Before bytes)) ⊎ NoneFrom file from

-- a look is right: it tells whether the first record from its begin on stands before
pub record IsLook (Before : List ℕ → Type 0) (look : Look) (file : List ℕ) : Type 0 where
  pub before : look.before ≡ true → FirstStandsBefore Before file look.begin
  pub not_before : look.before ≡ false → FirstNotBefore Before file look.begin

-- reading goes no further than the chunk of this number: its first record doesn't stand before, or there is no such chunk
abbrev pub EndsReading : (Before : List ℕ → Type 0) → List ChunkValue → ℕ → Type 0
EndsReading Before ks to =
    (to ≡ length ks)
    ⊎ ((k : ChunkValue) × (records : List (List ℕ)) × (r : List ℕ)
    × (slice_get ks to ≡ Some k) × IsSimple k records × (slice_get records 0 ≡ Some r) × (¬ Before r))

-- what reading takes of a chunk of so many records and bytes: its header, and the whole of it where it has records
abbrev pub cost_of_chunk : (num_records size : ℕ) → ℕ
cost_of_chunk zero size = chunk_header_size
cost_of_chunk (suc n) size = chunk_header_size + size

-- and of the chunks before one
abbrev pub reading_cost : List ChunkValue → ℕ → ℕ
reading_cost ks zero = 0
reading_cost ks (suc j) = reading_cost ks j + cost_of_chunk (get_or ks j signature).num_records (length_of_chunk ks j)

-- what is found, as the definitions have it
abbrev pub placed_of : Option Found → Option (ℕ × List ℕ)
placed_of (Some found) = Some (found.position, found.bytes)
placed_of None = None

-- at a place that is met the data of a chunk may be read: none of the reasons applies that come before
abbrev pub LoadsMetChunk : List ℕ → Type 0
LoadsMetChunk file = (place : ℕ) × IsMetBySearch file place × NoneOf (Applies file place) loading_reasons
