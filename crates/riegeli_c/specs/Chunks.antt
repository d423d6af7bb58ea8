-- Promise. Chunks as they are told to C. Own.
use Rattle.std.specs.Prelude.{◌≡◌, ℕ, ◌+◌, ◌^◌, ◌<◌, ◌⊎◌, true, List, [], ◌∷◌, length, take}
use Rattle.std.specs.List.{concat}
use Rattle.block_layout.specs.Layout.{IsBoundary}
use Rattle.chunk_header.specs.Chunks.{ChunkValue}
use Rattle.chunk_header.specs.SimpleChunks.{IsSimple, IsCompressed}
use Rattle.meta_chunk.specs.Kinds.{IsSignature, IsMetadata, IsPadding}
use Rattle.meta_chunk.specs.Files.{IsTransposed}
use Rattle.chunk_reader.specs.Faults.{BeginsWithSignature}
use Rattle.chunk_reader.specs.Places.{end_at, chunk_at}
use Rattle.chunk_reader.specs.Reasons.{Applies, NoneOf, strict_reasons}
use Rattle.riegeli_c.specs.declared.reading.ChunkTold.{ChunkTold}

-- a place that isn't asked for: of a file of more than 2 ^ 60 bytes, behind its end, or where no chunk can begin
abbrev pub IsBadPlace : List ℕ → ℕ → Type 0
IsBadPlace file place = (2 ^ 60 < length file) ⊎ (length file < place) ⊎ (¬ IsBoundary place)

-- by this number a chunk has these records, none where it is passive or left unread
abbrev pub IsToldAs : ChunkValue → (what : ℕ) → List (List ℕ) → Type 0
IsToldAs k what records =
    ((what ≡ 1) × IsSimple k records)
    ⊎ ((what ≡ 2) × (IsSignature k ⊎ IsMetadata k ⊎ IsPadding k) × (records ≡ []))
    ⊎ ((what ≡ 3) × (IsCompressed k ⊎ IsTransposed k) × (records ≡ []))

-- the chunk at a place of a file has no fault, and this is told of it, with these records
pub record IsChunkTold (file : List ℕ) (place : ℕ) (told : ChunkTold) (records : List (List ℕ)) : Type 0 where
  pub without_fault : NoneOf (Applies file place) (strict_reasons true)
  pub end : told.end ≡ end_at file place
  pub what : IsToldAs (chunk_at file place) told.what records
  pub count : told.records ≡ length records
  pub bytes : told.bytes ≡ length (concat records)

-- the chunk at a place of a file that may be asked for has no fault, at 0 behind what files begin with, and these records
pub record HasChunkWith (file : List ℕ) (place : ℕ) (records : List (List ℕ)) : Type 0 where
  pub fine : ¬ IsBadPlace file place
  pub signed : place ≡ 0 → BeginsWithSignature file
  pub without_fault : NoneOf (Applies file place) (strict_reasons true)
  pub what : ℕ
  pub told_as : IsToldAs (chunk_at file place) what records

-- where records end that lie one behind another from a place on
abbrev pub ends_from : ℕ → List (List ℕ) → List ℕ
ends_from begin [] = []
ends_from begin (record_bytes ∷ records) = (begin + length record_bytes) ∷ ends_from (begin + length record_bytes) records

-- records stand in room: their bytes one behind another, and where each ends
pub record AreGiven (records : List (List ℕ)) (values ends : List ℕ) : Type 0 where
  pub joined : take (length (concat records)) values ≡ concat records
  pub ends_there : take (length records) ends ≡ ends_from 0 records

-- there is too little room for records
abbrev pub IsTooSmall : List (List ℕ) → (values ends : List ℕ) → Type 0
IsTooSmall records values ends = (length values < length (concat records)) ⊎ (length ends < length records)

-- the status by which records are given: 0 where there is room for them and 4 where there is too little, or 3 for want of memory
abbrev pub IsStatusFor : List (List ℕ) → (values ends : List ℕ) → (status : ℕ) → Type 0
IsStatusFor records values ends status =
    ((status ≡ 0) × (¬ IsTooSmall records values ends)) ⊎ ((status ≡ 4) × IsTooSmall records values ends) ⊎ (status ≡ 3)
