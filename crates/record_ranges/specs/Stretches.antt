-- Inside. What one thread reads of a file: the chunks between two places, and of their records those of one part. Own.
use Rattle.std.specs.Prelude.{◌≡◌, ℕ, ◌≤◌, ◌⊎◌, List, [], ◌∷◌, ◌++◌, length, map, slice_range}
use Rattle.std.specs.List.{AllByRecursion, AllZip, enumerate_from}
use Rattle.record_values.specs.declared.file_totals.Totals.{Totals}
use Rattle.chunk_header.specs.Chunks.{ChunkValue}
use Rattle.chunk_header.specs.Views.{value_of_chunk}
use Rattle.meta_chunk.specs.Files.{totals_of, Holds, IsPlain, IsReadable, ArePlaced, AreLaid, HoldEach, end_of_chunks, placed_from}
use Rattle.meta_chunk.specs.Chains.{IsReadableChain}
use Rattle.chunk_reader.specs.declared.judging.Judged.{Judged}
use Rattle.record_ranges.specs.declared.stretches.Span.{Span}
use Rattle.record_ranges.specs.declared.stretches.Stretch.{Stretch}
use Rattle.record_ranges.specs.Ranges.{AreRangesOf, records_between}

-- from one place of a file up to another these plain chunks are laid, and they hold these lists of records
pub record AreChunksBetween (file : List ℕ) (from to : ℕ) (ks : List ChunkValue) (lists : List (List (List ℕ))) : Type 0 where
  pub each : AllByRecursion IsPlain ks
  pub laid : AreLaid from ks (slice_range file from to)
  pub end : end_of_chunks from ks ≡ to
  pub held : HoldEach ks lists

-- plain chunks are laid from one place of a file up to another
abbrev pub AreJudgedBetween : List ℕ → (from to : ℕ) → Type 0
AreJudgedBetween file from to =
    (ks : List ChunkValue) × (lists : List (List (List ℕ))) × AreChunksBetween file from to ks lists

-- these records are kept behind others, where `kept_as` tells what records are kept in
abbrev pub Adds : {K : Type 0} → (List (List ℕ) → K) → (before after : K) → List (List ℕ) → Type 0
Adds kept_as before after more =
    (records : List (List ℕ)) → before ≡ kept_as records → after ≡ kept_as (records ++ more)

-- parts meet one after another, from a last chunk that begins and ends at these places up to the size: each begins where the
-- part before it ends, or where the last chunk of that begins
abbrev pub MeetUpTo : {K : Type 0} → (size last end : ℕ) → List (Stretch K) → Type 0
MeetUpTo size last end [] = end ≡ size
MeetUpTo size last end (s ∷ parts) = ((s.begin ≡ last) ⊎ (s.begin ≡ end)) × MeetUpTo size s.last s.end parts

-- the parts of a file of so many bytes from a place on, by the cuts between them
abbrev pub spans_from : (size from : ℕ) → List ℕ → List Span
spans_from size from [] = record { from = from; to = size } ∷ []
spans_from size from (cut ∷ cuts) = record { from = from; to = cut } ∷ spans_from size cut cuts

-- a part does not end before it begins, nor past the size
abbrev pub LiesWithin : ℕ → Span → Type 0
LiesWithin size span = (span.from ≤ span.to) × (span.to ≤ size)

module _ {K : Type 0} (kept_as : List (List ℕ) → K) where
  -- plain chunks are laid from the stretch's begin to its end, as well as to where its last chunk begins, and of their records
  -- those of the part are kept
  pub record IsJudgedStretch (file : List ℕ) (span : Span) (s : Stretch K) : Type 0 where
    pub chunks : List ChunkValue
    pub lists : List (List (List ℕ))
    pub to_last : AreJudgedBetween file s.begin s.last
    pub to_end : AreChunksBetween file s.begin s.end chunks lists
    pub kept : s.kept ≡ kept_as (records_between span.from span.to (placed_from s.begin chunks lists))

  -- and it begins at or before the part, and ends in the file, but not before the part
  pub record IsStretchOf (file : List ℕ) (span : Span) (s : Stretch K) : Type 0 where
    pub judged : IsJudgedStretch file span s
    pub before : s.begin ≤ span.from
    pub past : span.to ≤ s.end
    pub within : s.end ≤ length file

  -- a stretch of no chunks, at a place
  abbrev pub stretch_at : ℕ → Stretch K
  stretch_at place = record { begin = place; last = place; end = place; kept = kept_as [] }

  -- a stretch goes on by a chunk that was judged, and keeps those of its records that are of the part
  pub record TakesChunk (judged : Judged) (span : Span) (before after : Stretch K) : Type 0 where
    pub last : after.last ≡ judged.begin
    pub end : after.end ≡ judged.end
    pub held : List (List ℕ)
    pub holds : Holds (value_of_chunk judged.chunk) held
    pub adds : Adds kept_as before.kept after.kept (records_between span.from span.to (enumerate_from judged.begin held))

  -- the file has no fault, and of all its records those of the part are kept
  pub record IsReadFromFront (file : List ℕ) (span : Span) (s : Stretch K) : Type 0 where
    pub chunks : List ChunkValue
    pub lists : List (List (List ℕ))
    pub is_file : IsReadable chunks file
    pub held : HoldEach chunks lists
    pub kept : s.kept ≡ kept_as (records_between span.from span.to (placed_from 0 chunks lists))

  -- of the chunks at the front of a file that these totals count, the records of the part are kept
  pub record IsReadSoFar (file : List ℕ) (span : Span) (totals : Totals) (kept : K) : Type 0 where
    pub chunks : List ChunkValue
    pub lists : List (List (List ℕ))
    pub chain : IsReadableChain chunks file totals.bytes
    pub counted : totals ≡ totals_of chunks
    pub held : HoldEach chunks lists
    pub are : kept ≡ kept_as (records_between span.from span.to (placed_from 0 chunks lists))

  -- the file has so many bytes and no fault, and of its records each stretch keeps those of the part of its number
  pub record AreReadOf (file : List ℕ) (size : ℕ) (spans : List Span) (parts : List (Stretch K)) : Type 0 where
    pub chunks : List ChunkValue
    pub placed : List (ℕ × List ℕ)
    pub is_file : IsReadable chunks file
    pub are_placed : ArePlaced chunks placed
    pub sized : size ≡ length file
    pub each : AllZip (λ span s. s.kept ≡ kept_as (records_between span.from span.to placed)) spans parts

  -- the file has no fault, and each stretch keeps one of its parts between the cuts
  pub record AreRangesIn (file cuts : List ℕ) (parts : List (Stretch K)) : Type 0 where
    pub ranges : List (List (List ℕ))
    pub are : AreRangesOf file cuts ranges
    pub kept : map (λ s. s.kept) parts ≡ map kept_as ranges
