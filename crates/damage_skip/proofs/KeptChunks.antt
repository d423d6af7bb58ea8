-- Chunks that are kept, of which it may have been judged only whether records stand in them.
use Rattle.std.proofs.Common.{◌≡◌, ◌∙◌, ℕ, Bool, true, false, None, List, [], ◌∷◌, length, refl, ap, sym, inl, inr, arith}
use Rattle.std.specs.Prelude.{slice_index}
use Rattle.highway_hash.specs.Riegeli.{riegeli_hash}
use Rattle.chunk_header.specs.Chunks.{ChunkValue}
use Rattle.chunk_header.specs.SimpleChunks.{IsSimpleChunk, IsCompressed}
use Rattle.chunk_header.specs.Views.{HasRightHash, value_of_chunk}
use Rattle.chunk_header.specs.declared.Chunk.{Chunk}
use Rattle.chunk_reader.specs.Reasons.{HasBadContents, ContentApplies, NoneOf, IsFirstOf, content_reasons}
use Rattle.chunk_reader.specs.declared.reasons.Why.TheVariants as why
use Rattle.chunk_header.proofs.Decided.{IsDecided}
use Rattle.chunk_header.proofs.DecidedRecords.{records_decided}
use Rattle.damage_skip.specs.Pieces.{Kept, IsFoundAs, events_in, records_of}
use Rattle.damage_skip.specs.Regions.{region_as}
use Rattle.damage_skip.specs.Steps.{IsReadAs, kept_by, kept_as}
use Rattle.damage_skip.specs.declared.pieces.Found.TheVariants as what
use Rattle.damage_skip.specs.declared.progress.Progress.{Progress}

-- a compressed chunk holds no records
pub compressed_holds_none : (k : ChunkValue) → IsCompressed k → ¬ IsSimpleChunk k
compressed_holds_none k compressed simple =
    compressed.2 (ap (λ (xs : List ℕ). slice_index xs 0) simple.1.«data»)

-- one that is kept is an event, and no region
events_by : (begin end : ℕ) (k : ChunkValue) (d : IsDecided (IsSimpleChunk k))
    → events_in (record { begin = begin; end = end; what = kept_by k d } ∷ []) ≡ record { begin = begin; end = end; what = kept_by k d } ∷ []
events_by begin end k (inl (records, simple)) = refl
events_by begin end k (inr none) = refl

pub kept_event : (begin end : ℕ) (k : ChunkValue)
    → events_in (record { begin = begin; end = end; what = kept_as k } ∷ []) ≡ record { begin = begin; end = end; what = kept_as k } ∷ []
kept_event begin end k = events_by begin end k (records_decided k)

region_by : (begin end : ℕ) (k : ChunkValue) (d : IsDecided (IsSimpleChunk k)) → region_as begin end (kept_by k d) ≡ None
region_by begin end k (inl (records, simple)) = refl
region_by begin end k (inr none) = refl

pub kept_region : (begin end : ℕ) (k : ChunkValue) → region_as begin end (kept_as k) ≡ None
kept_region begin end k = region_by begin end k (records_decided k)

-- it gives no records where it holds none
none_by : (k : ChunkValue) (d : IsDecided (IsSimpleChunk k)) → (¬ IsSimpleChunk k) → records_of (kept_by k d) ≡ []
none_by k (inl simple) none = absurd (none simple)
none_by k (inr other) none = refl

pub kept_none : (k : ChunkValue) → (¬ IsSimpleChunk k) → records_of (kept_as k) ≡ []
kept_none k none = none_by k (records_decided k) none

-- and is what a chunk is found as that is kept, or holds records
found_by : (unread_ok : Bool) (k : ChunkValue) (d : IsDecided (IsSimpleChunk k)) → IsFoundAs unread_ok k (Kept k) → IsFoundAs unread_ok k (kept_by k d)
found_by unread_ok k (inl (records, simple)) found = (simple, refl)
found_by unread_ok k (inr none) found = found

pub kept_found : (unread_ok : Bool) (k : ChunkValue) → IsFoundAs unread_ok k (Kept k) → IsFoundAs unread_ok k (kept_as k)
kept_found unread_ok k found = found_by unread_ok k (records_decided k) found

simple_by : (unread_ok : Bool) (k : ChunkValue) (d : IsDecided (IsSimpleChunk k)) → IsSimpleChunk k → IsFoundAs unread_ok k (kept_by k d)
simple_by unread_ok k (inl (records, simple)) holds = (simple, refl)
simple_by unread_ok k (inr none) holds = absurd (none holds)

pub simple_found : (unread_ok : Bool) (k : ChunkValue) → IsSimpleChunk k → IsFoundAs unread_ok k (kept_as k)
simple_found unread_ok k holds = simple_by unread_ok k (records_decided k) holds

-- a simple chunk that holds records has no bad contents
good_simple : (k : ChunkValue) → IsSimpleChunk k → ¬ HasBadContents k
good_simple k (records, simple) (inl broken) = broken (record {
  signature = λ is. absurd (omega (arith, is, simple.kind));
  metadata = λ is. absurd (omega (arith, is, simple.kind));
  padding = λ is. absurd (omega (arith, is, simple.kind));
})
good_simple k (records, simple) (inr (kind, inl none)) = omega (arith, ap length (sym simple.«data» ∙ none))
good_simple k (records, simple) (inr (kind, inr (zero_first, no_records))) = no_records (records, simple)

-- and under the right hash no reason passes over it
none_of-simple : (unread_ok : Bool) (hash : ℕ) (k : ChunkValue) → hash ≡ riegeli_hash k.«data» → IsSimpleChunk k
    → NoneOf (ContentApplies hash k) (content_reasons unread_ok)
none_of-simple true hash k right holds =
    (λ wrong. wrong (sym right), (good_simple k holds, (λ other. other.simple holds.1.kind, tt)))
none_of-simple false hash k right holds = (
  λ wrong. wrong (sym right),
  (
    good_simple k holds,
    (
      λ compressed. compressed_holds_none k compressed holds,
      (λ transposed. absurd (omega (arith, transposed, holds.1.kind)), (λ other. other.simple holds.1.kind, tt)),
    ),
  ),
)

-- so it is kept where it is only judged
pub judged-kept : (walk : Progress) (chunk : Chunk) → HasRightHash chunk → walk.decodes ≡ false → IsSimpleChunk (value_of_chunk chunk)
    → IsReadAs walk chunk (what.Kept chunk false)
judged-kept walk chunk right judges holds =
    let k : ChunkValue = value_of_chunk chunk in
    (none_of-simple walk.unread_ok chunk.header.data_hash k right holds, simple_found walk.unread_ok k holds, (refl, inr (judges, holds)))

-- and one whose contents are bad is passed over
first_of-bad : (unread_ok : Bool) (hash : ℕ) (k : ChunkValue) → hash ≡ riegeli_hash k.«data» → HasBadContents k
    → IsFirstOf (ContentApplies hash k) (content_reasons unread_ok) why.Contents
first_of-bad true hash k right bad = inr (λ wrong. wrong (sym right), inl (bad, refl))
first_of-bad false hash k right bad = inr (λ wrong. wrong (sym right), inl (bad, refl))

pub judged-bad : (walk : Progress) (chunk : Chunk) → HasRightHash chunk → HasBadContents (value_of_chunk chunk)
    → IsReadAs walk chunk (what.Skipped why.Contents)
judged-bad walk chunk right bad = first_of-bad walk.unread_ok chunk.header.data_hash (value_of_chunk chunk) right bad
