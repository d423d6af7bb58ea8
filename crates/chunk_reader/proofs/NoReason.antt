-- No reason applies to a chunk that is laid and allowed.
use Rattle.std.proofs.Common.{◌∙◌, ℕ, ◌+◌, ◌-◌, ◌≤◌, Bool, true, false, List, [], ◌∷◌, length, drop, sym, ap, subst, inl, inr, arith}
use Rattle.std.specs.Prelude.{slice_range}
use Rattle.std.proofs.lemmas.List.{length-take, length-drop}
use Rattle.highway_hash.specs.Riegeli.{riegeli_hash}
use Rattle.block_layout.proofs.Ends.{end_of_mono}
use Rattle.block_layout.proofs.ChunkEnds.{chunk_end_of_past_bytes}
use Rattle.chunk_header.specs.Chunks.{ChunkValue, HeaderValue}
use Rattle.chunk_header.specs.SimpleChunks.{IsCompressed}
use Rattle.meta_chunk.specs.Laid.{IsLaid, end_of_chunk}
use Rattle.meta_chunk.proofs.LaidChunks.{end_of_chunk_after, end-IsLaid}
use Rattle.chunk_header.specs.Kinds.{IsOfNoName}
use Rattle.meta_chunk.specs.Files.{IsPlain, IsTransposed}
use Rattle.chunk_reader.specs.Places.{end_at, chunk_at}
use Rattle.chunk_reader.specs.Reasons.{Applies, NoneOf, IsFirstOf, content_reasons, strict_reasons, HasBadContents}
use Rattle.chunk_reader.specs.Faults.{IsAllowed}
use Rattle.chunk_reader.specs.declared.reasons.Why.{Why}
use Rattle.chunk_reader.specs.declared.reasons.Why.TheVariants as why
use Rattle.chunk_reader.proofs.LaidAt.{header_at-laid, right_header-laid, end_at-laid, chunk_at-laid, data_hash-laid, headers-laid}
use Rattle.chunk_reader.proofs.AllowedChunks.{allowed_small, allowed_good, allowed_named, plain_read}

-- a chunk that is laid in a file ends in it
pub end-laid_in : (begin : ℕ) (k : ChunkValue) (file : List ℕ) (end : ℕ) → IsLaid begin k (slice_range file begin end)
    → end_of_chunk begin k ≤ length file
end-laid_in begin k file end h =
    omega (
      arith,
      end-IsLaid begin k (slice_range file begin end) h,
      end_of_chunk_after begin k,
      length-take (end - begin) (drop begin file),
      length-drop begin file,
    )

pub within-laid : (begin : ℕ) (k : ChunkValue) (file : List ℕ) (end : ℕ) → IsLaid begin k (slice_range file begin end)
    → end_at file begin ≤ length file
within-laid begin k file end h = omega (arith, end_at-laid begin k file end h, end-laid_in begin k file end h)

-- its header can be read
pub not_short : (begin : ℕ) (k : ChunkValue) (file : List ℕ) (end : ℕ) → IsLaid begin k (slice_range file begin end)
    → ¬ Applies file begin why.Short
not_short begin k file end h short =
    omega (
      arith,
      short,
      end_of_mono begin 40 (40 + length k.«data») (omega arith),
      chunk_end_of_past_bytes begin (40 + length k.«data») k.num_records,
      end-laid_in begin k file end h,
    )

pub not_header_hash : (begin : ℕ) (k : ChunkValue) (file : List ℕ) (end : ℕ) → IsLaid begin k (slice_range file begin end)
    → ¬ Applies file begin why.HeaderHash
not_header_hash begin k file end h wrong = wrong (right_header-laid begin k file end h)

-- the file has the whole chunk
pub not_truncated : (begin : ℕ) (k : ChunkValue) (file : List ℕ) (end : ℕ) → IsLaid begin k (slice_range file begin end)
    → ¬ Applies file begin why.Truncated
not_truncated begin k file end h truncated = omega (arith, truncated, within-laid begin k file end h)

-- its blocks and its data are right
pub not_block_header : (begin : ℕ) (k : ChunkValue) (file : List ℕ) (end : ℕ) → IsLaid begin k (slice_range file begin end)
    → ¬ Applies file begin why.BlockHeader
not_block_header begin k file end h (block, wrong) =
    wrong.differs (headers-laid begin k file end h block wrong.is_block wrong.from wrong.below)

pub not_data_hash : (begin : ℕ) (k : ChunkValue) (file : List ℕ) (end : ℕ) → IsLaid begin k (slice_range file begin end)
    → ¬ Applies file begin why.DataHash
not_data_hash begin k file end h differs =
    differs (ap (λ (c : ChunkValue). riegeli_hash c.«data») (chunk_at-laid begin k file end h) ∙ sym (data_hash-laid begin k file end h))

-- what is false of the chunk is false of the chunk at its place
not_at : (P : ChunkValue → Type 0) (begin : ℕ) (k : ChunkValue) (file : List ℕ) (end : ℕ) → IsLaid begin k (slice_range file begin end)
    → ¬ P k → ¬ P (chunk_at file begin)
not_at P begin k file end h false_of_k true_there = false_of_k (subst P (chunk_at-laid begin k file end h) true_there)

-- its content is allowed
pub not_too_large : (unread_ok : Bool) (begin : ℕ) (k : ChunkValue) (file : List ℕ) (end : ℕ) → IsLaid begin k (slice_range file begin end) → IsAllowed unread_ok k
    → ¬ Applies file begin why.TooLarge
not_too_large unread_ok begin k file end h allowed large =
    omega (arith, large, allowed_small unread_ok k allowed, ap (λ (v : HeaderValue). v.data_size) (header_at-laid begin k file end h))

pub not_contents : (unread_ok : Bool) (begin : ℕ) (k : ChunkValue) (file : List ℕ) (end : ℕ) → IsLaid begin k (slice_range file begin end) → IsAllowed unread_ok k
    → ¬ Applies file begin why.Contents
not_contents unread_ok begin k file end h allowed = not_at HasBadContents begin k file end h (allowed_good unread_ok k allowed)

pub not_unknown_kind : (unread_ok : Bool) (begin : ℕ) (k : ChunkValue) (file : List ℕ) (end : ℕ) → IsLaid begin k (slice_range file begin end) → IsAllowed unread_ok k
    → ¬ Applies file begin why.UnknownKind
not_unknown_kind unread_ok begin k file end h allowed =
    not_at (λ (c : ChunkValue). IsOfNoName c.kind) begin k file end h (allowed_named unread_ok k allowed)

pub not_compressed : (begin : ℕ) (k : ChunkValue) (file : List ℕ) (end : ℕ) → IsLaid begin k (slice_range file begin end) → IsPlain k
    → ¬ Applies file begin why.Compressed
not_compressed begin k file end h plain = not_at IsCompressed begin k file end h (λ is. plain_read k plain (inr is))

pub not_transposed : (begin : ℕ) (k : ChunkValue) (file : List ℕ) (end : ℕ) → IsLaid begin k (slice_range file begin end) → IsPlain k
    → ¬ Applies file begin why.Transposed
not_transposed begin k file end h plain = not_at IsTransposed begin k file end h (λ is. plain_read k plain (inl is))

-- so no reason applies to its content, and none to it
pub no_content_reason : (unread_ok : Bool) (begin : ℕ) (k : ChunkValue) (file : List ℕ) (end : ℕ)
    → IsLaid begin k (slice_range file begin end) → IsAllowed unread_ok k → NoneOf (Applies file begin) (content_reasons unread_ok)
no_content_reason false begin k file end h allowed = (
  not_data_hash begin k file end h,
  (
    not_contents false begin k file end h allowed,
    (
      not_compressed begin k file end h allowed,
      (not_transposed begin k file end h allowed, (not_unknown_kind false begin k file end h allowed, tt)),
    ),
  ),
)
no_content_reason true begin k file end h allowed = (
  not_data_hash begin k file end h,
  (not_contents true begin k file end h allowed, (not_unknown_kind true begin k file end h allowed, tt)),
)

pub no_reason : (unread_ok : Bool) (begin : ℕ) (k : ChunkValue) (file : List ℕ) (end : ℕ)
    → IsLaid begin k (slice_range file begin end) → IsAllowed unread_ok k → NoneOf (Applies file begin) (strict_reasons unread_ok)
no_reason unread_ok begin k file end h allowed = (
  not_short begin k file end h,
  (
    not_header_hash begin k file end h,
    (
      not_truncated begin k file end h,
      (
        not_too_large unread_ok begin k file end h allowed,
        (not_block_header begin k file end h, no_content_reason unread_ok begin k file end h allowed),
      ),
    ),
  ),
)

-- where none of the reasons applies, none is the first that does
pub none_is_first : (P : Why → Type 0) (reasons : List Why) (first : Why) → NoneOf P reasons → ¬ IsFirstOf P reasons first
none_is_first P [] first none is = is
none_is_first P (w ∷ reasons) first none (inl (applies, same)) = none.0 applies
none_is_first P (w ∷ reasons) first none (inr (not, later)) = none_is_first P reasons first none.1 later
