-- One more file behind others: its totals, and what a sink takes of it.
use Rattle.std.proofs.Common.{◌≡◌, ◌∙◌, ℕ, ◌+◌, ◌%◌, ◌<◌, ◌≤◌, ◌⊎◌, Option, Some, None, Ok, Err, List, [], length, IfSome, refl, ap, true, inl, inr, arith}
use Rattle.std.proofs.lemmas.Bool.{cases_lt}
use Rattle.record_values.specs.declared.file_totals.Totals.{Totals}
use Rattle.record_io.specs.Outside.{Takes, TakesShort}
use Rattle.record_io.proofs.Calls.{Takes-append, TakesFront-append, TakesShort-append, TakesShort-longer}
use Rattle.block_layout.specs.Layout.{IsBlock, IsBoundary}
use Rattle.block_layout.specs.NextPlaces.{IsOnBoundary}
use Rattle.chunk_header.specs.Chunks.{ChunkValue}
use Rattle.meta_chunk.specs.Files.{totals_of, IsWellFormed, end_of_chunks}
use Rattle.meta_chunk.specs.PaddingSizes.{padding_at}
use Rattle.meta_chunk.proofs.Joins.{end_of_chunks_past}
use Rattle.meta_chunk.proofs.PaddingLemmas.{IsBlock-padding_at, padding_at-block, padding_at-inside}
use Rattle.ordered_writer.specs.Padding.{padding_bytes}
use Rattle.chunk_reader.specs.Faults.{IsFault}
use Rattle.chunk_reader.specs.Progress.{AreInBounds}
use Rattle.chunk_reader.specs.declared.reasons.Fault.{Fault}
use Rattle.record_join.specs.Joins.{totals_joined, TakesCopied, TakesNext}
use Rattle.record_join.specs.declared.joins.JoinEnd.{JoinEnd}
use Rattle.record_join.specs.declared.joins.JoinEnd.TheVariants as end

pub on_boundary : (p : ℕ) → IsOnBoundary p → IsBoundary p
on_boundary p h = elim (cases_lt 0 (p % 65536)) [ inl inside ↦ inr (h inside) | inr none ↦ inl (omega (arith, none)) ]

-- there is one chunk of padding, or none at a block
pub padding_count : (p : ℕ) → IsBoundary p
    → ((end_of_chunks p (padding_at p) ≡ p) × (length (padding_at p) ≡ 0)) ⊎ ((p < end_of_chunks p (padding_at p)) × (length (padding_at p) ≡ 1))
padding_count p (inl block) =
    let none : padding_at p ≡ [] = padding_at-block p block in
    inl (ap (end_of_chunks p) none, ap length none)
padding_count p (inr inside) =
    let some = padding_at-inside p (omega (arith, inside)) in
    let block : IsBlock (end_of_chunks p (padding_at p)) = IsBlock-padding_at p (inr inside) in
    inr (omega (arith, end_of_chunks_past p (padding_at p), block, inside), ap length some)

-- the totals, by where the padding ends and how many chunks it is
pub counted_behind : (before file : Totals) (begin count : ℕ) → begin ≡ end_of_chunks before.bytes (padding_at before.bytes) → count ≡ length (padding_at before.bytes)
    → record { chunks = before.chunks + count + file.chunks; records = before.records + file.records; bytes = begin + file.bytes; unread = before.unread + file.unread }
    ≡ totals_joined before file
counted_behind before file begin count end chunks =
    ap (λ (n : ℕ). record { chunks = before.chunks + n + file.chunks; records = before.records + file.records; bytes = begin + file.bytes; unread = before.unread + file.unread }) chunks
    ∙ ap (λ (p : ℕ). record { chunks = before.chunks + length (padding_at before.bytes) + file.chunks; records = before.records + file.records; bytes = p + file.bytes; unread = before.unread + file.unread }) end

-- they are within bounds as those of both
pub bounds_behind : (before file : Totals) (most begin count : ℕ) → AreInBounds most before → AreInBounds most file → IsBlock begin → before.bytes + count ≤ begin
    → AreInBounds (begin + file.bytes)
    (record { chunks = before.chunks + count + file.chunks; records = before.records + file.records; bytes = begin + file.bytes; unread = before.unread + file.unread })
bounds_behind before file most begin count h g block past = record {
  within = omega arith;
  boundary = λ inside. omega (arith, block, inside, g.boundary (omega (arith, block, inside)));
  signed = λ some. elim (cases_lt 0 file.bytes) [
    | inl bytes ↦ omega (arith, g.signed bytes)
    | inr none ↦ omega (arith, none, some, block)
  ];
  chunks = omega (arith, h.chunks, g.chunks, past);
  records = omega (arith, h.records, g.records, past);
  unread = omega (arith, h.unread, g.unread, past);
}

-- a file that was judged to be well-formed chunks of these totals
abbrev pub HasTotals : Option (List ℕ) → Totals → Type 0
HasTotals bytes totals = IfSome bytes (λ file. (ks : List ChunkValue) × IsWellFormed ks file × (totals ≡ totals_of ks))

-- of a file that is refused nothing was put
pub refused_behind : (bytes taken : Option (List ℕ)) (index : ℕ) (front : Totals) (fault : Fault) → IfSome bytes (λ file. IsFault true file fault)
    → IfSome bytes (λ file. TakesNext (Err (end.Refused index fault)) index front file taken taken)
refused_behind None taken index front fault is = tt
refused_behind (Some file) taken index front fault is = (refl, is, refl)

module _ (a b : Option (List ℕ)) (index : ℕ) (front file_totals : Totals) where
  -- of the padding before it not all was put
  pub short_of_padding : (bytes : Option (List ℕ)) → HasTotals bytes file_totals → TakesShort a b (padding_bytes front.bytes)
      → IfSome bytes (λ file. TakesNext (Err end.Made) index front file a b)
  short_of_padding None h short = tt
  short_of_padding (Some file) h short = ((h.0, h.1), TakesShort-longer a b (padding_bytes front.bytes) file short)

  -- the padding was put, and so much of the file
  pub copied_behind : (X : Type 0) (why : JoinEnd) (bytes c : Option (List ℕ)) → HasTotals bytes file_totals → Takes a b (padding_bytes front.bytes)
      → IfSome bytes (λ file. TakesCopied {X = X} (Err why) file b c) → IfSome bytes (λ file. TakesNext (Err why) index front file a c)
  copied_behind X why None c h padding copied = tt
  copied_behind X (end.Refused number fault) (Some file) c h padding copied = absurd copied
  copied_behind X end.Store (Some file) c h padding copied =
      inr ((h.0, h.1), TakesFront-append a b c (padding_bytes front.bytes) file padding copied)
  copied_behind X end.Made (Some file) c h padding copied =
      ((h.0, h.1), TakesShort-append a b c (padding_bytes front.bytes) file padding copied)

  -- and the whole file
  pub whole_behind : (totals : Totals) (bytes c : Option (List ℕ)) → HasTotals bytes file_totals → totals ≡ totals_joined front file_totals
      → Takes a b (padding_bytes front.bytes) → IfSome bytes (λ file. Takes b c file)
      → IfSome bytes (λ file. TakesNext (Ok totals) index front file a c)
  whole_behind totals None c h is padding whole = tt
  whole_behind totals (Some file) c h is padding whole = (
    (h.0, h.1, is ∙ ap (totals_joined front) h.2),
    Takes-append a b c (padding_bytes front.bytes) file padding whole,
  )
