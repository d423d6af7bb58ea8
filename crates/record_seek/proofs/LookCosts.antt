-- What a look at the first record from a chunk on takes of a file of chunks.
use Rattle.std.proofs.Common.{◌≡◌, ◌∙◌, ℕ, zero, suc, ◌+◌, ◌^◌, ◌≤◌, ◌==◌, cond, Option, Some, None, IfSome, List, [], ◌∷◌, length, take, drop, sym, ap, subst, inl, inr, arith}
use Rattle.std.specs.Prelude.{slice_get}
use Rattle.std.proofs.lemmas.List.{drop_more}
use Rattle.std.proofs.lemmas.List.Sums.{sum_by-cons}
use Rattle.std.proofs.lemmas.Option.{same_Some, slice_get_within, get_or_from_slice_get}
use Rattle.chunk_header.specs.Chunks.{ChunkValue}
use Rattle.meta_chunk.specs.Files.{IsWellFormed, begin_of, end_of_chunks}
use Rattle.meta_chunk.specs.Laid.{end_of_chunk}
use Rattle.meta_chunk.proofs.Begins.{begin_of-next}
use Rattle.chunk_reader.specs.Holders.{TellsBegin, ArePlacesBetween}
use Rattle.chunk_reader.specs.Places.{header_at, end_at}
use Rattle.chunk_reader.specs.Reasons.{Applies, NoneOf, unpassed_reasons}
use Rattle.chunk_reader.specs.SearchBounds.{chunks_without_records, greatest_length_from}
use Rattle.chunk_reader.proofs.Blocks.{stands_within}
use Rattle.chunk_reader.proofs.HeadersTell.{passed_below, stands_below, told_end, told_records, told_is, places_are, lies_of}
use Rattle.chunk_reader.proofs.Rooms.{IsSized}
use Rattle.record_seek.specs.Met.{HaveNoRecords}
use Rattle.record_seek.specs.Steps.{IsPaidOn, look_bound}
use Rattle.record_seek.proofs.Ways.{same_told}

-- chunks without records are counted chunk by chunk
without_cons : (k : ChunkValue) (ks : List ChunkValue)
    → chunks_without_records (k ∷ ks) ≡ cond (k.num_records == 0) 1 0 + chunks_without_records ks
without_cons k ks = sum_by-cons (λ (c : ChunkValue). cond (c.num_records == 0) 1 0) k ks

without_more : (k : ChunkValue) (ks : List ChunkValue) → k.num_records ≡ 0 → chunks_without_records (k ∷ ks) ≡ 1 + chunks_without_records ks
without_more k ks none = without_cons k ks ∙ ap (λ (n : ℕ). cond (n == 0) 1 0 + chunks_without_records ks) none

pub without_drop : (ks : List ChunkValue) (h : ℕ) → chunks_without_records (drop h ks) ≤ chunks_without_records ks
without_drop [] zero = omega arith
without_drop [] (suc h) = omega arith
without_drop (k ∷ ks) zero = omega arith
without_drop (k ∷ ks) (suc h) = omega (arith, without_cons k ks, without_drop ks h)

drop_one : (ks : List ChunkValue) (h : ℕ) (k : ChunkValue) → slice_get ks h ≡ Some k → drop h ks ≡ k ∷ drop (h + 1) ks
drop_one ks h k at =
    drop_more ks h k (slice_get_within ks h k at)
    ∙ ap (λ (x : ChunkValue). x ∷ drop (h + 1) ks) (get_or_from_slice_get ks h k k at)

-- no chunk is longer than the longest
longest_from : (place : ℕ) (ks : List ChunkValue) (j : ℕ) (k : ChunkValue) → slice_get ks j ≡ Some k
    → end_of_chunk (end_of_chunks place (take j ks)) k ≤ end_of_chunks place (take j ks) + greatest_length_from place ks
longest_from place [] j k at = absurd (cc)
longest_from place (x ∷ ks) zero k at =
    let same : end_of_chunk place x ≡ end_of_chunk place k = ap (end_of_chunk place) (same_Some x k at) in
    grind (arith)
longest_from place (x ∷ ks) (suc j) k at =
    let rest = longest_from (end_of_chunk place x) ks j k at in
    grind (arith)

pub longest : (ks : List ChunkValue) (j : ℕ) (k : ChunkValue) → slice_get ks j ≡ Some k
    → begin_of ks (j + 1) ≤ begin_of ks j + greatest_length_from 0 ks
longest ks j k at = omega (arith, begin_of-next ks j k at, longest_from 0 ks j k at)

module _ (ks : List ChunkValue) (file : List ℕ) (well_formed : IsWellFormed ks file) where
  -- chunks that have no records are some of those without
  pub empties_within : (places : List ℕ) (h to : ℕ) → ArePlacesBetween file (begin_of ks h) to places → HaveNoRecords file places
      → length places ≤ chunks_without_records (drop h ks)
  empties_within [] h to same none = omega arith
  empties_within (place ∷ places) h to (same, passed, rest) none =
      let k = stands_below ks file well_formed h (passed_below file (begin_of ks h) passed) in
      let count : (header_at file place).num_records ≡ k.0.num_records =
      ap (λ (p : ℕ). (header_at file p).num_records) same ∙ told_records ks file well_formed h k.0 k.1 in
      let more : chunks_without_records (drop h ks) ≡ 1 + chunks_without_records (drop (h + 1) ks) =
      ap chunks_without_records (drop_one ks h k.0 k.1) ∙ without_more k.0 (drop (h + 1) ks) (sym count ∙ none.0) in
      let on = empties_within places (h + 1) to
      (subst (λ (p : ℕ). ArePlacesBetween file p to places) (told_end ks file well_formed h k.0 k.1) rest) none.1 in
      omega (arith, more, on)

  -- the chunk at the place behind them is no longer than the longest
  end_near : (places : List ℕ) (h place : ℕ) → h ≤ length ks → ArePlacesBetween file (begin_of ks h) place places
      → NoneOf (Applies file place) unpassed_reasons → end_at file place ≤ place + greatest_length_from 0 ks
  end_near places h place inside between none =
      let there = places_are ks file well_formed places h place inside between in
      let j : ℕ = h + length places in
      let k = stands_below ks file well_formed j (omega (arith, there.1, passed_below file place none)) in
      let end : end_at file place ≡ begin_of ks (j + 1) = ap (end_at file) there.1 ∙ told_end ks file well_formed j k.0 k.1 in
      omega (arith, end, there.1, longest ks j k.0 k.1)

  -- so much a look takes
  look_takes : (h begin spent now : ℕ) → begin ≡ begin_of ks h → h ≤ length ks → IsPaidOn begin spent now file → now ≤ spent + look_bound ks
  look_takes h begin spent now is inside on =
      let between : ArePlacesBetween file (begin_of ks h) on.place on.places =
      subst (λ (p : ℕ). ArePlacesBetween file p on.place on.places) is on.between in
      let few = empties_within on.places h on.place between on.none_before in
      elim on.paid [
        | inl header ↦ omega (arith, header, few, without_drop ks h)
        | inr (none, some, chunk) ↦ omega (arith, chunk, few, without_drop ks h, end_near on.places h on.place inside between none)
      ]

-- with the header of the block that tells where to look
abbrev pub BlockTakes : (spent now : ℕ) → List ℕ → Type 0
BlockTakes spent now file = (ks : List ChunkValue) → IsWellFormed ks file → now ≤ spent + (24 + look_bound ks)

pub block-takes : (bytes : Option (List ℕ)) (spent now : ℕ) → now ≤ spent + 24 → IfSome bytes (BlockTakes spent now)
block-takes None spent now more = tt
block-takes (Some file) spent now more = λ ks well_formed. omega (arith, more)

pub told-takes : (bytes bytes_now : Option (List ℕ)) (size block begin spent now then : ℕ) → bytes_now ≡ bytes → IsSized bytes (Some size)
    → size ≤ 2 ^ 60 → IfSome bytes (λ file. TellsBegin file block begin) → now ≤ spent + 24 → IfSome bytes_now (IsPaidOn begin now then)
    → IfSome bytes (BlockTakes spent then)
told-takes None bytes_now size block begin spent now then same sized reach told more look = tt
told-takes (Some file) bytes_now size block begin spent now then same sized reach told more look =
    let on : IsPaidOn begin now then file = same_told (IsPaidOn begin now then) (Some file) bytes_now same look in
    let (previous, next, stands, is) = told in
    λ ks well_formed.
    let holder = lies_of ks file well_formed block (omega (arith, stands_within file block previous next stands)) in
    let begins = told_is ks file well_formed block begin holder.0 (omega (arith, sized, reach)) stands.is_block holder.1 told in
    omega (arith, more, look_takes ks file well_formed holder.0 begin now then begins (omega (arith, holder.1.number)) on)
