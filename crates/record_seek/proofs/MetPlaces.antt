-- The places that a search by key comes to.
use Rattle.std.proofs.Common.{◌≡◌, ◌∙◌, ℕ, ◌+◌, ◌^◌, ◌≤◌, false, List, length, refl, sym, ap, subst, inl, inr, arith}
use Rattle.std.proofs.lemmas.Bool.{cases_lt}
use Rattle.block_layout.specs.Layout.{IsBoundary}
use Rattle.block_layout.proofs.ChunkEnds.{chunk_end_of_boundary}
use Rattle.chunk_header.specs.Chunks.{ChunkValue}
use Rattle.meta_chunk.specs.Files.{IsPlain, IsWellFormed, IsReadable, begin_of}
use Rattle.chunk_reader.specs.Places.{header_at, end_at}
use Rattle.chunk_reader.specs.Reasons.{Applies, IsFirstOf, strict_reasons}
use Rattle.chunk_reader.specs.declared.reasons.Fault.{Fault}
use Rattle.chunk_reader.proofs.Blocks.{stands_within}
use Rattle.chunk_reader.proofs.ChainSteps.{each_at}
use Rattle.chunk_reader.proofs.HeadersTell.{passed_below, laid_at, stands_below, told_end, told_is, tells, lies_of}
use Rattle.chunk_reader.proofs.NoReason.{no_reason, none_is_first}
use Rattle.record_seek.specs.Met as met
use Rattle.record_seek.specs.Met.{IsMetBySearch, IsMetFault}

-- each is a boundary of the file
pub met_boundary : {file : List ℕ} {place : ℕ} → IsMetBySearch file place → IsBoundary place
met_boundary met.front = inl refl
met_boundary (met.told (previous, next, stands, is)) = subst IsBoundary (sym is) stands.sane.from_boundary
met_boundary {file} (met.behind {place = place} here none) =
    chunk_end_of_boundary place (40 + (header_at file place).data_size) (header_at file place).num_records

pub met_within : {file : List ℕ} {place : ℕ} → IsMetBySearch file place → place ≤ length file
met_within met.front = omega arith
met_within {file} (met.told {block = block} (previous, next, stands, is)) = omega (arith, is, stands_within file block previous next stands)
met_within {file} (met.behind {place = place} here none) =
    elim (cases_lt (length file) (end_at file place)) [
      | inl past ↦ absurd (none.1.1.0 past)
      | inr within ↦ within
    ]

-- in a file of chunks it is where one begins, or where the last one ends
pub met_begin : (ks : List ChunkValue) {file : List ℕ} {place : ℕ} → IsWellFormed ks file → length file ≤ 2 ^ 60 → IsMetBySearch file place
    → (j : ℕ) × (place ≡ begin_of ks j)
met_begin ks well_formed reach met.front = (0, refl)
met_begin ks {file} well_formed reach (met.told {block = block} {place = place} (previous, next, stands, is)) =
    let holder = lies_of ks file well_formed block (omega (arith, stands_within file block previous next stands)) in
    (holder.0, told_is ks file well_formed block place holder.0 reach stands.is_block holder.1 (previous, next, stands, is))
met_begin ks {file} well_formed reach (met.behind {place = place} here none) =
    let (j, is) = met_begin ks well_formed reach here in
    let k = stands_below ks file well_formed j (omega (arith, is, passed_below file place none)) in
    (j + 1, ap (end_at file) is ∙ told_end ks file well_formed j k.0 k.1)

-- so no fault is met in a file without fault
pub no_met_fault : (ks : List ChunkValue) (file : List ℕ) (fault : Fault) → IsWellFormed ks file → IsReadable ks file → length file ≤ 2 ^ 60
    → ¬ IsMetFault file fault
no_met_fault ks file fault well_formed plain reach (inl (block, refused)) =
    let holder = lies_of ks file well_formed block refused.below in
    let (previous, next, stands, is) = tells ks file well_formed block holder.0 reach refused.is_block holder.1 in
    absurd (refused.unread previous next stands)
no_met_fault ks file fault well_formed plain reach (inr (place, here, below, verdict)) =
    let (j, is) = met_begin ks well_formed reach here in
    let k = stands_below ks file well_formed j (omega (arith, is, below)) in
    let none = no_reason false (begin_of ks j) k.0 file (begin_of ks (j + 1)) (laid_at ks file well_formed j k.0 k.1)
    (each_at IsPlain ks j k.0 plain.1.each k.1) in
    absurd (none_is_first (Applies file (begin_of ks j)) (strict_reasons false) fault.why none
    (subst (λ (p : ℕ). IsFirstOf (Applies file p) (strict_reasons false) fault.why) is verdict.0))
