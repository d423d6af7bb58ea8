-- The repair of the front of a file of chunks.
use Rattle.std.proofs.Common.{◌≡◌, ◌≢◌, ◌∙◌, ℕ, ◌≤◌, Bool, true, Option, Some, None, Result, Ok, Err, IfSome, List, [], ◌∷◌, ◌++◌, length, take, refl, sym, ap, subst, inl, inr, arith}
use Rattle.std.specs.List.{AllByRecursion}
use Rattle.std.specs.Fn.{Shared}
use Rattle.std.proofs.lemmas.List.{append-nil}
use denote.Ref.{Bor}
use Rattle.record_io.specs.Puts.{Put, Taken, GoOut}
use Rattle.chunk_header.specs.Chunks.{ChunkValue}
use Rattle.meta_chunk.specs.Files.{totals_of, signature, IsWellFormedChunk, IsChainOf, IsWellFormed, begin_of, laid_each}
use Rattle.meta_chunk.proofs.Chains.{IsChainOf-take}
use Rattle.chunk_reader.specs.declared.reasons.Why.{Why}
use Rattle.damage_skip.specs.FrontPieces.{IsCutAt, AreFrontPieces}
use Rattle.damage_skip.specs.Pieces.{Piece, Skipped, AreTiles, GoesOn, events_in}
use Rattle.damage_skip.specs.FilePieces.{ArePieces, AreFound}
use Rattle.damage_skip.specs.Regions.{regions_in}
use Rattle.damage_skip.specs.declared.regions.Region.{Region}
use Rattle.damage_skip.proofs.FoundPieces.{tiles_found}
use Rattle.damage_skip.proofs.FoundRecords.{none_skipped, each_event}
use Rattle.damage_skip.proofs.FrontWalks.{front_pieces, none_behind, region_first}
use Rattle.damage_skip.proofs.Prefixes.{cut_between}
use Rattle.damage_skip.proofs.RegionsIn.{no_region, regions_in-append}
use Rattle.damage_skip.proofs.Tiles.{events-append, goes_on_front}
use Rattle.damage_skip.proofs.WalkedTo.{piece_at}
use Rattle.repair_copy.specs.RepairPuts.{chunks_in}
use Rattle.repair_copy.specs.CopiedChunks.{copied}
use Rattle.repair_copy.specs.Repairs.{AnswersRepair, WentOut, Repairs}
use Rattle.repair_copy.specs.DamagedRepairs.{MakesOf}
use Rattle.repair_copy.specs.FrontRepairs.{AnswersFront, RepairsFront}
use Rattle.repair_copy.specs.KnownRepairs.{RepairsKnown}
use Rattle.repair_copy.specs.declared.repairs.Repaired.{Repaired}
use Rattle.repair_copy.specs.declared.repairs.RepairEnd.{RepairEnd}
use Rattle.repair_copy.specs.declared.repairs.RepairEnd.TheVariants as end
use Rattle.repair_copy.proofs.Copied.{found_chunks}
use Rattle.repair_copy.proofs.DamagedRepairs.{damage_repaired, made_of}
use Rattle.repair_copy.proofs.EventChunks.{chunks_in-append, chunks_in_events}

-- a piece that is not skipped
abbrev NotSkipped : Piece → Type 0
NotSkipped piece = (w : Why) → piece.what ≢ Skipped w

-- such pieces are no regions
none_told : (ps : List Piece) → AllByRecursion NotSkipped ps → regions_in ps ≡ []
none_told [] h = refl
none_told (p ∷ ps) h = rw (no_region p.begin p.end p.what h.0) (none_told ps h.1)

-- so a region behind pieces, of which only the last can be one, is that one
region_last : (ps cut es fs : List Piece) (region : Region) → AllByRecursion NotSkipped ps → length cut ≤ 1
    → ps ++ cut ≡ es ++ piece_at region ∷ fs → (piece_at region ∷ fs ≡ cut) × (cut ≡ piece_at region ∷ []) × (es ≡ ps)
region_last [] [] [] fs region none one is = absurd (cc is)
region_last [] (c ∷ []) [] fs region none one is =
    let first : c ≡ piece_at region = cc is in
    (sym is, ap (λ (p : Piece). p ∷ []) first, refl)
region_last [] (c ∷ d ∷ cut) [] fs region none one is = absurd (omega arith)
region_last [] [] (e ∷ es) fs region none one is = absurd (cc is)
region_last [] (c ∷ cut) (e ∷ es) fs region none one is =
    absurd (omega (arith, ap length is, length_behind es fs region)) where
      length_behind : (xs ys : List Piece) (r : Region) → 1 ≤ length (xs ++ piece_at r ∷ ys)
      length_behind [] ys r = omega arith
      length_behind (x ∷ xs) ys r = omega arith
region_last (p ∷ ps) cut [] fs region none one is =
    let first : p ≡ piece_at region = cc is in
    absurd (none.0 region.why (ap (λ (q : Piece). q.what) first))
region_last (p ∷ ps) cut (e ∷ es) fs region none one is =
    let first : p ≡ e = cc is in
    let rest : ps ++ cut ≡ es ++ piece_at region ∷ fs = cc is in
    let last = region_last ps cut es fs region none.1 one rest in
    (last.0, last.1, ap (λ (x : Piece). x ∷ es) (sym first) ∙ ap (λ (xs : List Piece). p ∷ xs) last.2)

-- what is left of a chunk that is cut
cut_few : (ks : List ChunkValue) (count m : ℕ) (cut : List Piece) → IsCutAt ks count m cut → length cut ≤ 1
cut_few ks count m cut (inl (at, is)) = omega (arith, ap length is)
cut_few ks count m cut (inr (inside, after, before, reason, which, is)) = omega (arith, ap length is)

cut_chunks : (ks : List ChunkValue) (count m : ℕ) (cut : List Piece) → IsCutAt ks count m cut → chunks_in cut ≡ []
cut_chunks ks count m cut (inl (at, is)) = ap chunks_in is
cut_chunks ks count m cut (inr (inside, after, before, reason, which, is)) = ap chunks_in is

cut_regions : (ks : List ChunkValue) (count m : ℕ) (cut : List Piece) → IsCutAt ks count m cut → length (regions_in cut) ≡ length cut
cut_regions ks count m cut (inl (at, is)) = ap (λ (ps : List Piece). length (regions_in ps)) is ∙ sym (ap length is)
cut_regions ks count m cut (inr (inside, after, before, reason, which, is)) = ap (λ (ps : List Piece). length (regions_in ps)) is ∙ sym (ap length is)

cut_events : (ks : List ChunkValue) (count m : ℕ) (cut : List Piece) → IsCutAt ks count m cut → events_in cut ≡ cut
cut_events ks count m cut (inl (at, is)) = ap events_in is ∙ sym is
cut_events ks count m cut (inr (inside, after, before, reason, which, is)) = ap events_in is ∙ sym is

-- the pieces of the chunks that a front has whole
module _ (ks : List ChunkValue) (file : List ℕ) (well_formed : IsWellFormed ks file) (count : ℕ) (front : List Piece)
    (whole : AreTiles true file 0 (begin_of ks count) front) where
  front_found : AreFound true 0 (take count ks) front
  front_found =
      let chain : IsChainOf IsWellFormedChunk (take count ks) file (begin_of ks count) = IsChainOf-take count ks file (length file) well_formed.1 in
      tiles_found true (take (begin_of ks count) file) 0 (take count ks) front (omega arith) chain.each chain.laid
      (cut_between true ks file well_formed count front whole)

  front_kept : chunks_in front ≡ copied true (take count ks)
  front_kept =
      let chain : IsChainOf IsWellFormedChunk (take count ks) file (begin_of ks count) = IsChainOf-take count ks file (length file) well_formed.1 in
      found_chunks true 0 (take count ks) front chain.each front_found

  front_not_skipped : AllByRecursion NotSkipped (events_in front)
  front_not_skipped = each_event NotSkipped front (none_skipped true 0 (take count ks) front front_found)

module _ {F : Type 0} (test : Shared F (Bor Region × Unit {0}) Bool) (f : F) (ks : List ChunkValue) (file bytes : List ℕ) (m : ℕ)
    (well_formed : IsWellFormed ks file) (pieces : List Piece) (apart : AreFrontPieces true ks file m pieces) where
  kept : List ChunkValue
  kept = copied true (take apart.count ks)

  events_apart : events_in pieces ≡ events_in apart.front ++ apart.cut
  events_apart =
      ap events_in apart.are ∙ events-append apart.front apart.cut
      ∙ ap (λ (es : List Piece). events_in apart.front ++ es) (cut_events ks apart.count m apart.cut apart.cut_there)

  all_chunks : chunks_in (events_in pieces) ≡ kept
  unfolding kept
  all_chunks =
      chunks_in_events pieces ∙ ap chunks_in apart.are ∙ chunks_in-append apart.front apart.cut
      ∙ ap (λ (xs : List ChunkValue). chunks_in apart.front ++ xs) (cut_chunks ks apart.count m apart.cut apart.cut_there)
      ∙ append-nil (chunks_in apart.front)
      ∙ front_kept ks file well_formed apart.count apart.front apart.whole

  all_regions : length (regions_in (events_in pieces)) ≡ length apart.cut
  all_regions =
      ap (λ (es : List Piece). length (regions_in es)) events_apart
      ∙ ap length (regions_in-append (events_in apart.front) apart.cut)
      ∙ ap (λ (rs : List Region). length (rs ++ regions_in apart.cut))
      (none_told (events_in apart.front) (front_not_skipped ks file well_formed apart.count apart.front apart.whole))
      ∙ cut_regions ks apart.count m apart.cut apart.cut_there

  -- the events that were passed have their chunks, where the others have none
  passed_chunks : (events left : List Piece) → events_in pieces ≡ events ++ left → chunks_in left ≡ [] → chunks_in events ≡ kept
  passed_chunks events left are none =
      sym (append-nil (chunks_in events))
      ∙ ap (λ (xs : List ChunkValue). chunks_in events ++ xs) (sym none)
      ∙ sym (chunks_in-append events left)
      ∙ sym (ap chunks_in are)
      ∙ all_chunks

  -- what is answered where these are passed
  answers_front : (result : Result Repaired RepairEnd) (place : ℕ) (events left : List Piece) → events_in pieces ≡ events ++ left
      → GoesOn true bytes place (length bytes) left → AnswersRepair test f result bytes place events → AnswersFront test f kept apart.cut left result
  answers_front (Ok repaired) place events left are (ps, on, rest) h =
      let none : left ≡ [] = sym rest ∙ ap events_in (none_behind true bytes place ps h.0 on) in
      let all : events ≡ events_in pieces = sym (append-nil events) ∙ ap (λ (es : List Piece). events ++ es) (sym none) ∙ sym are in (
        none,
        h.1 ∙ ap (λ (xs : List ChunkValue). totals_of (signature ∷ xs)) (passed_chunks events left are (ap chunks_in none)),
        h.2 ∙ ap (λ (es : List Piece). length (regions_in es)) all ∙ all_regions,
      )
  answers_front (Err (end.Stopped region)) place events left are (ps, on, rest) h =
      let first = region_first true bytes place ps region on (h.begin, h.below, h.piece) in
      let from_region : left ≡ piece_at region ∷ events_in first.0 = sym rest ∙ ap events_in first.1 in
      let last = region_last (events_in apart.front) apart.cut events (events_in first.0) region
      (front_not_skipped ks file well_formed apart.count apart.front apart.whole) (cut_few ks apart.count m apart.cut apart.cut_there)
      (sym events_apart ∙ are ∙ ap (λ (es : List Piece). events ++ es) from_region) in
      (from_region ∙ last.0, last.1, h.refused)
  answers_front (Err end.Store) place events left are on h = tt
  answers_front (Err end.Made) place events left are on h = tt
  answers_front (Err end.Notes) place events left are on h = tt
  answers_front (Err end.Memory) place events left are on h = tt

  -- and what is made
  makes_front : (result : Result Repaired RepairEnd) (faults faults_then : ℕ) (before after : Taken) (events left : List Piece) (part : List Put)
      → events_in pieces ≡ events ++ left → AnswersFront test f kept apart.cut left result → WentOut result faults faults_then events part
      → GoOut before after part → MakesOf result before after kept
  makes_front (Ok repaired) faults faults_then before after events left part are h all went =
      made_of before after events part (laid_each 0 (signature ∷ kept)) all
      (ap (λ (xs : List ChunkValue). laid_each 0 (signature ∷ xs)) (passed_chunks events left are (ap chunks_in h.0))) went
  makes_front (Err (end.Stopped region)) faults faults_then before after events left part are h all went =
      made_of before after events part (laid_each 0 (signature ∷ kept)) all
      (ap (λ (xs : List ChunkValue). laid_each 0 (signature ∷ xs))
      (passed_chunks events left are (ap chunks_in h.0 ∙ cut_chunks ks apart.count m apart.cut apart.cut_there))) went
  makes_front (Err end.Store) faults faults_then before after events left part are h all went = tt
  makes_front (Err end.Made) faults faults_then before after events left part are h all went = tt
  makes_front (Err end.Notes) faults faults_then before after events left part are h all went = tt
  makes_front (Err end.Memory) faults faults_then before after events left part are h all went = tt

front_repaired : {F : Type 0} (test : Shared F (Bor Region × Unit {0}) Bool) (f : F) (result : Result Repaired RepairEnd) (faults faults_then : ℕ)
    (before after : Taken) (taken : ℕ) (bytes : List ℕ) → Repairs test f result faults faults_then before after taken bytes
    → (ks : List ChunkValue) (file : List ℕ) (m : ℕ) → IsWellFormed ks file → m ≤ length file → bytes ≡ take m file
    → RepairsFront test f result faults faults_then before after ks file m
unfolding kept
front_repaired test f result faults faults_then before after taken bytes h ks file m well_formed within is =
    let front = front_pieces true ks file m well_formed within in
    let whole : ArePieces true bytes front.0 = subst (λ (b : List ℕ). ArePieces true b front.0) (sym is) front.2 in
    let left = goes_on_front true bytes h.place h.events (events_in front.0) h.walked.walked (front.0, whole, refl) in
    let answer : AnswersFront test f (copied true (take front.1.count ks)) front.1.cut left.0 result =
    answers_front test f ks file bytes m well_formed front.0 front.1 result h.place h.events left.0 left.1 left.2 h.answer in
    record {
      pieces = front.0;
      apart = front.1;
      events = h.events;
      left = left.0;
      are = left.1;
      allowed = h.walked.each;
      answer = answer;
      part = h.part;
      went = h.went;
      took = h.took;
      made = makes_front test f ks file bytes m well_formed front.0 front.1 result faults faults_then before after h.events left.0 h.part left.1 answer h.went h.took;
    }

-- where the file shows its bytes, also where that is a damaged one
pub repairs_known : {F : Type 0} (test : Shared F (Bor Region × Unit {0}) Bool) (f : F) (bytes : Option (List ℕ)) (result : Result Repaired RepairEnd)
    (faults faults_then taken : ℕ) (before after : Taken) → IfSome bytes (Repairs test f result faults faults_then before after taken)
    → IfSome bytes (RepairsKnown test f result faults faults_then before after)
repairs_known test f None result faults faults_then taken before after h = tt
repairs_known test f (Some shown) result faults faults_then taken before after h = record {
  damaged = damage_repaired test f result faults faults_then before after taken shown h;
  cut = front_repaired test f result faults faults_then before after taken shown h;
}
