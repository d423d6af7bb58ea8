-- The repair of a damaged file, told by the numbers of its chunks.
use Rattle.std.proofs.Common.{◌≡◌, ◌∙◌, ℕ, ◌^◌, ◌≤◌, Bool, true, Some, Result, Ok, Err, List, ◌∷◌, length, refl, sym, ap, subst, arith}
use Rattle.std.specs.List.{AllByRecursion}
use Rattle.std.specs.Fn.{Shared}
use denote.Ref.{Bor}
use Rattle.record_io.specs.Outside.{Takes}
use Rattle.record_io.specs.Puts.{Put, Taken, GoOut, Made, bytes_to}
use Rattle.chunk_header.specs.Chunks.{ChunkValue}
use Rattle.meta_chunk.specs.Files.{totals_of, signature, begin_of, laid_each}
use Rattle.damage_skip.specs.Damage.{Intact, IsDamaged}
use Rattle.damage_skip.specs.Pieces.{Piece, events_in}
use Rattle.damage_skip.specs.Policies.{IsAllowedRegion}
use Rattle.damage_skip.specs.Regions.{regions_in}
use Rattle.damage_skip.specs.declared.regions.Region.{Region}
use Rattle.damage_skip.proofs.Damaged.{tiles_left, number_of_end}
use Rattle.damage_skip.proofs.DamagedWalks.{left_region}
use Rattle.damage_skip.proofs.Reached.{left_numbers}
use Rattle.damage_skip.proofs.Untouched.{lost_up_to_a_block}
use Rattle.repair_copy.specs.RepairPuts.{chunks_in, repair_puts}
use Rattle.repair_copy.specs.RelaidFiles.{relaid}
use Rattle.repair_copy.specs.Repairs.{AnswersRepair, WentOut, Repairs}
use Rattle.repair_copy.specs.DamagedRepairs.{kept_of, AnswersDamaged, MakesOf, RepairsDamage}
use Rattle.repair_copy.specs.declared.repairs.Repaired.{Repaired}
use Rattle.repair_copy.specs.declared.repairs.RepairEnd.{RepairEnd}
use Rattle.repair_copy.specs.declared.repairs.RepairEnd.TheVariants as end
use Rattle.repair_copy.proofs.EventChunks.{chunks_in_events, relaid_events}
use Rattle.repair_copy.proofs.LeftChunks.{left_chunks, well_formed_kept}
use Rattle.repair_copy.proofs.RepairPuts.{made_in-repair}

module _ {F : Type 0} (test : Shared F (Bor Region × Unit {0}) Bool) (f : F) (ks : List ChunkValue) (file damaged : List ℕ) (intact : Intact)
    (reach : length file ≤ 2 ^ 60) (d : IsDamaged ks file damaged intact) where
  -- what is answered at a place where the chunk of this number begins
  answers_damaged : (result : Result Repaired RepairEnd) (place to : ℕ) (numbers : List ℕ) (pieces events : List Piece) → to ≤ length ks
      → place ≡ begin_of ks to → chunks_in events ≡ kept_of ks intact numbers → events_in pieces ≡ events → AnswersRepair test f result damaged place events
      → AnswersDamaged test f ks intact to numbers pieces result
  answers_damaged (Ok repaired) place to numbers pieces events inside begins same are h = (
    number_of_end true ks file damaged intact d reach to inside (sym h.0 ∙ begins),
    h.1 ∙ ap (λ (xs : List ChunkValue). totals_of (signature ∷ xs)) same,
    h.2 ∙ ap (λ (es : List Piece). length (regions_in es)) (sym are),
  )
  answers_damaged (Err (end.Stopped region)) place to numbers pieces events inside begins same are h =
      (left_region true ks file damaged intact d reach place to (Some region) inside begins (h.begin, h.below, h.piece), h.refused)
  answers_damaged (Err end.Store) place to numbers pieces events inside begins same are h = tt
  answers_damaged (Err end.Made) place to numbers pieces events inside begins same are h = tt
  answers_damaged (Err end.Notes) place to numbers pieces events inside begins same are h = tt
  answers_damaged (Err end.Memory) place to numbers pieces events inside begins same are h = tt

-- what is made of events
pub made_of : (before after : Taken) (events : List Piece) (part : List Put) (bytes : List ℕ) → part ≡ repair_puts events → relaid events ≡ bytes
    → GoOut before after part → Takes before.made after.made bytes
made_of before after events part bytes all same went =
    subst (Takes before.made after.made) (ap (bytes_to Made) all ∙ made_in-repair events ∙ same) went.made

makes_of : (result : Result Repaired RepairEnd) (faults faults_then : ℕ) (before after : Taken) (events : List Piece) (part : List Put) (xs : List ChunkValue)
    → relaid events ≡ laid_each 0 (signature ∷ xs) → WentOut result faults faults_then events part → GoOut before after part → MakesOf result before after xs
makes_of (Ok repaired) faults faults_then before after events part xs same all went =
    made_of before after events part (laid_each 0 (signature ∷ xs)) all same went
makes_of (Err (end.Stopped region)) faults faults_then before after events part xs same all went =
    made_of before after events part (laid_each 0 (signature ∷ xs)) all same went
makes_of (Err end.Store) faults faults_then before after events part xs same all went = tt
makes_of (Err end.Made) faults faults_then before after events part xs same all went = tt
makes_of (Err end.Notes) faults faults_then before after events part xs same all went = tt
makes_of (Err end.Memory) faults faults_then before after events part xs same all went = tt

pub damage_repaired : {F : Type 0} (test : Shared F (Bor Region × Unit {0}) Bool) (f : F) (result : Result Repaired RepairEnd) (faults faults_then : ℕ)
    (before after : Taken) (taken : ℕ) (damaged : List ℕ) → Repairs test f result faults faults_then before after taken damaged
    → (ks : List ChunkValue) (file : List ℕ) (intact : Intact) → length file ≤ 2 ^ 60 → IsDamaged ks file damaged intact
    → RepairsDamage test f result faults faults_then before after ks intact
damage_repaired test f result faults faults_then before after taken damaged h ks file intact reach d =
    let pieces : List Piece = h.walked.walked.0 in
    let are : events_in pieces ≡ h.events = h.walked.walked.2 in
    let left = tiles_left true ks file damaged intact d reach 0 0 h.place pieces (omega arith) refl h.walked.walked.1 in
    let numbers = left_numbers true ks intact 0 left.0 pieces left.3 in
    let kept : List ChunkValue = kept_of ks intact numbers.0 in
    let chunks : chunks_in pieces ≡ kept = left_chunks true ks intact d.well_formed.1.each 0 left.0 pieces numbers.0 left.3 numbers.1 in
    let same : chunks_in h.events ≡ kept = sym (ap chunks_in are) ∙ chunks_in_events pieces ∙ chunks in
    let laid : relaid pieces ≡ laid_each 0 (signature ∷ kept) = ap (λ (xs : List ChunkValue). laid_each 0 (signature ∷ xs)) chunks in
    record {
      to = left.0;
      numbers = numbers.0;
      reached = numbers.1;
      lost = lost_up_to_a_block ks intact left.0 numbers.0 numbers.1;
      pieces = pieces;
      left = left.3;
      allowed = subst (λ (es : List Piece). AllByRecursion (IsAllowedRegion test f) (regions_in es)) (sym are) h.walked.each;
      answer = answers_damaged test f ks file damaged intact reach d result h.place left.0 numbers.0 pieces h.events left.1 left.2 same are h.answer;
      part = h.part;
      went = subst (λ (es : List Piece). WentOut result faults faults_then es h.part) (sym are) h.went;
      took = h.took;
      made = makes_of result faults faults_then before after h.events h.part kept (sym (ap relaid are) ∙ relaid_events pieces ∙ laid) h.went h.took;
      well_formed = well_formed_kept true ks file intact numbers.0 d.well_formed;
    }
