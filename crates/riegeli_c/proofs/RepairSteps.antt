-- What the repair of a file that is lent gives.
use Rattle.std.proofs.Common.{◌≡◌, ◌∙◌, ℕ, ◌*◌, ◌-◌, ◌^◌, ◌≤◌, Bool, true, false, Option, Some, None, Result, Ok, Err, List, [], ◌∷◌, ◌++◌, length, sym, ap, subst, arith}
use Rattle.std.specs.Fn.{Shared, FnReturnsAt}
use denote.Ref.{Bor}
use Rattle.std.specs.Prelude.{IfSome, OnOk, min}
use Rattle.record_io.specs.Puts.{Put, Taken, Made, Notes, taken_by, GoOut, bytes_to}
use Rattle.record_values.specs.declared.file_totals.Totals.{Totals}
use Rattle.meta_chunk.specs.Files.{signature}
use Rattle.meta_chunk.proofs.Joins.{end-laid_each}
use Rattle.damage_skip.specs.Bounds.{may_skip, MaySkip, walked}
use Rattle.damage_skip.specs.Pieces.{Skipped, Piece}
use Rattle.damage_skip.specs.Policies.{IsRegion, IsAllowedRegion}
use Rattle.damage_skip.specs.Regions.{regions_in, skipped_text, IsWalkedTo}
use Rattle.damage_skip.specs.declared.regions.Region.{Region}
use Rattle.damage_skip.proofs.BoundedWalks.{walked-all, refused-none, walked-to_refused, refused-there}
use Rattle.damage_skip.proofs.OnePiece.{piece_past}
use Rattle.damage_skip.proofs.Tiles.{goes_on_whole}
use Rattle.damage_skip.proofs.WalkedTo.{piece_at, rest_from, walked-so}
use Rattle.repair_copy.specs.RelaidFiles.{relaid}
use Rattle.repair_copy.specs.RepairPuts.{chunks_in, repair_puts}
use Rattle.repair_copy.specs.Repairs.{Repairs}
use Rattle.repair_copy.specs.declared.repairs.Repaired.{Repaired}
use Rattle.repair_copy.specs.declared.repairs.RepairEnd.{RepairEnd}
use Rattle.repair_copy.specs.declared.repairs.RepairEnd.TheVariants as repair
use Rattle.repair_copy.proofs.RepairPuts.{made_in-repair, notes_in-repair}
use Rattle.riegeli_c.proofs.RepairRoom.{made_less, lines_less}
use Rattle.riegeli_c.proofs.Told.{shown}
use Rattle.riegeli_c.specs.Repairing.{TakesLess}
use Rattle.riegeli_c.specs.Repairs.{TakesRepair, MeasuresRepair, LoadsWalkedChunk, told_lines}
use Rattle.riegeli_c.specs.declared.repairing.RepairTold.{RepairTold}

-- a function answers of a region whether it has no more than so many bytes
abbrev pub Bounds : {F : Type 0} → Shared F (Bor Region × Unit {0}) Bool → F → ℕ → Type 0
Bounds g f most = (region : Region) (answer : Bool) → IsRegion region → FnReturnsAt g f region answer → answer ≡ may_skip (Some most) region

module _ {F : Type 0} (g : Shared F (Bor Region × Unit {0}) Bool) (f : F) (most : ℕ) (bounds : Bounds g f most)
    (file : List ℕ) (short : length file ≤ 2 ^ 60) (faults faults_then handed : ℕ) (made lines : Option (List ℕ)) where
  -- what is walked under it
  walked_so : (place : ℕ) (events : List Piece) → IsWalkedTo true (IsAllowedRegion g f) file place events → IsWalkedTo true (MaySkip (Some most)) file place events
  walked_so place events h =
      walked-so true (IsAllowedRegion g f) file (MaySkip (Some most)) place events (λ region allowed. sym (bounds region true allowed.0 allowed.1)) h

  abbrev Walked : (events : List Piece) (part : List Put) → Type 0
  Walked events part = (part ≡ repair_puts events) × GoOut (taken_by (Some []) None (Some [])) (taken_by made None lines) part

  made_is : (events : List Piece) (part : List Put) → Walked events part → made ≡ Some (relaid events)
  made_is events part (same, took) = took.made ∙ ap Some (ap (bytes_to Made) same ∙ made_in-repair events)

  lines_are : (events : List Piece) (part : List Put) → Walked events part → lines ≡ Some (skipped_text (regions_in events))
  lines_are events part (same, took) = took.notes ∙ ap Some (ap (bytes_to Notes) same ∙ notes_in-repair events)

  repaired_whole : (repaired : Repaired)
      → Repairs g f (Ok repaired) faults faults_then (taken_by (Some []) None (Some [])) (taken_by made None lines) handed file
      → TakesRepair file most None made lines
  repaired_whole repaired h =
      let walk = walked_so h.place h.events h.walked in
      let all : walked (Some most) h.events ≡ h.events = walked-all (Some most) h.events walk.each in
      record {
        events = h.events;
        are = goes_on_whole true file h.events (subst (λ (p : ℕ). IsWalkedTo true (MaySkip (Some most)) file p h.events) h.answer.0 walk).walked;
        refused_first = refused-none (Some most) h.events walk.each;
        made_of = made_is h.events h.part (h.went, h.took) ∙ ap (λ (es : List Piece). Some (relaid es)) (sym all);
        lines_of = lines_are h.events h.part (h.went, h.took) ∙ ap (λ (es : List Piece). Some (skipped_text (regions_in es))) (sym all);
      }

  repaired_to : (region : Region)
      → Repairs g f (Err (repair.Stopped region)) faults faults_then (taken_by (Some []) None (Some [])) (taken_by made None lines) handed file
      → TakesRepair file most (Some region) made lines
  repaired_to region h =
      let walk = walked_so h.place h.events h.walked in
      let past = piece_past true file h.place region.end (Skipped region.why) h.answer.below h.answer.piece in
      let refused : may_skip (Some most) region ≡ false =
      sym (bounds region false (record { ordered = omega (arith, h.answer.begin, past.past); in_reach = omega (arith, past.within, short) }) h.answer.refused) in
      let rest = rest_from true (MaySkip (Some most)) file h.place h.events region walk h.answer.begin h.answer.below h.answer.piece in
      let all : walked (Some most) (h.events ++ piece_at region ∷ rest.0) ≡ h.events = walked-to_refused (Some most) h.events rest.0 region walk.each refused in
      record {
        events = h.events ++ piece_at region ∷ rest.0;
        are = rest.1;
        refused_first = refused-there (Some most) h.events rest.0 region walk.each refused;
        made_of = made_is h.events h.part (h.went, h.took) ∙ ap (λ (es : List Piece). Some (relaid es)) (sym all);
        lines_of = lines_are h.events h.part (h.went, h.took) ∙ ap (λ (es : List Piece). Some (skipped_text (regions_in es))) (sym all);
      }

  -- a sink that failed took less
  failed_made : Repairs g f (Err repair.Made) faults faults_then (taken_by (Some []) None (Some [])) (taken_by made None lines) handed file
      → TakesLess relaid file most made
  failed_made h = made_less file most h.place h.events h.part made (walked_so h.place h.events h.walked) h.went h.took.made

  failed_notes : Repairs g f (Err repair.Notes) faults faults_then (taken_by (Some []) None (Some [])) (taken_by made None lines) handed file
      → TakesLess told_lines file most lines
  failed_notes h = lines_less file most h.place h.events h.part lines (walked_so h.place h.events h.walked) h.went h.took.notes

  -- so is what any repair gives whose sinks had taken nothing
  abbrev pub RepairsAs : Result Repaired RepairEnd → (taken told : Option (List ℕ)) → Type 0
  RepairsAs result taken told = Repairs g f result faults faults_then (taken_by taken None told) (taken_by made None lines) handed file

  from_none : (result : Result Repaired RepairEnd) (taken told : Option (List ℕ)) → taken ≡ Some [] → told ≡ Some [] → RepairsAs result taken told
      → RepairsAs result (Some []) (Some [])
  from_none result taken told none also h =
      subst (λ (t : Option (List ℕ)). RepairsAs result (Some []) t) also (subst (λ (t : Option (List ℕ)). RepairsAs result t told) none h)

  whole_of : (result : Result Repaired RepairEnd) → RepairsAs result (Some []) (Some []) → OnOk result (TakesRepair file most None made lines)
  whole_of (Ok repaired) h = repaired_whole repaired h
  whole_of (Err end) h = tt

  pub gives_whole : (bytes : Option (List ℕ)) (result : Result Repaired RepairEnd) (taken told : Option (List ℕ)) → bytes ≡ Some file → taken ≡ Some [] → told ≡ Some []
      → IfSome bytes (Repairs g f result faults faults_then (taken_by taken None told) (taken_by made None lines) handed)
      → OnOk result (TakesRepair file most None made lines)
  gives_whole bytes result taken told lent none also h =
      whole_of result (from_none result taken told none also (shown (λ (x : List ℕ). Repairs g f result faults faults_then (taken_by taken None told) (taken_by made None lines) handed x) file bytes lent h))

  pub gives_to : (bytes : Option (List ℕ)) (result : Result Repaired RepairEnd) (region : Region) (taken told : Option (List ℕ)) → bytes ≡ Some file → taken ≡ Some [] → told ≡ Some []
      → result ≡ Err (repair.Stopped region) → IfSome bytes (Repairs g f result faults faults_then (taken_by taken None told) (taken_by made None lines) handed)
      → TakesRepair file most (Some region) made lines
  gives_to bytes result region taken told lent none also is h =
      repaired_to region
      (from_none (Err (repair.Stopped region)) taken told none also
      (subst (λ (r : Result Repaired RepairEnd). RepairsAs r taken told) is
      (shown (λ (x : List ℕ). Repairs g f result faults faults_then (taken_by taken None told) (taken_by made None lines) handed x) file bytes lent h)))

  pub gives_made : (bytes : Option (List ℕ)) (result : Result Repaired RepairEnd) (taken told : Option (List ℕ)) → bytes ≡ Some file → taken ≡ Some [] → told ≡ Some []
      → result ≡ Err repair.Made → IfSome bytes (Repairs g f result faults faults_then (taken_by taken None told) (taken_by made None lines) handed)
      → TakesLess relaid file most made
  gives_made bytes result taken told lent none also is h =
      failed_made
      (from_none (Err repair.Made) taken told none also
      (subst (λ (r : Result Repaired RepairEnd). RepairsAs r taken told) is
      (shown (λ (x : List ℕ). Repairs g f result faults faults_then (taken_by taken None told) (taken_by made None lines) handed x) file bytes lent h)))

  pub gives_notes : (bytes : Option (List ℕ)) (result : Result Repaired RepairEnd) (taken told : Option (List ℕ)) → bytes ≡ Some file → taken ≡ Some [] → told ≡ Some []
      → result ≡ Err repair.Notes → IfSome bytes (Repairs g f result faults faults_then (taken_by taken None told) (taken_by made None lines) handed)
      → TakesLess told_lines file most lines
  gives_notes bytes result taken told lent none also is h =
      failed_notes
      (from_none (Err repair.Notes) taken told none also
      (subst (λ (r : Result Repaired RepairEnd). RepairsAs r taken told) is
      (shown (λ (x : List ℕ). Repairs g f result faults faults_then (taken_by taken None told) (taken_by made None lines) handed x) file bytes lent h)))

-- where memory is wanting, a walk past regions that are allowed came to a chunk that can be loaded
pub loads_walked : {F : Type 0} (g : Shared F (Bor Region × Unit {0}) Bool) (f : F) (P : Region → Type 0) (file : List ℕ)
    → ((region : Region) → IsAllowedRegion g f region → P region)
    → (bytes : Option (List ℕ)) (result : Result Repaired RepairEnd) (faults faults_then handed : ℕ) (before after : Taken)
    → bytes ≡ Some file → result ≡ Err repair.Memory
    → IfSome bytes (Repairs g f result faults faults_then before after handed) → LoadsWalkedChunk P file
loads_walked g f P file allows bytes result faults faults_then handed before after lent is known =
    let h : Repairs g f (Err repair.Memory) faults faults_then before after handed file =
    subst (λ (r : Result Repaired RepairEnd). Repairs g f r faults faults_then before after handed file) is
    (shown (λ (x : List ℕ). Repairs g f result faults faults_then before after handed x) file bytes lent known) in
    record {
      place = h.place;
      events = h.events;
      walked_to = walked-so true (IsAllowedRegion g f) file P h.place h.events allows h.walked;
      may_load = h.answer;
    }

-- how much room is enough for all events of a file, where no region is refused
measured_of : {F : Type 0} (g : Shared F (Bor Region × Unit {0}) Bool) (f : F) (file : List ℕ) (repaired : Repaired) (told : RepairTold)
    (faults faults_then handed : ℕ) (before after : Taken) → Repairs g f (Ok repaired) faults faults_then before after handed file
    → told.bytes ≡ repaired.totals.bytes → told.lines ≡ min (repaired.regions * 64) (2 ^ 64 - 1) → MeasuresRepair file told
measured_of g f file repaired told faults faults_then handed before after h bytes lines = record {
  events = h.events;
  are = goes_on_whole true file h.events (subst (λ (p : ℕ). IsWalkedTo true (IsAllowedRegion g f) file p h.events) h.answer.0 h.walked).walked;
  bytes = bytes ∙ ap (λ (t : Totals). t.bytes) h.answer.1 ∙ omega (arith, end-laid_each 0 (signature ∷ chunks_in h.events));
  lines = lines ∙ ap (λ (n : ℕ). min (n * 64) (2 ^ 64 - 1)) h.answer.2;
}

pub measured : {F : Type 0} (g : Shared F (Bor Region × Unit {0}) Bool) (f : F) (file : List ℕ) (bytes : Option (List ℕ)) (repaired : Repaired) (told : RepairTold)
    (faults faults_then handed : ℕ) (before after : Taken) → bytes ≡ Some file → told.bytes ≡ repaired.totals.bytes → told.lines ≡ min (repaired.regions * 64) (2 ^ 64 - 1)
    → IfSome bytes (Repairs g f (Ok repaired) faults faults_then before after handed) → MeasuresRepair file told
measured g f file bytes repaired told faults faults_then handed before after lent size lines h =
    measured_of g f file repaired told faults faults_then handed before after
    (shown (λ (x : List ℕ). Repairs g f (Ok repaired) faults faults_then before after handed x) file bytes lent h) size lines
