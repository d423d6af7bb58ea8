-- How the repair of a file stands to the answer.
use Rattle.std.proofs.Common.{◌≡◌, ◌≢◌, ◌∙◌, ℕ, ◌-◌, ◌≤◌, Bool, true, false, Option, None, Result, Ok, Err, List, [], ◌∷◌, ◌++◌, length, length-append, append_assoc, take, refl, sym, ap, subst, inl, inr, arith}
use Rattle.std.specs.Fn.{Shared}
use denote.Ref.{Bor}
use Rattle.std.specs.List.{AllByRecursion}
use Rattle.std.proofs.lemmas.List.{append-nil, nil_from_length}
use Rattle.record_io.specs.Outside.{Rose, Takes, TakesShort}
use Rattle.record_values.specs.declared.file_totals.Totals.{Totals}
use Rattle.record_io.specs.Puts.{Put, Made, Out, Notes, Taken, taken_by, GoOut, BreaksOff, puts_to, bytes_to}
use Rattle.record_io.proofs.Calls.{Takes-nothing}
use Rattle.record_io.proofs.Puts.{bytes_to-append, bytes_to-other, GoOut-append, GoOut-out, GoOutOrAreHeld-none, BreaksOff-front, BreaksOff-last, BreaksOff-longer}
use Rattle.meta_chunk.specs.Files.{totals_of, signature, end_of_chunks}
use Rattle.damage_skip.specs.Pieces.{Skipped, Piece, AreEvents}
use Rattle.damage_skip.specs.Bounds.{may_skip, MaySkip, walked, refused_in}
use Rattle.damage_skip.specs.Policies.{IsAllowedRegion}
use Rattle.damage_skip.specs.Takings.{IsTakenUpTo}
use Rattle.damage_skip.specs.Regions.{region_text, regions_in, skipped_text, IsWalkedTo}
use Rattle.damage_skip.proofs.BoundedWalks.{MaySkipEach, walked-behind, walked-all, refused-none, walked-to_refused, refused-there}
use Rattle.damage_skip.proofs.RegionsIn.{each_so, skipped_text-pieces}
use Rattle.damage_skip.proofs.WalkedTo.{piece_at, walked-so, rest_of, rest_from}
use Rattle.recover_command.proofs.WalkStatuses.{status-all, status-stopped}
use Rattle.recover_command.specs.WalkAnswers.{walk_status}
use Rattle.damage_skip.specs.declared.regions.Region.{Region}
use Rattle.damage_skip.proofs.OnePiece.{piece_past}
use Rattle.damage_skip.proofs.Tiles.{goes_on_whole}
use Rattle.repair_copy.specs.RepairPuts.{chunks_in, puts_from, repair_puts}
use Rattle.repair_copy.specs.Copies.{WentOutAtFault}
use Rattle.repair_copy.specs.Repairs.{Repairs}
use Rattle.repair_copy.specs.declared.repairs.Repaired.{Repaired}
use Rattle.repair_copy.specs.declared.repairs.RepairEnd.{RepairEnd}
use Rattle.repair_copy.proofs.RepairPuts.{repair_puts-append, notes_in-repair, out_in-repair}
use Rattle.repair_copy.proofs.WholeLines.{whole_lines}
use lib.Chars.{codes}
use Rattle.riegeli_tool.specs.declared.repair_words.RepairWords.{RepairWords}
use Rattle.command_frame.specs.declared.status.Status.{Status}
use Rattle.command_frame.specs.Answers.{Answer}
use Rattle.command_frame.specs.FileAnswers.{OfFile, most_file_bytes, report}
use Rattle.riegeli_tool.specs.RepairCommand.{end_puts, first_puts, IsRepaired, IsRepairedSoFar}
use Rattle.command_frame.specs.PutSoFar.{HasPut, HasPutSoFar, HasPutFront, HasBrokenOff}
use Rattle.command_frame.specs.RunLeaves.{FailedToSay, PutsLines}
use Rattle.recover_command.specs.WalkingEnds.{IsBound, HasToldOf}
use Rattle.command_frame.proofs.OneAnswer.{same_answer}
use Rattle.riegeli_tool.proofs.CommandLaws.{one_repaired}
use Rattle.recover_command.proofs.RegionTexts.{PutsLines-regions}
use Rattle.show_command.proofs.ShowSteps.{in_reach}
use Rattle.repair_copy.specs.declared.repairs.RepairEnd.TheVariants as repair
use Rattle.command_frame.specs.declared.status.Status.TheVariants as status

-- the status by the number of regions
pub status_of-none : (count : ℕ) → count ≡ 0 → (regions : List Region) → count ≡ length regions → status.Ok ≡ walk_status regions None
status_of-none count none [] is = refl
status_of-none count none (r ∷ regions) is = absurd (omega (arith, none, is))

pub status_of-some : (count : ℕ) → count ≢ 0 → (regions : List Region) → count ≡ length regions → status.Skipped ≡ walk_status regions None
status_of-some count some [] is = absurd (some is)
status_of-some count some (r ∷ regions) is = refl

-- the answer of events
abbrev answer_of : RepairWords → List Piece → Answer
answer_of words events = record {
  puts = repair_puts (walked words.most events) ++ end_puts (refused_in words.most events) (chunks_in (walked words.most events));
  status = walk_status (regions_in (walked words.most events)) (refused_in words.most events);
}

answered : (words : RepairWords) (file : List ℕ) (events : List Piece) → AreEvents true file events → IsRepaired words file (answer_of words events)
answered words file events are = record { events = events; are = are; puts = refl; status = refl }

is_answer : (words : RepairWords) (file : List ℕ) (events : List Piece) (answer : Answer) → length file ≤ most_file_bytes
    → AreEvents true file events → OfFile (IsRepaired words) (file ∷ []) answer → answer ≡ answer_of words events
is_answer words file events answer short are is =
    one_repaired words file answer (answer_of words events) (in_reach (IsRepaired words) file answer short is) (answered words file events are)

-- of events of which none is refused
abbrev whole_answer : List Piece → Answer
whole_answer events = record {
  puts = repair_puts events ++ puts_to Out (report (totals_of (signature ∷ chunks_in events)));
  status = walk_status (regions_in events) None;
}

whole_is : (words : RepairWords) (events : List Piece) → MaySkipEach words.most events → answer_of words events ≡ whole_answer events
whole_is words events h =
    same_answer (answer_of words events) (whole_answer events)
    (ap (λ (es : List Piece). repair_puts es ++ end_puts (refused_in words.most events) (chunks_in es)) (walked-all words.most events h)
    ∙ ap (λ (s : Option Region). repair_puts events ++ end_puts s (chunks_in events)) (refused-none words.most events h))
    (status-all words.most events h)

-- and of events before one that is
abbrev stopped_answer : List Piece → Region → Answer
stopped_answer events region = record {
  puts = repair_puts events ++ puts_to Notes (region_text (codes "stopped") region);
  status = status.Stopped;
}

stopped_is : (words : RepairWords) (events fs : List Piece) (region : Region) → MaySkipEach words.most events → may_skip words.most region ≡ false
    → answer_of words (events ++ piece_at region ∷ fs) ≡ stopped_answer events region
stopped_is words events fs region h refused =
    let all : List Piece = events ++ piece_at region ∷ fs in
    same_answer (answer_of words all) (stopped_answer events region)
    (ap (λ (es : List Piece). repair_puts es ++ end_puts (refused_in words.most all) (chunks_in es)) (walked-to_refused words.most events fs region h refused)
    ∙ ap (λ (s : Option Region). repair_puts events ++ end_puts s (chunks_in events)) (refused-there words.most events fs region h refused))
    (status-stopped words.most events fs region h refused)

-- a front of what is put of events puts nothing to standard output
none_out : (events : List Piece) (part rest : List Put) → repair_puts events ≡ part ++ rest → bytes_to Out part ≡ []
none_out events part rest is =
    nil_from_length (bytes_to Out part)
    (omega (
      arith,
      ap length (out_in-repair events),
      ap (λ (ps : List Put). length (bytes_to Out ps)) is,
      ap length (bytes_to-append Out part rest),
      length-append (bytes_to Out part) (bytes_to Out rest),
    ))

none_out-first : (events : List Piece) → bytes_to Out (first_puts events) ≡ []
none_out-first [] = refl
none_out-first (e ∷ events) = out_in-repair (e ∷ events)

-- which stays as it is
beside_out : (a b o n m : Option (List ℕ)) (part : List Put) → GoOut (taken_by a None n) (taken_by b None m) part → bytes_to Out part ≡ []
    → GoOut (taken_by a o n) (taken_by b o m) part
beside_out a b o n m part h none =
    record { made = h.made; out = subst (λ (t : List ℕ). Takes o o t) (sym none) (Takes-nothing o); notes = h.notes }

-- lines of the first events are whole lines of all
lines_first : (events front behind : List Piece) (part more : List Put) (puts : List Put) → events ≡ front ++ behind
    → bytes_to Notes part ≡ skipped_text (regions_in front) → puts ≡ repair_puts events ++ more → PutsLines part puts
lines_first events front behind part more puts parts has is =
    let said : List ℕ = skipped_text (regions_in front) in
    let others : List ℕ = skipped_text (regions_in behind) in
    PutsLines-regions (regions_in front) part puts (others ++ bytes_to Notes more) has
    (ap (bytes_to Notes) is
    ∙ bytes_to-append Notes (repair_puts events) more
    ∙ ap (λ (t : List ℕ). t ++ bytes_to Notes more)
    (notes_in-repair events ∙ ap (λ (es : List Piece). skipped_text (regions_in es)) parts ∙ skipped_text-pieces front behind)
    ∙ append_assoc said others (bytes_to Notes more))

-- bytes to another stream behind what is put of events add no line
notes-behind : (events : List Piece) (bytes : List ℕ) → bytes_to Notes (repair_puts events ++ puts_to Out bytes) ≡ skipped_text (regions_in events)
notes-behind events bytes =
    bytes_to-append Notes (repair_puts events) (puts_to Out bytes)
    ∙ ap (λ (t : List ℕ). bytes_to Notes (repair_puts events) ++ t) (bytes_to-other Notes Out bytes refl)
    ∙ append-nil (bytes_to Notes (repair_puts events))
    ∙ notes_in-repair events

module _ {F : Type 0} (g : Shared F (Bor Region × Unit {0}) Bool) (f : F) (words : RepairWords) (bound : IsBound g f words.most) where
  -- what a test allows may be skipped
  pub allowed-may : (region : Region) → IsAllowedRegion g f region → MaySkip words.most region
  allowed-may region allowed = sym (bound region true allowed.0 allowed.1)

  walked-to : (file : List ℕ) (place : ℕ) (events : List Piece) → IsWalkedTo true (IsAllowedRegion g f) file place events
      → IsWalkedTo true (MaySkip words.most) file place events
  walked-to file place events h = walked-so true (IsAllowedRegion g f) file (MaySkip words.most) place events allowed-may h

  regions-may : (regions : List Region) → AllByRecursion (IsAllowedRegion g f) regions → AllByRecursion (MaySkip words.most) regions
  regions-may regions h = each_so (IsAllowedRegion g f) (MaySkip words.most) allowed-may regions h

  pub told-of : (n m : Option (List ℕ)) (regions : List Region) → AllByRecursion (IsAllowedRegion g f) regions → Takes n m (skipped_text regions) → HasToldOf words.most n m regions
  told-of n m regions passed says = record { may = regions-may regions passed; says = says }

  pub told-front : (n m : Option (List ℕ)) (regions : List Region) → AllByRecursion (IsAllowedRegion g f) regions → TakesShort n m (skipped_text regions)
      → (skipped : List Region) × AllByRecursion (MaySkip words.most) skipped × TakesShort n m (skipped_text skipped)
  told-front n m regions passed says = (regions, regions-may regions passed, says)

  module _ (file : List ℕ) (short : length file ≤ most_file_bytes) (faults faults_then taken : ℕ) (a b o n m : Option (List ℕ)) where
    -- what the sinks of the repair took, and what those of the command did when it ended
    abbrev Repaired_by : Result Repaired RepairEnd → Type 0
    Repaired_by result = Repairs g f result faults faults_then (taken_by a None n) (taken_by b None m) taken file

    abbrev Start : Taken
    Start = taken_by a o n

    abbrev Then : Taken
    Then = taken_by b o m

    -- the whole file was repaired: its answer
    whole : (repaired : Repaired) → (h : Repaired_by (Ok repaired)) → IsWalkedTo true (MaySkip words.most) file (length file) h.events
    whole repaired h =
        subst (λ (p : ℕ). IsWalkedTo true (MaySkip words.most) file p h.events) h.answer.0 (walked-to file h.place h.events h.walked)

    all : (repaired : Repaired) → (h : Repaired_by (Ok repaired)) → AreEvents true file h.events
    all repaired h = goes_on_whole true file h.events (whole repaired h).walked

    repaired-answer : (repaired : Repaired) → (h : Repaired_by (Ok repaired)) → (answer : Answer) → OfFile (IsRepaired words) (file ∷ []) answer
        → answer ≡ whole_answer h.events
    repaired-answer repaired h answer is =
        is_answer words file h.events answer short (all repaired h) is ∙ whole_is words h.events (whole repaired h).each

    -- all that is put of events went out
    went-all : (events : List Piece) (part : List Put) → part ≡ repair_puts events → GoOut (taken_by a None n) (taken_by b None m) part
        → GoOut Start Then (repair_puts events)
    went-all events part same took =
        beside_out a b o n m (repair_puts events) (subst (λ (ps : List Put). GoOut (taken_by a None n) (taken_by b None m) ps) same took)
        (out_in-repair events)

    pub repaired-walked : (repaired : Repaired) (p : Option (List ℕ)) (ended : Status) → Repaired_by (Ok repaired)
        → Takes o p (report repaired.totals) → ((regions : List Region) → repaired.regions ≡ length regions → ended ≡ walk_status regions None)
        → HasPut (IsRepaired words) file Start (taken_by b p m) [] [] ended
    repaired-walked repaired p ended h printed status_is =
        let text : List ℕ = report (totals_of (signature ∷ chunks_in h.events)) in
        let puts : List Put = repair_puts h.events ++ puts_to Out text in
        record {
          answer = whole_answer h.events;
          is = inr (short, subst (λ (x : Answer). IsRepaired words file x) (whole_is words h.events (whole repaired h).each) (answered words file h.events (all repaired h)));
          puts = puts;
          whole = sym (append-nil puts);
          lines = lines_first h.events h.events [] puts (puts_to Out text) puts (sym (append-nil h.events)) (notes-behind h.events text) refl;
          went = GoOutOrAreHeld-none Start (taken_by b p m) Out puts
              (GoOut-append Start Then (taken_by b p m) (repair_puts h.events) (puts_to Out text) (went-all h.events h.part h.went h.took)
              (GoOut-out b o p m text (subst (λ (t : Totals). Takes o p (report t)) h.answer.1 printed)));
          status = status_is (regions_in h.events) h.answer.2;
        }

    -- of its report not all was printed
    pub unreported-walked : (repaired : Repaired) (p : Option (List ℕ)) → Repaired_by (Ok repaired) → TakesShort o p (report repaired.totals)
        → (answer : Answer) → OfFile (IsRepaired words) (file ∷ []) answer → HasBrokenOff Out Start (taken_by b p m) [] answer
    unreported-walked repaired p h printed answer is =
        let text : List ℕ = report (totals_of (signature ∷ chunks_in h.events)) in
        let same : answer.puts ≡ repair_puts h.events ++ puts_to Out text = ap (λ (x : Answer). x.puts) (repaired-answer repaired h answer is) in
        let short = subst (λ (t : Totals). TakesShort o p (report t)) h.answer.1 printed in
        let part : List Put = repair_puts h.events ++ puts_to Out (take short.0 text) in
        record {
          none_held = refl;
          part = part;
          broke = subst (λ (ps : List Put). BreaksOff Out part ps) (sym same)
              (BreaksOff-last Out (repair_puts h.events) text short.0 short.1);
          lines = lines_first h.events h.events [] part (puts_to Out text) answer.puts (sym (append-nil h.events)) (notes-behind h.events (take short.0 text)) same;
          went = GoOut-append Start Then (taken_by b p m) (repair_puts h.events) (puts_to Out (take short.0 text)) (went-all h.events h.part h.went h.took)
              (GoOut-out b o p m (take short.0 text) short.2);
        }

    -- the repair ended at a region that is refused
    refused : (region : Region) → (h : Repaired_by (Err (repair.Stopped region))) → may_skip words.most region ≡ false
    refused region h =
        let past = piece_past true file h.place region.end (Skipped region.why) h.answer.below h.answer.piece in
        sym (bound region false
        (record { ordered = omega (arith, h.answer.begin, past.past); in_reach = omega (arith, past.within, short) }) h.answer.refused)

    stop : (region : Region) → (h : Repaired_by (Err (repair.Stopped region)))
        → (fs : List Piece) × AreEvents true file (h.events ++ piece_at region ∷ fs)
    stop region h =
        rest_from true (MaySkip words.most) file h.place h.events region (walked-to file h.place h.events h.walked) h.answer.begin h.answer.below h.answer.piece

    stop_is : (region : Region) → (h : Repaired_by (Err (repair.Stopped region)))
        → answer_of words (h.events ++ piece_at region ∷ (stop region h).0) ≡ stopped_answer h.events region
    stop_is region h =
        stopped_is words h.events (stop region h).0 region (walked-to file h.place h.events h.walked).each (refused region h)

    pub stopped-walked : (region : Region) → Repaired_by (Err (repair.Stopped region))
        → HasPut (IsRepaired words) file Start Then [] (region_text (codes "stopped") region) status.Stopped
    stopped-walked region h =
        let last : List Put = puts_to Notes (region_text (codes "stopped") region) in
        record {
          answer = stopped_answer h.events region;
          is = inr (short, subst (λ (x : Answer). IsRepaired words file x) (stop_is region h) (answered words file (h.events ++ piece_at region ∷ (stop region h).0) (stop region h).1));
          puts = repair_puts h.events;
          whole = refl;
          lines = lines_first h.events h.events [] (repair_puts h.events) last (repair_puts h.events ++ last) (sym (append-nil h.events)) (notes_in-repair h.events) refl;
          went = GoOutOrAreHeld-none Start Then Out (repair_puts h.events) (went-all h.events h.part h.went h.took);
          status = refl;
        }

    -- it was cut short: unless the made file failed too, all that was put so far went out
    all-first : ¬ Rose faults faults_then → (events : List Piece) (part : List Put) → WentOutAtFault faults faults_then events part → part ≡ first_puts events
    all-first sound [] part none = none
    all-first sound (e ∷ events) part (inl same) = same
    all-first sound (e ∷ events) part (inr (rose, left, parts)) = absurd (sound rose)

    pub cut-so_far : ¬ Rose faults faults_then → (place : ℕ) (events : List Piece) → IsWalkedTo true (IsAllowedRegion g f) file place events
        → (part : List Put) → WentOutAtFault faults faults_then events part → GoOut (taken_by a None n) (taken_by b None m) part
        → (start now : ℕ) → IsTakenUpTo true file 0 place (now - start)
        → HasPutSoFar (IsRepairedSoFar words start now file) Start Then []
    cut-so_far sound place events walk part went took start now account =
        let same = all-first sound events part went in
        record {
          part = part;
          is = record { place = place; events = events; walked = walked-to file place events walk; puts = same; taken = account };
          went = GoOutOrAreHeld-none Start Then Out part
              (beside_out a b o n m part took (ap (bytes_to Out) same ∙ none_out-first events));
        }

    -- it was cut off behind some events
    module _ (place : ℕ) (events : List Piece) (walk : IsWalkedTo true (IsAllowedRegion g f) file place events) (part : List Put)
        (took : GoOut (taken_by a None n) (taken_by b None m) part) (answer : Answer) (is : OfFile (IsRepaired words) (file ∷ []) answer) where
      to : IsWalkedTo true (MaySkip words.most) file place events
      to = walked-to file place events walk

      rest : (fs : List Piece) × AreEvents true file (events ++ fs)
      rest = rest_of true (MaySkip words.most) file place events to

      -- what an answer puts behind what is put of these
      more : (puts : List Put) × (answer.puts ≡ repair_puts events ++ puts)
      more =
          let fs : List Piece = walked words.most rest.0 in
          let last : List Put = end_puts (refused_in words.most (events ++ rest.0)) (chunks_in (walked words.most (events ++ rest.0))) in
          let next : List Put = puts_from (end_of_chunks 0 (signature ∷ chunks_in events)) fs in (
            next ++ last,
            ap (λ (x : Answer). x.puts) (is_answer words file (events ++ rest.0) answer short rest.1 is)
                ∙ ap (λ (es : List Piece). repair_puts es ++ last) (walked-behind words.most events rest.0 to.each)
                ∙ ap (λ (ps : List Put). ps ++ last) (repair_puts-append events fs)
                ∙ append_assoc (repair_puts events) next last,
          )

      -- a front went out
      front-walked : (left : List Put) (front behind : List Piece) → repair_puts events ≡ part ++ left → events ≡ front ++ behind
          → bytes_to Notes part ≡ skipped_text (regions_in front) → HasPutFront Start Then [] answer
      front-walked left front behind parts first has = record {
        part = part;
        rest = left ++ more.0;
        parts = more.1 ∙ ap (λ (ps : List Put). ps ++ more.0) parts ∙ append_assoc part left more.0;
        lines = lines_first events front behind part more.0 answer.puts first has more.1;
        went = GoOutOrAreHeld-none Start Then Out part (beside_out a b o n m part took (none_out events part left parts));
      }

      -- and where what was read failed all, or nothing before the first event
      at_fault : (es : List Piece) → es ≡ events → WentOutAtFault faults faults_then es part → HasPutFront Start Then [] answer
      at_fault [] none same =
          front-walked (repair_puts events) [] events (ap (λ (ps : List Put). ps ++ repair_puts events) (sym same)) refl (ap (bytes_to Notes) same)
      at_fault (e ∷ es) are (inl same) =
          let all : part ≡ repair_puts events = same ∙ ap repair_puts are in
          front-walked [] events [] (sym all ∙ sym (append-nil part)) (sym (append-nil events)) (ap (bytes_to Notes) all ∙ notes_in-repair events)
      at_fault (e ∷ es) are (inr (rose, left, parts)) =
          let all : repair_puts events ≡ part ++ puts_to Made left = ap repair_puts (sym are) ∙ parts in
          front-walked (puts_to Made left) events [] all (sym (append-nil events))
          (sym (append-nil (bytes_to Notes part))
          ∙ ap (λ (t : List ℕ). bytes_to Notes part ++ t) (sym (bytes_to-other Notes Made left refl))
          ∙ sym (bytes_to-append Notes part (puts_to Made left))
          ∙ ap (bytes_to Notes) (sym all)
          ∙ notes_in-repair events)

      pub cut-walked : WentOutAtFault faults faults_then events part → HasPutFront Start Then [] answer
      cut-walked went = at_fault events refl went

      -- while bytes of the made file were put
      pub unmade-walked : BreaksOff Made part (repair_puts events) → HasBrokenOff Made Start Then [] answer
      unmade-walked broke =
          let front = BreaksOff-front Made part (repair_puts events) broke in
          let whole_lines = whole_lines events part broke in
          record {
            none_held = refl;
            part = part;
            broke = subst (λ (ps : List Put). BreaksOff Made part ps) (sym more.1) (BreaksOff-longer Made part (repair_puts events) more.0 broke);
            lines = lines_first events whole_lines.0 whole_lines.1 part more.0 answer.puts whole_lines.2 whole_lines.3 more.1;
            went = beside_out a b o n m part took (none_out events part front.0 front.1);
          }

      -- while a line was told
      pub untold-walked : BreaksOff Notes part (repair_puts events) → FailedToSay Start Then answer
      untold-walked broke =
          let front = BreaksOff-front Notes part (repair_puts events) broke in
          record {
            part = part;
            broke = subst (λ (ps : List Put). BreaksOff Notes part ps) (sym more.1) (BreaksOff-longer Notes part (repair_puts events) more.0 broke);
            went = beside_out a b o n m part took (none_out events part front.0 front.1);
          }
