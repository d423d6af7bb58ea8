-- How a run of any command ends: what all its clauses follow from.
use Rattle.std.proofs.Common.{◌≡◌, ◌≢◌, ◌+◌, ℕ, ◌≤◌, ◌⊎◌, true, false, Option, Some, None, List, [], ◌∷◌, ◌++◌, length, get_or, set, take, drop, slice_get, map, refl, sym, ap, subst, ◌∙◌, inl, inr, arith}
use Rattle.std.specs.Option.{IfSome, IsSomeAnd}
use Rattle.record_io.specs.Outside.{Rose, Takes, TakesShort}
use Rattle.record_io.specs.Puts.{Put, Notes, Taken, taken_by, GoOut, BreaksOff, puts_to, bytes_to}
use Rattle.record_io.specs.Seen.{SeenStream, SeenFile}
use Rattle.record_io.proofs.Calls.{Takes-append, TakesShort-append}
use Rattle.record_io.proofs.Puts.{GoOut-append, GoOut-notes, BreaksOff-last}
use Rattle.command_frame.specs.declared.status.Status.{Status}
use Rattle.command_frame.specs.Statuses.{fault_text}
use Rattle.command_frame.specs.Answers.{Answer}
use Rattle.command_frame.specs.Meanings.{Meaning, Read}
use Rattle.command_frame.specs.Runs.{Runs}
use Rattle.command_frame.specs.RunObjects.{Seen, seen, HadNoSinkFault, handed_by, taken_in, NoneFell}
use Rattle.command_frame.specs.RunAnswers.{IsWhole, Gave}
use Rattle.command_frame.specs.RunLeaves.{IsCutOff, IsReadingCutOff, TakesThen, Breaks, PutsLines, WasCutOff, WentOutSoFar, FailedToSay}
use Rattle.command_frame.specs.RunReads.{IfRead, IfAnswered, OfSizes, IfGrown}
use Rattle.command_frame.specs.Endings.{SaysAtEnd}
use Rattle.command_frame.specs.RunCauses.{HasCause}
use Rattle.command_frame.specs.RunTakes.{TakesAtMost}
use Rattle.command_frame.specs.declared.status.Status.TheVariants as status

-- what every end of a run keeps that grows no file
pub record Keeps (m : Meaning) (before after : Seen) : Type 0 where
  pub counts : NoneFell before after
  pub ungrown : m.uses.grown ≡ false
  pub handed : (handed_by after.files ≡ handed_by before.files)
      ⊎ ((m.uses.files ≡ true)
      × OfSizes m before after (λ sizes. m.may_work sizes × m.may_take sizes (handed_by before.files) (handed_by after.files)))
  pub handed_of : IfRead m before (λ r. m.may_take_of r (handed_by before.files) (handed_by after.files))
  pub grown_handed : after.grown.handed ≡ before.grown.handed
  pub in_order : (place : ℕ) (file : SeenFile) → slice_get after.files place ≡ Some file → file.told ≡ None
      → drop (place + 1) after.files ≡ drop (place + 1) before.files
  pub input_taken : TakesAtMost m.most_taken before.input.bytes after.input.bytes

-- what a run that ended so keeps of the file that it grows
pub record KeepsGrown (m : Meaning) (before after : Seen) (ended : Status) : Type 0 where
  pub leaves : IsWhole ended ⊎ (ended ≡ status.Out) → IfGrown m before after m.leaves
  pub may_leave : IsCutOff ended ⊎ (ended ≡ status.Notes) → IfGrown m before after m.may_leave
  pub keeps : m.uses.grown ≡ true → IfSome before.grown.bytes (λ held. IsSomeAnd after.grown.bytes (λ holds. m.keeps ended held holds))
  pub handed : (after.grown.handed ≡ before.grown.handed) ⊎ ((m.uses.grown ≡ true) × OfSizes m before after m.may_work)

-- what an end of a run with a status keeps, which may have grown a file
pub record KeepsAtEnd (m : Meaning) (before after : Seen) (ended : Status) : Type 0 where
  pub counts : NoneFell before after
  pub handed : (handed_by after.files ≡ handed_by before.files)
      ⊎ ((m.uses.files ≡ true)
      × OfSizes m before after (λ sizes. m.may_work sizes × m.may_take sizes (handed_by before.files) (handed_by after.files)))
  pub handed_of : IfRead m before (λ r. m.may_take_of r (handed_by before.files) (handed_by after.files))
  pub in_order : (place : ℕ) (file : SeenFile) → slice_get after.files place ≡ Some file → file.told ≡ None
      → drop (place + 1) after.files ≡ drop (place + 1) before.files
  pub grown : KeepsGrown m before after ended
  pub input_taken : TakesAtMost m.most_taken before.input.bytes after.input.bytes

-- nothing was taken of bytes that stayed
pub none-taken : (most : ℕ) (bytes : Option (List ℕ)) → TakesAtMost most bytes bytes
none-taken most None = tt
none-taken most (Some left) = omega arith

-- where no file is grown, whatever the status
keeps-ungrown : (m : Meaning) (before after : Seen) (ended : Status) → Keeps m before after → KeepsAtEnd m before after ended
keeps-ungrown m before after ended keeps = record {
  counts = keeps.counts;
  handed = keeps.handed;
  handed_of = keeps.handed_of;
  in_order = keeps.in_order;
  grown = record {
    leaves = λ _ uses. absurd (cc (sym uses ∙ keeps.ungrown));
    may_leave = λ _ uses. absurd (cc (sym uses ∙ keeps.ungrown));
    keeps = λ uses. absurd (cc (sym uses ∙ keeps.ungrown));
    handed = inl keeps.grown_handed;
  };
  input_taken = keeps.input_taken;
}

-- where neither files nor a grown file is used, and no count fell of what is
pub keeps-unread : (m : Meaning) (input input_then : SeenStream) (files : List SeenFile) (made made_then : SeenStream) (grown : SeenFile) (out out_then notes notes_then : SeenStream)
    → m.uses.grown ≡ false → ((r : Read) → m.may_take_of r (handed_by files) (handed_by files)) → input.faults ≤ input_then.faults → made.faults ≤ made_then.faults
    → out.faults ≤ out_then.faults → notes.faults ≤ notes_then.faults → TakesAtMost m.most_taken input.bytes input_then.bytes
    → Keeps m (seen input files made grown out notes) (seen input_then files made_then grown out_then notes_then)
keeps-unread m input input_then files made made_then grown out out_then notes notes_then none same i k o n taken = record {
  counts = record {
    input = i;
    files = λ place a b was is. let same : a ≡ b = cc in omega (arith, ap (λ (s : SeenFile). s.faults) same);
    made = k;
    grown = omega arith;
    out = o;
    notes = n;
  };
  ungrown = none;
  handed = inl refl;
  handed_of = λ r is. same r;
  grown_handed = refl;
  in_order = λ place file is untold. refl;
  input_taken = taken;
}

-- a command that reads no files asks no sizes
pub OfSizes-unread : (m : Meaning) (before after : Seen) (P : List ℕ → Type 0)
    → m.uses.files ≡ false → m.uses.grown ≡ false → P [] → OfSizes m before after P
OfSizes-unread m before after P unread none holds = record {
  sizes = [];
  told = λ uses. absurd (cc (sym uses ∙ unread));
  exact = λ uses. absurd (cc (sym uses ∙ unread));
  grown_told = λ uses. absurd (cc (sym uses ∙ none));
  grown_exact = λ uses. absurd (cc (sym uses ∙ none));
  holds = holds;
}

pub OfSizes-map : (m : Meaning) (before after : Seen) (P Q : List ℕ → Type 0) → ((sizes : List ℕ) → P sizes → Q sizes)
    → OfSizes m before after P → OfSizes m before after Q
OfSizes-map m before after P Q then h =
    record { sizes = h.sizes; told = h.told; exact = h.exact; grown_told = h.grown_told; grown_exact = h.grown_exact; holds = then h.sizes h.holds }

-- no status is both whole and cut off
pub whole-cut_off : (ended : Status) → IsWhole ended → IsCutOff ended → ⊥
whole-cut_off status.Input whole cut = whole
whole-cut_off status.File whole cut = whole
whole-cut_off status.Made whole cut = whole
whole-cut_off status.Grown whole cut = whole
whole-cut_off status.Out whole cut = whole
whole-cut_off status.Memory whole cut = whole
whole-cut_off status.Notes whole cut = whole
whole-cut_off other whole cut = cut

-- nor whole and cut short
whole-reading_cut_off : (ended : Status) → IsWhole ended → IsReadingCutOff ended → ⊥
whole-reading_cut_off status.Input whole short = whole
whole-reading_cut_off status.File whole short = whole
whole-reading_cut_off status.Grown whole short = whole
whole-reading_cut_off status.Memory whole short = whole
whole-reading_cut_off other whole short = short

-- the work was done, and notes took what there was to say
pub ends-whole : (m : Meaning) (before after : Seen) (ended : Status) (text : List ℕ)
    → IsWhole ended → OfSizes m before after (λ sizes. m.may_end sizes ended text) → Takes before.notes.bytes after.notes.bytes text
    → IfAnswered m before (Gave ended before after)
    → (ended ≡ status.Ok → m.uses.input ≡ true → IfSome before.input.bytes (λ _. after.input.bytes ≡ Some []))
    → HasCause ended m before after → KeepsAtEnd m before after ended
    → Runs m before after ended
ends-whole m before after ended text whole may_end said gave read cause keeps = record {
  answers = record {
    whole = λ _. gave;
    grown = keeps.grown.leaves;
    read_to_end = read;
  };
  has_cause = record {
    cause = cause;
    counts = keeps.counts;
  };
  leaves = record {
    cut_off = λ cut. absurd (whole-cut_off ended whole cut);
    failed_to_say = λ e. absurd (subst IsWhole e whole);
    grown_cut = keeps.grown.may_leave;
    grown_kept = keeps.grown.keeps;
    so_far = λ short. absurd (whole-reading_cut_off ended whole short);
  };
  takes = record {
    in_reach = λ cut. absurd (whole-cut_off ended whole cut);
    handed = keeps.handed;
    handed_of = keeps.handed_of;
    grown_handed = keeps.grown.handed;
    in_order = keeps.in_order;
    input_taken = keeps.input_taken;
  };
  says = record {
    end_said = λ _. OfSizes-map m before after (λ sizes. m.may_end sizes ended text)
        (λ sizes. (t : List ℕ) × m.may_end sizes ended t × Takes before.notes.bytes after.notes.bytes t)
        (λ sizes may. (text, may, said)) may_end;
    cut_off_said = λ cut. absurd (whole-cut_off ended whole cut);
    front_said = λ e. absurd (subst IsWhole e whole);
  };
}

-- notes failed to take what there was to say at the end
pub ends-notes : (m : Meaning) (before after : Seen) (wanted : Status) (text : List ℕ)
    → OfSizes m before after (λ sizes. m.may_end sizes wanted text) → TakesShort before.notes.bytes after.notes.bytes text
    → IfAnswered m before (FailedToSay (taken_in before) (taken_in after))
    → Rose before.notes.faults after.notes.faults → KeepsAtEnd m before after status.Notes
    → Runs m before after status.Notes
ends-notes m before after wanted text may_end said failed rose keeps = record {
  answers = record {
    whole = λ whole. absurd whole;
    grown = keeps.grown.leaves;
    read_to_end = λ e. absurd (cc e);
  };
  has_cause = record {
    cause = rose;
    counts = keeps.counts;
  };
  leaves = record {
    cut_off = λ cut. absurd cut;
    failed_to_say = λ _. failed;
    grown_cut = keeps.grown.may_leave;
    grown_kept = keeps.grown.keeps;
    so_far = λ short. absurd short;
  };
  takes = record {
    in_reach = λ cut. absurd cut;
    handed = keeps.handed;
    handed_of = keeps.handed_of;
    grown_handed = keeps.grown.handed;
    in_order = keeps.in_order;
    input_taken = keeps.input_taken;
  };
  says = record {
    end_said = λ whole. absurd whole;
    cut_off_said = λ cut. absurd cut;
    front_said = λ _. OfSizes-map m before after (λ sizes. m.may_end sizes wanted text)
        (λ sizes. (s : Status) × (t : List ℕ) × m.may_end sizes s t × TakesShort before.notes.bytes after.notes.bytes t)
        (λ sizes may. (wanted, text, may, said)) may_end;
  };
}

-- a fault or want of memory cut the work off
pub ends-cut_off : (m : Meaning) (before after : Seen) (ended : Status) (text : List ℕ)
    → IsCutOff ended → (ended ≢ status.File → ended ≢ status.Grown → OfSizes m before after m.may_work)
    → m.may_say text → TakesThen before.notes after.notes text (fault_text ended)
    → IfAnswered m before (WasCutOff ended before after)
    → (IsReadingCutOff ended → HadNoSinkFault m.uses before after → IfRead m before (WentOutSoFar m ended before after))
    → HasCause ended m before after → KeepsAtEnd m before after ended
    → Runs m before after ended
ends-cut_off m before after ended text cut within may_say said was so_far cause keeps = record {
  answers = record {
    whole = λ whole. absurd (whole-cut_off ended whole cut);
    grown = keeps.grown.leaves;
    read_to_end = λ e. absurd (subst IsCutOff e cut);
  };
  has_cause = record {
    cause = cause;
    counts = keeps.counts;
  };
  leaves = record {
    cut_off = λ _. was;
    failed_to_say = λ e. absurd (subst IsCutOff e cut);
    grown_cut = keeps.grown.may_leave;
    grown_kept = keeps.grown.keeps;
    so_far = so_far;
  };
  takes = record {
    in_reach = λ _. within;
    handed = keeps.handed;
    handed_of = keeps.handed_of;
    grown_handed = keeps.grown.handed;
    in_order = keeps.in_order;
    input_taken = keeps.input_taken;
  };
  says = record {
    end_said = λ whole. absurd (whole-cut_off ended whole cut);
    cut_off_said = λ _. (text, may_say, said);
    front_said = λ e. absurd (subst IsCutOff e cut);
  };
}

-- where no file is grown, one record of what is kept serves every end
pub runs-whole : (m : Meaning) (before after : Seen) (ended : Status) (text : List ℕ)
    → IsWhole ended → OfSizes m before after (λ sizes. m.may_end sizes ended text) → Takes before.notes.bytes after.notes.bytes text
    → IfAnswered m before (Gave ended before after)
    → (ended ≡ status.Ok → m.uses.input ≡ true → IfSome before.input.bytes (λ _. after.input.bytes ≡ Some []))
    → HasCause ended m before after → Keeps m before after
    → Runs m before after ended
runs-whole m before after ended text whole may_end said gave read cause keeps =
    ends-whole m before after ended text whole may_end said gave read cause (keeps-ungrown m before after ended keeps)

pub runs-notes : (m : Meaning) (before after : Seen) (wanted : Status) (text : List ℕ)
    → OfSizes m before after (λ sizes. m.may_end sizes wanted text) → TakesShort before.notes.bytes after.notes.bytes text
    → IfAnswered m before (FailedToSay (taken_in before) (taken_in after))
    → Rose before.notes.faults after.notes.faults → Keeps m before after
    → Runs m before after status.Notes
runs-notes m before after wanted text may_end said failed rose keeps =
    ends-notes m before after wanted text may_end said failed rose (keeps-ungrown m before after status.Notes keeps)

pub runs-cut_off : (m : Meaning) (before after : Seen) (ended : Status) (text : List ℕ)
    → IsCutOff ended → (ended ≢ status.File → OfSizes m before after m.may_work)
    → m.may_say text → TakesThen before.notes after.notes text (fault_text ended)
    → IfAnswered m before (WasCutOff ended before after)
    → (IsReadingCutOff ended → HadNoSinkFault m.uses before after → IfRead m before (WentOutSoFar m ended before after))
    → HasCause ended m before after → Keeps m before after
    → Runs m before after ended
runs-cut_off m before after ended text cut within may_say said was so_far cause keeps =
    ends-cut_off m before after ended text cut (λ other _. within other) may_say said was so_far cause (keeps-ungrown m before after ended keeps)

-- what the sinks had taken before an end was said, where notes showed this
abbrev pub taken_but_end : Seen → SeenStream → Taken
taken_but_end after notes = taken_by after.made.bytes after.out.bytes notes.bytes

-- the work was done with a status: all that an answer puts but a last text in notes went out
pub record GaveButNotes (wanted : Status) (before mid : Taken) (text : List ℕ) (answer : Answer) : Type 0 where
  pub same_status : wanted ≡ answer.status
  pub puts : List Put
  pub whole : answer.puts ≡ puts ++ puts_to Notes text
  pub went : GoOut before mid puts

-- a count that rose behind one that didn't fall
pub rose-behind : (l m n : ℕ) → l ≤ m → Rose m n → Rose l n
rose-behind l m n less (inl rose) = inl (omega (arith, less, rose))
rose-behind l m n less (inr full) = inr full

-- a line behind a text
pub then-behind : (before mid after : SeenStream) (text last : List ℕ) → Takes before.bytes mid.bytes text → before.faults ≤ mid.faults
    → TakesThen mid after [] last → TakesThen before after text last
then-behind before mid after text last took less (part, behind, how) = (
  part,
  Takes-append before.bytes mid.bytes after.bytes text part took behind,
  elim how [ inl whole ↦ inl whole | inr cut ↦ inr (rose-behind before.faults mid.faults after.faults less cut.0, cut.1, cut.2) ],
)

-- the last text was said
pub gave-said : (ended : Status) (before after : Seen) (mid : SeenStream) (text : List ℕ) (answer : Answer)
    → GaveButNotes ended (taken_in before) (taken_but_end after mid) text answer → Takes mid.bytes after.notes.bytes text
    → Gave ended before after answer
gave-said ended before after mid text answer gave said = record {
  same_status = gave.same_status;
  went = subst (λ (ps : List Put). GoOut (taken_in before) (taken_in after) ps) (sym gave.whole)
      (GoOut-append (taken_in before) (taken_but_end after mid) (taken_in after) gave.puts (puts_to Notes text) gave.went
      (GoOut-notes after.made.bytes after.out.bytes mid.bytes after.notes.bytes text said));
}

-- or notes failed to take it
pub failed-said : (ended : Status) (before after : Seen) (mid : SeenStream) (text : List ℕ) (answer : Answer)
    → GaveButNotes ended (taken_in before) (taken_but_end after mid) text answer → TakesShort mid.bytes after.notes.bytes text
    → FailedToSay (taken_in before) (taken_in after) answer
failed-said ended before after mid text answer gave short =
    let last : List ℕ = take short.0 text in
    record {
      part = gave.puts ++ puts_to Notes last;
      broke = subst (λ (ps : List Put). BreaksOff Notes (gave.puts ++ puts_to Notes last) ps) (sym gave.whole)
          (BreaksOff-last Notes gave.puts text short.0 short.1);
      went = GoOut-append (taken_in before) (taken_but_end after mid) (taken_in after) gave.puts (puts_to Notes last) gave.went
          (GoOut-notes after.made.bytes after.out.bytes mid.bytes after.notes.bytes last short.2);
    }

-- where nothing was put in notes, no line was
pub PutsLines-none : (part puts : List Put) → bytes_to Notes part ≡ [] → PutsLines part puts
PutsLines-none part puts none = record { count = 0; lines = none }

-- the work was cut off, and then notes were told of that
pub was-cut_off : (ended : Status) (before after : Seen) (mid : SeenStream) (answer : Answer) (part : List Put)
    → Breaks ended part answer.puts → PutsLines part answer.puts → GoOut (taken_in before) (taken_but_end after mid) part
    → before.notes.faults ≤ mid.faults → TakesThen mid after.notes [] (fault_text ended) → WasCutOff ended before after answer
was-cut_off ended before after mid answer part broke whole went less said = record {
  part = part;
  broke = broke;
  made = went.made;
  out = went.out;
  lines = whole;
  notes = then-behind before.notes mid after.notes (bytes_to Notes part) (fault_text ended) went.notes less said;
}

-- all that was put so far went out, and then notes were told of that
pub went-so_far : (m : Meaning) (ended : Status) (before after : Seen) (mid : SeenStream) (r : Read) (part : List Put)
    → m.may_have_put r (handed_by before.files) (handed_by after.files) part → GoOut (taken_in before) (taken_but_end after mid) part
    → before.notes.faults ≤ mid.faults → TakesThen mid after.notes [] (fault_text ended) → WentOutSoFar m ended before after r
went-so_far m ended before after mid r part found went less said = record {
  part = part;
  found = found;
  made = went.made;
  out = went.out;
  notes = then-behind before.notes mid after.notes (bytes_to Notes part) (fault_text ended) went.notes less said;
}

-- the work was done, behind a text in notes, and there was something to say: it was said, or notes failed
pub ends-said : (m : Meaning) (before after : Seen) (mid : SeenStream) (ended wanted : Status) (earlier text : List ℕ)
    → Takes before.notes.bytes mid.bytes earlier → before.notes.faults ≤ mid.faults
    → SaysAtEnd ended wanted mid after.notes text
    → IsWhole wanted → wanted ≢ status.Ok → OfSizes m before after (λ sizes. m.may_end sizes wanted (earlier ++ text))
    → IfAnswered m before (GaveButNotes wanted (taken_in before) (taken_but_end after mid) text)
    → HasCause wanted m before after
    → KeepsAtEnd m before after wanted → KeepsAtEnd m before after status.Notes
    → Runs m before after ended
ends-said m before after mid ended wanted earlier text took less says whole not_ok may_end gave cause keeps keeps_untold = elim says [
  | inl said ↦ subst (λ (s : Status). Runs m before after s) (sym said.0)
      (ends-whole m before after wanted (earlier ++ text) whole may_end
      (Takes-append before.notes.bytes mid.bytes after.notes.bytes earlier text took said.1)
      (λ r is. let a = gave r is in
      (a.0, a.1, gave-said wanted before after mid text a.0 a.2 said.1))
      (λ e. absurd (not_ok e)) cause keeps)
  | inr failed ↦ subst (λ (s : Status). Runs m before after s) (sym failed.0)
      (ends-notes m before after wanted (earlier ++ text) may_end
      (TakesShort-append before.notes.bytes mid.bytes after.notes.bytes earlier text took failed.2)
      (λ r is. let a = gave r is in
      (a.0, a.1, failed-said wanted before after mid text a.0 a.2 failed.2))
      (rose-behind before.notes.faults mid.faults after.notes.faults less failed.1) keeps_untold)
]

-- the same where no file is grown
pub runs-said : (m : Meaning) (before after : Seen) (mid : SeenStream) (ended wanted : Status) (earlier text : List ℕ)
    → Takes before.notes.bytes mid.bytes earlier → before.notes.faults ≤ mid.faults
    → SaysAtEnd ended wanted mid after.notes text
    → IsWhole wanted → wanted ≢ status.Ok → OfSizes m before after (λ sizes. m.may_end sizes wanted (earlier ++ text))
    → IfAnswered m before (GaveButNotes wanted (taken_in before) (taken_but_end after mid) text)
    → HasCause wanted m before after → Keeps m before after
    → Runs m before after ended
runs-said m before after mid ended wanted earlier text took less says whole not_ok may_end gave cause keeps =
    ends-said m before after mid ended wanted earlier text took less says whole not_ok may_end gave cause
    (keeps-ungrown m before after wanted keeps) (keeps-ungrown m before after status.Notes keeps)

-- a run over the one file that was handed in
pub runs-one_file : {X : Type 0} (show : X → SeenFile) (files : List X) (x then : X) (m : Meaning) (before after : Seen) (ended : Status)
    → 1 ≡ length files
    → Runs m (record before { files = show (get_or files 0 x) ∷ [] }) (record after { files = show then ∷ [] }) ended
    → Runs m (record before { files = map show files }) (record after { files = map show (set files 0 then) }) ended
runs-one_file show [] x then m before after ended one ran = absurd (omega arith)
runs-one_file show (file ∷ []) x then m before after ended one ran = ran
runs-one_file show (file ∷ other ∷ files) x then m before after ended one ran = absurd (omega (arith, one))
