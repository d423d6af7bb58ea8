-- How a run of a command ends that reads several files, by how its work ended.
use Rattle.std.proofs.Common.{◌≡◌, ◌≢◌, ◌∙◌, ℕ, ◌+◌, ◌<◌, ◌≤◌, ◌⊎◌, true, false, Option, Some, None, Result, Ok, Err, List, [], ◌∷◌, length, map, drop, refl, sym, ap, subst, append-nil, arith, IfSome}
use Rattle.std.specs.Prelude.{slice_get}
use Rattle.std.specs.List.{AllByRecursion}
use Rattle.std.proofs.lemmas.Simd.{map-map}
use Rattle.record_values.specs.Bytes.{AreBytes}
use Rattle.record_io.specs.ManyStores.{AreOnlyAsked}
use Rattle.record_io.specs.Outside.{Rose, Takes}
use Rattle.record_io.specs.Puts.{Put, Notes, Taken, taken_by, GoOut, bytes_to}
use Rattle.record_io.specs.Seen.{SeenStream, SeenFile, seen_file}
use Rattle.record_io.proofs.Calls.{Takes-nothing}
use Rattle.record_io.proofs.ManyStores.{none_falls, same_bytes}
use Rattle.record_io.specs.declared.cut.Cut.{Cut}
use Rattle.command_frame.specs.declared.ending.Ending.{Ending}
use Rattle.command_frame.specs.declared.status.Status.{Status}
use Rattle.command_frame.specs.Answers.{Answer, noted}
use Rattle.command_frame.specs.Endings.{Endings, HaveTold, IsAllowedEndOfMany, MayBeCut, SaysEnd, status_of, SaysAtEnd}
use Rattle.command_frame.specs.FileAnswers.{limit_text}
use Rattle.command_frame.specs.Meanings.{Uses, Meaning, Read, meaning}
use Rattle.command_frame.specs.Statuses.{fault_text}
use Rattle.command_frame.specs.Runs.{Runs}
use Rattle.command_frame.specs.RunObjects.{Seen, seen, OneRose}
use Rattle.command_frame.specs.RunReads.{IfAnswered, OfSizes}
use Rattle.command_frame.specs.RunLeaves.{IsCutOff, IsReadingCutOff, TakesThen, Breaks, WasCutOff}
use Rattle.command_frame.specs.RunCauses.{HasCause}
use Rattle.command_frame.proofs.FileEnds.{EndsWhole}
use Rattle.command_frame.proofs.ManyFiles.{bytes_of, told_by, exact_shown, keeps-files, one_rose}
use Rattle.command_frame.proofs.RunEnds.{GaveButNotes, Keeps, PutsLines-none, gave-said, was-cut_off, went-so_far, runs-whole, runs-said, runs-cut_off}
use Rattle.record_io.specs.declared.cut.Cut.TheVariants as cut
use Rattle.command_frame.specs.declared.ending.Ending.TheVariants as end
use Rattle.command_frame.specs.declared.status.Status.TheVariants as status

-- what holds of a command that reads several files and says nothing before its end: S follows from what is supposed of them, P are
-- its answers, and Q is what it may have put so far
pub record ReadsFiles (m : Meaning) (S : List (List ℕ) → Type 0) (P : List (List ℕ) → Answer → Type 0) (Q : List (List ℕ) → List Put → Type 0) : Type 0 where
  pub input : m.uses.input ≡ false
  pub files : m.uses.files ≡ true
  pub grown : m.uses.grown ≡ false
  pub supposed : (r : Read) → m.supposes r → S r.files
  pub answers : (r : Read) (answer : Answer) → P r.files answer → m.answers r answer
  pub so_far : (r : Read) (before after : List ℕ) (part : List Put) → Q r.files part → m.may_have_put r before after part
  pub take_of : (r : Read) (before after : List ℕ) → m.may_take_of r before after
  pub silent : m.may_say []
  pub says_nothing : (text : List ℕ) → m.may_say text → text ≡ []

-- so of one whose meaning is that
pub reads_files : (uses : Uses) (S : List (List ℕ) → Type 0) (P : List (List ℕ) → Answer → Type 0) (Q : List (List ℕ) → List Put → Type 0)
    (may_work : List ℕ → Type 0) (may_take : List ℕ → List ℕ → List ℕ → Type 0) (may_end : List ℕ → Status → List ℕ → Type 0)
    → uses.input ≡ false → uses.files ≡ true → uses.grown ≡ false
    → ReadsFiles (record (meaning uses (λ r answer. P r.files answer)) {
      supposes = λ r. S r.files;
      may_have_put = λ r before after part. Q r.files part;
      may_work = may_work;
      may_take = may_take;
      may_end = may_end;
    }) S P Q
reads_files uses S P Q may_work may_take may_end input files grown = record {
  input = input;
  files = files;
  grown = grown;
  supposed = λ r is. is;
  answers = λ r answer is. is;
  so_far = λ r before after part is. is;
  take_of = λ r before after. tt;
  silent = refl;
  says_nothing = λ text is. is;
}

-- what holds of one whose work ends so, past its limit by these sizes, and at what it doesn't go past by those
pub record EndsBySizes {X W : Type 0} (m : Meaning) (ends : Endings X W) (past : List ℕ → Type 0) (stops : W → List ℕ → Type 0) : Type 0 where
  pub done : (x : X) → ends.done x ≡ status.Ok
  pub may_work : (sizes : List ℕ) → m.may_work sizes → m.may_end sizes status.Ok []
  pub too_long : (sizes : List ℕ) → past sizes → m.may_end sizes status.Limit limit_text
  pub stop : (w : W) (sizes : List ℕ) → stops w sizes → m.may_end sizes (ends.status w) (ends.text w)
  pub whole : (w : W) → EndsWhole m (ends.status w)
  pub other : (w : W) → ends.status w ≢ status.Ok

-- by these sizes of its files the work may end so
abbrev pub MayEndBy : {X W : Type 0} → Meaning → (past : List ℕ → Type 0) → (stops : W → List ℕ → Type 0) → Result X (Ending W) → List ℕ → Type 0
MayEndBy m past stops (Ok x) sizes = m.may_work sizes
MayEndBy m past stops (Err end.Limit) sizes = past sizes
MayEndBy m past stops (Err (end.At w)) sizes = stops w sizes
MayEndBy m past stops (Err (end.Cut cut.File)) sizes = m.uses.files ≡ true
MayEndBy m past stops (Err (end.Cut why)) sizes = MayBeCut m why × m.may_work sizes

-- all went out of an answer but a last text in notes
abbrev pub WentButNotes : (Answer → Type 0) → Status → (before after : Taken) → List ℕ → Type 0
WentButNotes P ended before after text = (answer : Answer) × P answer × GaveButNotes ended before after text answer

-- a front of an answer went out before a fault was told, and so much as may have been put so far where the work was cut short
pub record WentToCut (P : Answer → Type 0) (Q : List Put → Type 0) (ended : Status) (before after : Taken) : Type 0 where
  pub answer : Answer
  pub is : P answer
  pub part : List Put
  pub breaks : Breaks ended part answer.puts
  pub quiet : bytes_to Notes part ≡ []
  pub went : GoOut before after part
  pub so_far : IsReadingCutOff ended → Q part

-- what went out of an answer by how the work ended
abbrev pub WentAtEnd : {X W : Type 0} → Endings X W → (P : Answer → Type 0) → (Q : List Put → Type 0) → Result X (Ending W) → (before after : Taken) → Type 0
WentAtEnd ends P Q (Ok x) before after = WentButNotes P status.Ok before after []
WentAtEnd ends P Q (Err end.Limit) before after = WentButNotes P status.Limit before after limit_text
WentAtEnd ends P Q (Err (end.At w)) before after = WentButNotes P (ends.status w) before after (ends.text w)
WentAtEnd ends P Q (Err (end.Cut why)) before after = WentToCut P Q (status_of why) before after

-- all of an answer went out
pub went_whole : (P : Answer → Type 0) (answer : Answer) (before after : Taken) → P answer → GoOut before after answer.puts
    → WentButNotes P answer.status before after []
went_whole P answer before after is went =
    (answer, is, record { same_status = refl; puts = answer.puts; whole = sym (append-nil answer.puts); went = went })

-- nothing went out of one that is a text in notes
pub went_noted : (P : Answer → Type 0) (ended : Status) (text : List ℕ) (before after : Taken) → P (noted ended text) → GoOut before after []
    → WentButNotes P ended before after text
went_noted P ended text before after is went = (noted ended text, is, record { same_status = refl; puts = []; whole = refl; went = went })

-- nothing went out of one that was to come
pub went_none : (P : Answer → Type 0) (Q : List Put → Type 0) (ended : Status) (answer : Answer) (before after : Taken) → P answer
    → Breaks ended [] answer.puts → Q [] → GoOut before after [] → WentToCut P Q ended before after
went_none P Q ended answer before after is breaks so_far went =
    record { answer = answer; is = is; part = []; breaks = breaks; quiet = refl; went = went; so_far = λ short. so_far }

-- files that are there show the bytes of some
pub some_told : {S : Type 0} (tell : S → Option (List ℕ)) (files : List S) (all : List (List ℕ)) → 0 < length files → map tell files ≡ map Some all → all ≢ []
some_told tell [] all some told none = omega (arith, some)
some_told tell (f ∷ files) all some told none = cc (told ∙ ap (map Some) none)

module _ (m : Meaning) (S : List (List ℕ) → Type 0) (P : List (List ℕ) → Answer → Type 0) (Q : List (List ℕ) → List Put → Type 0) (reads : ReadsFiles m S P Q)
    (input made made_then : SeenStream) (files files_then : List SeenFile) (grown : SeenFile) (out out_then notes notes_then : SeenStream)
    (keeps : Keeps m (seen input files made grown out notes) (seen input files_then made_then grown out_then notes_then))
    (exact : (all : List (List ℕ)) (sizes : List ℕ) → bytes_of files ≡ map Some all → told_by files_then ≡ map Some sizes → sizes ≡ map length all) where
  abbrev Before : Seen
  Before = seen input files made grown out notes

  abbrev After : Seen
  After = seen input files_then made_then grown out_then notes_then

  abbrev Ended : Status → Type 0
  Ended = Runs m Before After

  -- what the sinks had taken before the work, and when it had ended
  abbrev Start : Taken
  Start = taken_by made.bytes out.bytes notes.bytes

  abbrev Worked : Taken
  Worked = taken_by made_then.bytes out_then.bytes notes.bytes

  -- R holds of the bytes that the files show
  abbrev IfFiles : (List (List ℕ) → Type 0) → Type 0
  IfFiles R = (all : List (List ℕ)) → bytes_of files ≡ map Some all → AllByRecursion AreBytes all → S all → R all

  -- and of the sizes that they told
  abbrev Told : (List ℕ → Type 0) → Type 0
  Told R = HaveTold (told_by files_then) R

  of_sizes : (R T : List ℕ → Type 0) → ((sizes : List ℕ) → R sizes → T sizes) → Told R → OfSizes m Before After T
  of_sizes R T then told = record {
    sizes = told.0;
    told = λ _. told.1;
    exact = λ _ all same. exact all told.0 same told.1;
    grown_told = λ uses. absurd (cc (sym uses ∙ reads.grown));
    grown_exact = λ uses. absurd (cc (sym uses ∙ reads.grown));
    holds = then told.0 told.2;
  }

  to_work : Told m.may_work → OfSizes m Before After m.may_work
  to_work told = of_sizes m.may_work m.may_work (λ sizes may. may) told

  -- these are the sizes of those bytes
  of_files : (R : List ℕ → Type 0) (all : List (List ℕ)) → bytes_of files ≡ map Some all → Told R → R (map length all)
  of_files R all same told = subst R (exact all told.0 same told.1) told.2

  if_told : (R : Answer → Type 0) → IfFiles (λ all. (answer : Answer) × P all answer × R answer) → IfAnswered m Before R
  if_told R known = λ r is.
      let told = is.files reads.files in
      let found = known r.files told.0 told.1 (reads.supposed r is.supposed) in
      (found.0, reads.answers r found.0 found.1, found.2)

  -- the work was done
  done : Told m.may_work → (ends_well : (sizes : List ℕ) → m.may_work sizes → m.may_end sizes status.Ok [])
      → IfFiles (λ all. WentButNotes (P all) status.Ok Start Worked []) → notes_then ≡ notes → Ended status.Ok
  done told ends_well put same =
      let silent : Takes notes.bytes notes_then.bytes [] =
      subst (λ (s : SeenStream). Takes notes.bytes s.bytes []) (sym same) (Takes-nothing notes.bytes) in
      runs-whole m Before After status.Ok [] tt (of_sizes m.may_work (λ sizes. m.may_end sizes status.Ok []) ends_well told) silent
      (λ r is. let a = if_told (GaveButNotes status.Ok Start Worked []) put r is in
      (a.0, a.1, gave-said status.Ok Before After notes [] a.0 a.2 silent))
      (λ _ uses. absurd (cc (sym uses ∙ reads.input))) tt keeps

  -- it ended with a text to say
  said : (ended wanted : Status) (text : List ℕ) → SaysAtEnd ended wanted notes notes_then text → EndsWhole m wanted → wanted ≢ status.Ok
      → OfSizes m Before After (λ sizes. m.may_end sizes wanted text) → IfFiles (λ all. WentButNotes (P all) wanted Start Worked text)
      → Ended ended
  said ended wanted text says whole other may put =
      runs-said m Before After notes ended wanted [] text (Takes-nothing notes.bytes) (omega arith) says whole.0 other may
      (if_told (GaveButNotes wanted Start Worked text) put) (whole.1 Before After) keeps

  -- it was cut off
  cut_off : (why : Cut) (ended : Status) → IsCutOff (status_of why) → (status_of why ≢ status.File → OfSizes m Before After m.may_work)
      → IfFiles (λ all. WentToCut (P all) (Q all) (status_of why) Start Worked)
      → (ended ≡ status_of why) × TakesThen notes notes_then [] (fault_text (status_of why)) → HasCause (status_of why) m Before After
      → Ended ended
  cut_off why ended cuts within put (is, says) cause =
      subst Ended (sym is) (runs-cut_off m Before After (status_of why) [] cuts within reads.silent says
      (if_told (WasCutOff (status_of why) Before After) (λ all same bytes supposed.
      let h = put all same bytes supposed in
      let quiet = PutsLines-none h.part h.answer.puts h.quiet in
      (h.answer, h.is, was-cut_off (status_of why) Before After notes h.answer h.part h.breaks quiet h.went (omega arith) says)))
      (λ short sound r is.
      let told = is.files reads.files in
      let h = put r.files told.0 told.1 (reads.supposed r is.supposed) in
      went-so_far m (status_of why) Before After notes r h.part (reads.so_far r _ _ h.part (h.so_far short)) h.went (omega arith) says)
      cause keeps)

  -- by how the work ended
  by_end : {X W : Type 0} (ends : Endings X W) (past : List ℕ → Type 0) (stops : W → List ℕ → Type 0) → EndsBySizes m ends past stops
      → (result : Result X (Ending W)) (ended : Status) → IsAllowedEndOfMany m past stops result (told_by files_then)
      → IfFiles (λ all. MayEndBy m past stops result (map length all) → WentAtEnd ends (P all) (Q all) result Start Worked)
      → SaysEnd ends result ended notes notes_then
      → (result ≡ Err (end.Cut cut.File) → OneRose files files_then)
      → (result ≡ Err (end.Cut cut.Made) → Rose made.faults made_then.faults)
      → (result ≡ Err (end.Cut cut.Out) → Rose out.faults out_then.faults)
      → Ended ended
  by_end ends past stops by (Ok x) ended told put says file_rose made_rose out_rose =
      subst Ended (sym (says.0 ∙ by.done x))
      (done told by.may_work (λ all same bytes supposed. put all same bytes supposed (of_files m.may_work all same told)) says.1)
  by_end ends past stops by (Err end.Limit) ended told put says file_rose made_rose out_rose =
      said ended status.Limit limit_text says (tt, λ _ _. tt) (λ e. cc e)
      (of_sizes past (λ sizes. m.may_end sizes status.Limit limit_text) by.too_long told)
      (λ all same bytes supposed. put all same bytes supposed (of_files past all same told))
  by_end ends past stops by (Err (end.At w)) ended told put says file_rose made_rose out_rose =
      said ended (ends.status w) (ends.text w) says (by.whole w) (by.other w)
      (of_sizes (stops w) (λ sizes. m.may_end sizes (ends.status w) (ends.text w)) (by.stop w) told)
      (λ all same bytes supposed. put all same bytes supposed (of_files (stops w) all same told))
  by_end ends past stops by (Err (end.Cut cut.Input)) ended (used, told) put says file_rose made_rose out_rose = absurd (cc (sym reads.input ∙ used))
  by_end ends past stops by (Err (end.Cut cut.File)) ended used put says file_rose made_rose out_rose =
      cut_off cut.File ended tt (λ other. absurd (other refl)) (λ all same bytes supposed. put all same bytes supposed used) says (used, file_rose refl)
  by_end ends past stops by (Err (end.Cut cut.Made)) ended (used, told) put says file_rose made_rose out_rose =
      cut_off cut.Made ended tt (λ _. to_work told)
      (λ all same bytes supposed. put all same bytes supposed (used, of_files m.may_work all same told)) says (used, made_rose refl)
  by_end ends past stops by (Err (end.Cut cut.Grown)) ended (used, told) put says file_rose made_rose out_rose = absurd (cc (sym reads.grown ∙ used))
  by_end ends past stops by (Err (end.Cut cut.Out)) ended (used, told) put says file_rose made_rose out_rose =
      cut_off cut.Out ended tt (λ _. to_work told)
      (λ all same bytes supposed. put all same bytes supposed (used, of_files m.may_work all same told)) says (used, out_rose refl)
  by_end ends past stops by (Err (end.Cut cut.Notes)) ended ((text, may, some), told) put says file_rose made_rose out_rose =
      absurd (some (reads.says_nothing text may))
  by_end ends past stops by (Err (end.Cut cut.Memory)) ended (used, told) put says file_rose made_rose out_rose =
      cut_off cut.Memory ended tt (λ _. to_work told)
      (λ all same bytes supposed. put all same bytes supposed (used, of_files m.may_work all same told)) says used

-- the same of stores, by what became of them
module _ {K L : Type 0} (bytes : K → Option (List ℕ)) (told : K → Option ℕ) (handed : K → ℕ) (name : K → L) (faults : K → ℕ) (files files_then : List K) where
  abbrev Show : K → SeenFile
  Show = seen_file bytes told handed faults

  pub runs-files : {X W : Type 0} (m : Meaning) (S : List (List ℕ) → Type 0) (P : List (List ℕ) → Answer → Type 0) (Q : List (List ℕ) → List Put → Type 0)
      → ReadsFiles m S P Q
      → (ends : Endings X W) (past : List ℕ → Type 0) (stops : W → List ℕ → Type 0) → EndsBySizes m ends past stops
      → (input made made_then : SeenStream) (grown : SeenFile) (out out_then notes notes_then : SeenStream) (result : Result X (Ending W)) (ended : Status)
      → ((file : K) → IfSome (bytes file) (λ bs. IfSome (told file) (λ size. size ≡ length bs)))
      → AreOnlyAsked bytes (λ s. None) name faults (result ≡ Err (end.Cut cut.File)) files files_then
      → made.faults ≤ made_then.faults → out.faults ≤ out_then.faults → notes.faults ≤ notes_then.faults
      → ((place : ℕ) (file : K) → slice_get files_then place ≡ Some file → told file ≡ None → drop (place + 1) files_then ≡ drop (place + 1) files)
      → (map handed files_then ≡ map handed files)
      ⊎ ((sizes : List ℕ) × (map told files_then ≡ map Some sizes) × m.may_work sizes × m.may_take sizes (map handed files) (map handed files_then))
      → IsAllowedEndOfMany m past stops result (map told files_then)
      → ((all : List (List ℕ)) → map bytes files ≡ map Some all → AllByRecursion AreBytes all → S all → MayEndBy m past stops result (map length all)
      → WentAtEnd ends (P all) (Q all) result (taken_by made.bytes out.bytes notes.bytes) (taken_by made_then.bytes out_then.bytes notes.bytes))
      → SaysEnd ends result ended notes notes_then
      → (result ≡ Err (end.Cut cut.Made) → Rose made.faults made_then.faults)
      → (result ≡ Err (end.Cut cut.Out) → Rose out.faults out_then.faults)
      → Runs m (seen input (map Show files) made grown out notes) (seen input (map Show files_then) made_then grown out_then notes_then) ended
  runs-files m S P Q reads ends past stops by input made made_then grown out out_then notes notes_then result ended sized asked k o n in_order handed_out allowed put says made_rose out_rose =
      let as_bytes : bytes_of (map Show files) ≡ map bytes files = map-map (λ (f : SeenFile). f.bytes) Show files in
      let as_told : told_by (map Show files_then) ≡ map told files_then = map-map (λ (f : SeenFile). f.told) Show files_then in
      let its = exact_shown bytes told handed faults files files_then sized (same_bytes bytes (λ (s : K). None) name faults files files_then asked.each) in
      by_end m S P Q reads input made made_then (map Show files) (map Show files_then) grown out out_then notes notes_then
      (keeps-files bytes told handed faults files files_then m input made made_then grown out out_then notes notes_then reads.files reads.grown reads.take_of
      k o n (none_falls bytes (λ (s : K). None) name faults files files_then asked.each) in_order its handed_out)
      its ends past stops by result ended (subst (IsAllowedEndOfMany m past stops result) (sym as_told) allowed)
      (λ all is are supposed. put all (sym as_bytes ∙ is) are supposed) says
      (λ failed. one_rose bytes told handed faults files files_then (asked.cause failed)) made_rose out_rose
