-- How a run of a command ends that reads one file, by how its work ended.
use Rattle.std.proofs.Common.{◌≡◌, ◌≢◌, ◌∙◌, ℕ, ◌≤◌, true, Option, Some, None, Result, Ok, Err, List, [], ◌∷◌, ◌++◌, length, refl, sym, subst, inl, IfSome, IsSomeAnd}
use Rattle.std.specs.Result.{IsErr, IsErrAnd}
use Rattle.std.proofs.lemmas.Option.{MatchOption-at_some}
use Rattle.record_values.specs.Bytes.{AreBytes}
use Rattle.record_io.specs.Outside.{Rose, Takes, TakesShort}
use Rattle.record_io.specs.Puts.{Put, Made, Out, Taken, taken_by, GoOut}
use Rattle.record_io.specs.Seen.{SeenStream, SeenFile}
use Rattle.record_io.proofs.Calls.{Takes-nothing, TakesShort-some}
use Rattle.record_io.proofs.Puts.{GoOut-none_held}
use Rattle.record_io.specs.declared.cut.Cut.{Cut}
use Rattle.command_frame.specs.declared.ending.Ending.{Ending}
use Rattle.command_frame.specs.declared.sizes.SizeEnd.{SizeEnd}
use Rattle.command_frame.specs.declared.status.Status.{Status}
use Rattle.command_frame.specs.Answers.{Answer}
use Rattle.command_frame.specs.Endings.{Endings, status_of, end_of_size, cut_unprinted, MayBeCut, IsAllowedEnd, CutsReadingOff, HasPutToCut, HasPutEarly, HasPutAtEnd, SaysEnd, SaysAtEnd}
use Rattle.command_frame.specs.FileAnswers.{OfFile, IsInReach, IsTooLong, limit_text}
use Rattle.command_frame.specs.FileSizes.{IsUnsized}
use Rattle.command_frame.specs.Meanings.{Meaning}
use Rattle.command_frame.specs.Statuses.{fault_text}
use Rattle.command_frame.specs.Runs.{Runs}
use Rattle.command_frame.specs.RunObjects.{Seen, seen, HadNoSinkFault}
use Rattle.command_frame.specs.RunReads.{IfAnswered, OfSizes}
use Rattle.command_frame.specs.RunAnswers.{IsWhole}
use Rattle.command_frame.specs.RunLeaves.{IsCutOff, IsReadingCutOff, TakesThen, Breaks, PutsLines, WasCutOff, FailedToSay}
use Rattle.command_frame.specs.RunCauses.{HasCause}
use Rattle.command_frame.specs.PutSoFar.{HasPut, HasPutSoFar, HasPutFront}
use Rattle.command_frame.proofs.OneAnswer.{of_file_exists}
use Rattle.command_frame.proofs.PutSoFar.{front-nothing, noted-nothing, gave-put, whole-flushed, front-flushed, broken-flushed, untold-flushed, whole-unflushed, front-unflushed}
use Rattle.command_frame.proofs.FileRuns.{ReadsFile, told-answer, told-size, told-so_far}
use Rattle.command_frame.proofs.RunEnds.{GaveButNotes, Keeps, OfSizes-map, runs-whole, runs-notes, runs-cut_off, runs-said, gave-said, then-behind, was-cut_off}
use Rattle.record_io.specs.declared.cut.Cut.TheVariants as cut
use Rattle.command_frame.specs.declared.ending.Ending.TheVariants as end
use Rattle.command_frame.specs.declared.sizes.SizeEnd.TheVariants as size
use Rattle.command_frame.specs.declared.status.Status.TheVariants as status

-- what holds of every answer to a file holds of one
pub some-answer : (P : List ℕ → Answer → Type 0) → ((file : List ℕ) → AreBytes file → (answer : Answer) × P file answer)
    → (R : Answer → Type 0) (file : List ℕ) → ((answer : Answer) → OfFile P (file ∷ []) answer → R answer)
    → AreBytes file → (answer : Answer) × OfFile P (file ∷ []) answer × R answer
some-answer P exists R file each bytes =
    let found = of_file_exists P exists (file ∷ []) refl (bytes, tt) in (found.0, found.1, each found.0 found.1)

-- before the work began nothing was put
pub nothing-put : (P : List ℕ → Answer → Type 0) → ((file : List ℕ) → AreBytes file → (answer : Answer) × P file answer)
    → (bytes : Option (List ℕ)) (taken : Taken)
    → IfSome bytes (λ f. AreBytes f → (answer : Answer) × OfFile P (f ∷ []) answer × HasPutFront taken taken [] answer)
nothing-put P exists None taken = tt
nothing-put P exists (Some f) taken = some-answer P exists (HasPutFront taken taken []) f (λ answer _. front-nothing taken answer)

module _ {X W : Type 0} (ends : Endings X W) (P : List ℕ → Answer → Type 0) where
  -- no size was told of a file that may be read
  pub unsized-put : ((file : List ℕ) → AreBytes file → (answer : Answer) × P file answer)
      → (told : Option ℕ) (bytes : Option (List ℕ)) (m n : ℕ) (taken : Taken) (e : SizeEnd) (result : Result X (Ending W))
      → IsErr result → IsErrAnd result (λ made. made ≡ end_of_size e) → IsUnsized e told bytes m n
      → IfSome bytes (λ f. HasPutAtEnd ends P result f taken taken [])
  unsized-put exists told None m n taken e result err is why = tt
  unsized-put exists told (Some f) m n taken e (Ok x) err is why = absurd (cc err)
  unsized-put exists told (Some f) m n taken size.Limit (Err made) err is why =
      subst (λ (x : Ending W). HasPutEarly ends.text ends.status P x f taken taken []) (sym is)
      (noted-nothing P f taken status.Limit limit_text (inl (why.1, refl)))
  unsized-put exists told (Some f) m n taken size.File (Err made) err is why =
      subst (λ (x : Ending W). HasPutEarly ends.text ends.status P x f taken taken []) (sym is)
      (nothing-put P exists (Some f) taken)

  -- what was put when the work ended, where what is held goes out or standard output fails
  module _ (a : Taken) (made b c notes : Option (List ℕ)) (held : List ℕ) where
    cut-flushed : (why : Cut) (answer : Answer) → HasPutToCut why a (taken_by made b notes) held answer → Takes b c held
        → HasPutToCut why a (taken_by made c notes) [] answer
    cut-flushed cut.Made answer h out = broken-flushed a made b c notes held Made answer h out
    cut-flushed cut.Out answer h out = broken-flushed a made b c notes held Out answer h out
    cut-flushed cut.Notes answer h out = (refl, untold-flushed a made b c notes held answer h.0 h.1 out)
    cut-flushed other answer h out = front-flushed a made b c notes held answer h out

    cut-unflushed : (why : Cut) (answer : Answer) → HasPutToCut why a (taken_by made b notes) held answer → TakesShort b c held
        → HasPutToCut why a (taken_by made c notes) [] answer
    cut-unflushed cut.Made answer h out = absurd (TakesShort-some b c held out h.none_held)
    cut-unflushed cut.Out answer h out = absurd (TakesShort-some b c held out h.none_held)
    cut-unflushed cut.Notes answer h out = absurd (TakesShort-some b c held out h.0)
    cut-unflushed other answer h out = front-unflushed a made b c notes held answer h out

    at-flushed : (result : Result X (Ending W)) (f : List ℕ) → HasPutAtEnd ends P result f a (taken_by made b notes) held → Takes b c held
        → HasPutAtEnd ends P result f a (taken_by made c notes) []
    at-flushed (Ok x) f h out = whole-flushed a made b c notes held P f [] (ends.done x) h out
    at-flushed (Err end.Limit) f h out = whole-flushed a made b c notes held P f limit_text status.Limit h out
    at-flushed (Err (end.At w)) f h out = whole-flushed a made b c notes held P f (ends.text w) (ends.status w) h out
    at-flushed (Err (end.Cut why)) f h out = λ bytes. let found = h bytes in (found.0, found.1, cut-flushed why found.0 found.2 out)

    at-unflushed : (result : Result X (Ending W)) (f : List ℕ) → HasPutAtEnd ends P result f a (taken_by made b notes) held
        → TakesShort b c held
        → HasPutEarly ends.text ends.status P (end.Cut (cut_unprinted result)) f a (taken_by made c notes) []
    at-unflushed (Ok x) f h out = λ bytes. whole-unflushed a made b c notes held P f [] (ends.done x) h out
    at-unflushed (Err end.Limit) f h out = λ bytes. whole-unflushed a made b c notes held P f limit_text status.Limit h out
    at-unflushed (Err (end.At w)) f h out = λ bytes. whole-unflushed a made b c notes held P f (ends.text w) (ends.status w) h out
    at-unflushed (Err (end.Cut why)) f h out = λ bytes. let found = h bytes in (found.0, found.1, cut-unflushed why found.0 found.2 out)

  pub end-flushed : (result : Result X (Ending W)) (told bytes : Option (List ℕ)) (a : Taken) (made b c notes : Option (List ℕ)) (held : List ℕ)
      → told ≡ bytes → IfSome told (λ f. HasPutAtEnd ends P result f a (taken_by made b notes) held) → Takes b c held
      → IfSome bytes (λ f. HasPutAtEnd ends P result f a (taken_by made c notes) [])
  end-flushed result told None a made b c notes held same h out = tt
  end-flushed result told (Some f) a made b c notes held same h out =
      at-flushed a made b c notes held result f
      (MatchOption-at_some _ (λ (x : List ℕ). HasPutAtEnd ends P result x a (taken_by made b notes) held) f same h) out

  pub end-unflushed : (result : Result X (Ending W)) (why : Cut) → why ≡ cut_unprinted result → (told bytes : Option (List ℕ))
      (a : Taken) (made b c notes : Option (List ℕ)) (held : List ℕ)
      → told ≡ bytes → IfSome told (λ f. HasPutAtEnd ends P result f a (taken_by made b notes) held) → TakesShort b c held
      → IfSome bytes (λ f. HasPutAtEnd ends P (Err (end.Cut why)) f a (taken_by made c notes) [])
  end-unflushed result why is told None a made b c notes held same h out = tt
  end-unflushed result why is told (Some f) a made b c notes held same h out =
      subst (λ (x : Cut). HasPutEarly ends.text ends.status P (end.Cut x) f a (taken_by made c notes) []) (sym is)
      (at-unflushed a made b c notes held result f
      (MatchOption-at_some _ (λ (x : List ℕ). HasPutAtEnd ends P result x a (taken_by made b notes) held) f same h) out)

-- no size was told by which it may end
pub unsized-allowed : {X W : Type 0} (known : Meaning) → known.uses.files ≡ true → (told : Option ℕ) (bytes : Option (List ℕ)) (m n : ℕ) (e : SizeEnd)
    (result : Result X (Ending W))
    → IsErr result → IsErrAnd result (λ made. made ≡ end_of_size e) → IsUnsized e told bytes m n → IsAllowedEnd known result told
unsized-allowed known files told bytes m n e (Ok x) err is why = absurd (cc err)
unsized-allowed {X} {W} known files told bytes m n size.Limit (Err made) err is why =
    subst (λ (x : Ending W). IsAllowedEnd {X = X} known (Err x) told) (sym is) why.0
unsized-allowed {X} {W} known files told bytes m n size.File (Err made) err is why =
    subst (λ (x : Ending W). IsAllowedEnd {X = X} known (Err x) told) (sym is) files

-- what an end by a cut tells of the command
pub cut-allowed : {X W : Type 0} (known : Meaning) (why : Cut) (result : Result X (Ending W)) (told : Option ℕ) → IsAllowedEnd known result told
    → result ≡ Err (end.Cut why) → MayBeCut known why
cut-allowed {X} {W} known why result told allowed is = of_cut why (subst (λ (r : Result X (Ending W)). IsAllowedEnd known r told) is allowed) where
  of_cut : (why : Cut) → IsAllowedEnd {X = X} {W = W} known (Err (end.Cut why)) told → MayBeCut known why
  of_cut cut.File h = h
  of_cut other h = h.0

-- a status with which a command may give a whole answer, by no cause of its own
abbrev pub EndsWhole : Meaning → Status → Type 0
EndsWhole m ended = IsWhole ended × ((before after : Seen) → HasCause ended m before after)

-- what holds of a command whose work ends so
pub record EndsBy {X W : Type 0} (m : Meaning) (ends : Endings X W) : Type 0 where
  pub too_long : (sizes : List ℕ) → IsTooLong sizes → m.may_end sizes status.Limit limit_text
  pub whole : (w : W) → EndsWhole m (ends.status w)
  pub other : (w : W) → ends.status w ≢ status.Ok

-- with a text in notes the command may end so, by the size of its file
abbrev pub MayEndInReach : Meaning → Status → List ℕ → Type 0
MayEndInReach m ended text = (sizes : List ℕ) → IsInReach sizes → m.may_end sizes ended text

-- what notes took before the end: a text behind which the command may end so, or not all of one, where they failed
abbrev pub HasSaid : {X W : Type 0} → Meaning → Endings X W → Result X (Ending W) → (notes notes_then : Option (List ℕ)) → Type 0
HasSaid m ends (Ok x) notes notes_then =
    (text : List ℕ) × Takes notes notes_then text × MayEndInReach m (ends.done x) text × EndsWhole m (ends.done x)
HasSaid m ends (Err end.Limit) notes notes_then = Takes notes notes_then []
HasSaid m ends (Err (end.At w)) notes notes_then =
    (text : List ℕ) × Takes notes notes_then text × MayEndInReach m (ends.status w) (text ++ ends.text w)
HasSaid m ends (Err (end.Cut cut.Notes)) notes notes_then =
    (wanted : Status) × (text : List ℕ) × TakesShort notes notes_then text × MayEndInReach m wanted text
HasSaid m ends (Err (end.Cut why)) notes notes_then = (text : List ℕ) × Takes notes notes_then text × m.may_say text

module _ (m : Meaning) (P : List ℕ → Answer → Type 0) (Q : (before after : ℕ) → List ℕ → List Put → Type 0) (reads : ReadsFile m P Q)
    (input made made_then : SeenStream) (file file_then grown : SeenFile) (out out_then notes mid notes_then : SeenStream)
    (keeps : Keeps m (seen input (file ∷ []) made grown out notes) (seen input (file_then ∷ []) made_then grown out_then notes_then)) where
  abbrev Before : Seen
  Before = seen input (file ∷ []) made grown out notes

  abbrev After : Seen
  After = seen input (file_then ∷ []) made_then grown out_then notes_then

  abbrev Ended : Status → Type 0
  Ended = Runs m Before After

  -- what the sinks had taken before the work, and when it had ended
  abbrev Start : Taken
  Start = taken_by made.bytes out.bytes notes.bytes

  abbrev Worked : Taken
  Worked = taken_by made_then.bytes out_then.bytes mid.bytes

  -- what follows from the bytes of the file, and from the size that it told
  if_told : (R : Answer → Type 0)
      → ((bytes : List ℕ) → AreBytes bytes → file.bytes ≡ Some bytes → (answer : Answer) × OfFile P (bytes ∷ []) answer × R answer)
      → IfAnswered m Before R
  if_told R known = told-answer m P Q reads input made made_then file file_then grown out out_then notes notes_then R known

  abbrev Exact : Type 0
  Exact = IfSome file.bytes (λ bytes. IfSome file_then.told (λ size. size ≡ length bytes))

  of_size : (R S : List ℕ → Type 0) → ((sizes : List ℕ) → R sizes → S sizes) → IsSomeAnd file_then.told (λ size. R (size ∷ [])) → Exact
      → OfSizes m Before After S
  of_size R S then told exact =
      OfSizes-map m Before After R S then
      (told-size m P Q reads input made made_then file file_then grown out out_then notes notes_then R told exact)

  -- all of an answer was put but its last text
  gave : (last : List ℕ) (ended : Status) → IfSome file.bytes (λ bytes. HasPut P bytes Start Worked [] last ended)
      → IfAnswered m Before (GaveButNotes ended Start Worked last)
  gave last ended put =
      if_told (GaveButNotes ended Start Worked last) (λ bytes are told.
      let h = MatchOption-at_some _ (λ (b : List ℕ). HasPut P b Start Worked [] last ended) bytes told put in
      (h.answer, h.is, gave-put P bytes Start Worked last ended h))

  -- the work was done
  done : (ended : Status) (text : List ℕ) → Takes notes.bytes mid.bytes text → EndsWhole m ended
      → OfSizes m Before After (λ sizes. m.may_end sizes ended text)
      → IfSome file.bytes (λ bytes. HasPut P bytes Start Worked [] [] ended) → notes_then ≡ mid
      → Ended ended
  done ended text took whole may put same =
      runs-whole m Before After ended text whole.0 may (subst (λ (s : SeenStream). Takes notes.bytes s.bytes text) (sym same) took)
      (λ r is. let a = gave [] ended put r is in (
        a.0,
        a.1,
        gave-said ended Before After mid [] a.0 a.2 (subst (λ (s : SeenStream). Takes mid.bytes s.bytes []) (sym same) (Takes-nothing mid.bytes)),
      ))
      (λ _ uses. absurd (cc (sym uses ∙ reads.input))) (whole.1 Before After) keeps

  -- it ended with a text to say
  said : (ended wanted : Status) (earlier last : List ℕ) → Takes notes.bytes mid.bytes earlier → notes.faults ≤ mid.faults
      → SaysAtEnd ended wanted mid notes_then last → EndsWhole m wanted → wanted ≢ status.Ok
      → OfSizes m Before After (λ sizes. m.may_end sizes wanted (earlier ++ last))
      → IfSome file.bytes (λ bytes. HasPut P bytes Start Worked [] last wanted)
      → Ended ended
  said ended wanted earlier last took less says whole other may put =
      runs-said m Before After mid ended wanted earlier last took less says whole.0 other may (gave last wanted put)
      (whole.1 Before After) keeps

  -- of an answer so much was put when it was cut off
  abbrev PutToCut : Cut → Type 0
  PutToCut why =
      IfSome file.bytes (λ bytes. AreBytes bytes → (answer : Answer) × OfFile P (bytes ∷ []) answer × HasPutToCut why Start Worked [] answer)

  -- notes failed to take what was said before the end
  untold : (wanted : Status) (text : List ℕ) → TakesShort notes.bytes mid.bytes text → OfSizes m Before After (λ sizes. m.may_end sizes wanted text)
      → PutToCut cut.Notes → notes_then ≡ mid → Rose notes.faults mid.faults
      → Ended status.Notes
  untold wanted text front may put same rose =
      runs-notes m Before After wanted text may (subst (λ (s : SeenStream). TakesShort notes.bytes s.bytes text) (sym same) front)
      (subst (λ (s : SeenStream). IfAnswered m Before (FailedToSay Start (taken_by made_then.bytes out_then.bytes s.bytes))) (sym same)
      (if_told (FailedToSay Start Worked) (λ bytes are told.
      let h = MatchOption-at_some _
      (λ (b : List ℕ). AreBytes b → (answer : Answer) × OfFile P (b ∷ []) answer × HasPutToCut cut.Notes Start Worked [] answer) bytes told put are in
      (h.0, h.1, h.2.1))))
      (subst (λ (s : SeenStream). Rose notes.faults s.faults) (sym same) rose) keeps

  -- all that was put so far went out
  abbrev PutSoFar : Type 0
  PutSoFar = HadNoSinkFault m.uses Before After → IfSome file.bytes (λ bytes. HasPutSoFar (Q file.handed file_then.handed bytes) Start Worked [])

  -- a front of an answer, up to a byte that goes to the sink that failed
  broken : (why : Cut) → why ≢ cut.Notes → (answer : Answer) → HasPutToCut why Start Worked [] answer
      → (part : List Put) × Breaks (status_of why) part answer.puts × PutsLines part answer.puts × GoOut Start Worked part
  broken cut.Made other answer h = (h.part, h.broke, h.lines, h.went)
  broken cut.Out other answer h = (h.part, h.broke, h.lines, h.went)
  broken cut.Notes other answer h = absurd (other refl)
  broken why other answer h = (h.part, (h.rest, h.parts), h.lines, GoOut-none_held Start Worked Out h.part [] refl h.went)

  -- the work was cut off
  cut_off : (why : Cut) (ended : Status) → why ≢ cut.Notes → IsCutOff (status_of why) → (status_of why ≢ status.File → OfSizes m Before After m.may_work)
      → (text : List ℕ) × Takes notes.bytes mid.bytes text × m.may_say text → PutToCut why → (IsReadingCutOff (status_of why) → PutSoFar)
      → notes.faults ≤ mid.faults → (ended ≡ status_of why) × TakesThen mid notes_then [] (fault_text (status_of why))
      → HasCause (status_of why) m Before After
      → Ended ended
  cut_off why ended other cuts within (text, took, may_say) put so_far less (is, says) cause =
      subst Ended (sym is) (runs-cut_off m Before After (status_of why) text cuts within may_say
      (then-behind notes mid notes_then text (fault_text (status_of why)) took less says)
      (if_told (WasCutOff (status_of why) Before After) (λ bytes are told.
      let h = MatchOption-at_some _
      (λ (b : List ℕ). AreBytes b → (answer : Answer) × OfFile P (b ∷ []) answer × HasPutToCut why Start Worked [] answer) bytes told put are in
      let front = broken why other h.0 h.2 in
      (h.0, h.1, was-cut_off (status_of why) Before After mid h.0 front.0 front.1 front.2 front.3 less says)))
      (λ short sound.
      told-so_far m P Q reads input made made_then file file_then grown out out_then notes notes_then (status_of why) mid (so_far short sound) less says)
      cause keeps)

  -- by how the work ended
  pub runs-file : {X W : Type 0} (ends : Endings X W) → EndsBy m ends → (result : Result X (Ending W)) (ended : Status)
      → IsAllowedEnd m result file_then.told → Exact
      → IfSome file.bytes (λ bytes. HasPutAtEnd ends P result bytes Start Worked [])
      → (IsErrAnd result CutsReadingOff → PutSoFar)
      → HasSaid m ends result notes.bytes mid.bytes → SaysEnd ends result ended mid notes_then → notes.faults ≤ mid.faults
      → (result ≡ Err (end.Cut cut.File) → Rose file.faults file_then.faults)
      → (result ≡ Err (end.Cut cut.Made) → Rose made.faults made_then.faults)
      → (result ≡ Err (end.Cut cut.Out) → Rose out.faults out_then.faults)
      → (result ≡ Err (end.Cut cut.Notes) → Rose notes.faults mid.faults)
      → Ended ended
  runs-file ends by (Ok x) ended may exact put so_far (text, took, may_end, whole) says less file_rose made_rose out_rose notes_rose =
      subst Ended (sym says.0)
      (done (ends.done x) text took whole (of_size IsInReach (λ sizes. m.may_end sizes (ends.done x) text) may_end may exact) put says.1)
  runs-file ends by (Err end.Limit) ended may exact put so_far took says less file_rose made_rose out_rose notes_rose =
      said ended status.Limit [] limit_text took less says (tt, λ _ _. tt) (λ e. cc e)
      (of_size IsTooLong (λ sizes. m.may_end sizes status.Limit limit_text) by.too_long may exact) put
  runs-file ends by (Err (end.At w)) ended may exact put so_far (text, took, may_end) says less file_rose made_rose out_rose notes_rose =
      said ended (ends.status w) text (ends.text w) took less says (by.whole w) (by.other w)
      (of_size IsInReach (λ sizes. m.may_end sizes (ends.status w) (text ++ ends.text w)) may_end may exact) put
  runs-file ends by (Err (end.Cut cut.Input)) ended may exact put so_far before says less file_rose made_rose out_rose notes_rose =
      absurd (cc (sym reads.input ∙ may.0))
  runs-file ends by (Err (end.Cut cut.File)) ended may exact put so_far before says less file_rose made_rose out_rose notes_rose =
      cut_off cut.File ended (λ e. cc e) tt (λ other. absurd (other refl)) before put so_far less says
      (may, (0, file, file_then, refl, refl, file_rose refl))
  runs-file ends by (Err (end.Cut cut.Made)) ended may exact put so_far before says less file_rose made_rose out_rose notes_rose =
      cut_off cut.Made ended (λ e. cc e) tt (λ _. of_size IsInReach m.may_work reads.may_work may.1 exact) before put so_far less says
      (may.0, made_rose refl)
  runs-file ends by (Err (end.Cut cut.Grown)) ended may exact put so_far before says less file_rose made_rose out_rose notes_rose =
      absurd (cc (sym reads.grown ∙ may.0))
  runs-file ends by (Err (end.Cut cut.Out)) ended may exact put so_far before says less file_rose made_rose out_rose notes_rose =
      cut_off cut.Out ended (λ e. cc e) tt (λ _. of_size IsInReach m.may_work reads.may_work may.1 exact) before put so_far less says
      (may.0, out_rose refl)
  runs-file ends by (Err (end.Cut cut.Notes)) ended may exact put so_far (wanted, text, front, may_end) says less file_rose made_rose out_rose notes_rose =
      subst Ended (sym says.0)
      (untold wanted text front (of_size IsInReach (λ sizes. m.may_end sizes wanted text) may_end may.1 exact) put says.1 (notes_rose refl))
  runs-file ends by (Err (end.Cut cut.Memory)) ended may exact put so_far before says less file_rose made_rose out_rose notes_rose =
      cut_off cut.Memory ended (λ e. cc e) tt (λ _. of_size IsInReach m.may_work reads.may_work may.1 exact) before put so_far less says may.0
