-- How a run of `write` ends, by the answer of the write engine.
use Rattle.std.proofs.Common.{◌≡◌, ◌≢◌, ℕ, ◌^◌, Option, Some, None, Result, Ok, Err, List, [], ◌++◌, length, take, arith, refl, sym, ap, subst, ◌∙◌, decimal, codes}
use Rattle.std.specs.Option.{IfSome}
use Rattle.std.proofs.lemmas.Option.{MatchOption-at_some}
use Rattle.record_io.specs.Outside.{Rose, Takes, TakesShort}
use Rattle.record_io.specs.Calls.{TakesFront}
use Rattle.record_io.specs.Puts.{Put, Made, Notes, taken_by, BreaksOff, puts_to}
use Rattle.record_io.specs.Seen.{SeenStream, SeenFile}
use Rattle.record_io.proofs.Calls.{Takes-nothing}
use Rattle.record_io.proofs.Puts.{GoOut-made, TakesFront-count, BreaksOff-last, BreaksOff-longer, bytes_to-other, puts_to-front}
use Rattle.record_values.specs.declared.file_totals.Totals.{Totals}
use Rattle.record_writer.specs.declared.engine.WriteEnd.{WriteEnd}
use Rattle.record_writer.specs.declared.feed.Stop.{Stop}
use Rattle.record_writer.specs.Written.{file_under}
use Rattle.record_writer.specs.WriteAnswers.{TellsWritten, TakesFile}
use Rattle.command_frame.specs.declared.status.Status.{Status}
use Rattle.write_command.specs.declared.write_words.WriteWords.{WriteWords}
use Rattle.command_frame.specs.Statuses.{fault_text}
use Rattle.write_command.specs.Input.{taken_from}
use Rattle.command_frame.specs.Answers.{Answer, line}
use Rattle.write_command.specs.WriteCommand.{write_meaning, stop_text, stop_status, write_answer}
use Rattle.command_frame.specs.Runs.{Runs}
use Rattle.command_frame.specs.RunObjects.{Seen, seen}
use Rattle.command_frame.specs.RunAnswers.{IsWhole}
use Rattle.command_frame.specs.RunLeaves.{IsCutOff, Breaks, TakesThen}
use Rattle.command_frame.specs.Endings.{SaysAtEnd}
use Rattle.command_frame.specs.RunCauses.{HasCause}
use Rattle.command_frame.proofs.RunEnds.{GaveButNotes, Keeps, OfSizes-unread, PutsLines-none, gave-said, was-cut_off, went-so_far, runs-whole, runs-said, runs-cut_off}
use Rattle.record_writer.specs.declared.engine.WriteEnd.TheVariants as end
use Rattle.record_writer.specs.declared.feed.Stop.TheVariants as stop
use Rattle.command_frame.specs.declared.status.Status.TheVariants as status

-- the file of an input's records
abbrev made_of : WriteWords → List ℕ → List ℕ
made_of words bytes = file_under words.options (taken_from bytes words.hex (2 ^ 40)).records

-- the write engine's answer to an input that shows its bytes, and what the made file took of that file
pub record Wrote (words : WriteWords) (input made made_then : SeenStream) (result : Result Totals WriteEnd) : Type 0 where
  pub told : (bytes : List ℕ) → input.bytes ≡ Some bytes
      → TellsWritten result words.options (taken_from bytes words.hex (2 ^ 40))
      × TakesFile result made.bytes made_then.bytes (made_of words bytes)

pub wrote : (words : WriteWords) (input made made_then : SeenStream) (result : Result Totals WriteEnd)
    → IfSome input.bytes (λ bytes. TellsWritten result words.options (taken_from bytes words.hex (2 ^ 40)))
    → IfSome input.bytes (λ bytes. TakesFile result made.bytes made_then.bytes (made_of words bytes))
    → Wrote words input made made_then result
wrote words input made made_then result answer took = record {
  told = λ bytes told. (
    MatchOption-at_some _ (λ (b : List ℕ). TellsWritten result words.options (taken_from b words.hex (2 ^ 40))) bytes told answer,
    MatchOption-at_some _ (λ (b : List ℕ). TakesFile result made.bytes made_then.bytes (made_of words b)) bytes told took,
  );
}

-- the same of an error that is known
pub wrote-err : (words : WriteWords) (input made made_then : SeenStream) (known e : WriteEnd)
    → e ≡ known → Wrote words input made made_then (Err e) → Wrote words input made made_then (Err known)
wrote-err words input made made_then known e is wrote = subst (λ (x : WriteEnd). Wrote words input made made_then (Err x)) is wrote

-- the whole file went out
all-made : (words : WriteWords) (bytes : List ℕ) (made made_then out notes : Option (List ℕ)) (wanted : Status) (text : List ℕ) (stop : Option Stop)
    → (taken_from bytes words.hex (2 ^ 40)).stop ≡ stop → stop_status stop ≡ wanted
    → stop_text (length (taken_from bytes words.hex (2 ^ 40)).records) stop ≡ text
    → Takes made made_then (made_of words bytes)
    → GaveButNotes wanted (taken_by made out notes) (taken_by made_then out notes) text (write_answer words bytes)
all-made words bytes made made_then out notes wanted text stop is ended said took = record {
  same_status = sym (ap stop_status is ∙ ended);
  puts = puts_to Made (made_of words bytes);
  whole = ap (λ (t : List ℕ). puts_to Made (made_of words bytes) ++ puts_to Notes t)
      (ap (stop_text (length (taken_from bytes words.hex (2 ^ 40)).records)) is ∙ said);
  went = GoOut-made made made_then out notes (made_of words bytes) took;
}

-- the whole input was written
pub write-ok : (words : WriteWords) (input input_then : SeenStream) (files : List SeenFile) (made made_then : SeenStream) (grown : SeenFile) (out notes : SeenStream) (totals : Totals)
    → Wrote words input made made_then (Ok totals)
    → IfSome input.bytes (λ _. input_then.bytes ≡ Some [])
    → Keeps (write_meaning words) (seen input files made grown out notes) (seen input_then files made_then grown out notes)
    → Runs (write_meaning words) (seen input files made grown out notes) (seen input_then files made_then grown out notes) status.Ok
write-ok words input input_then files made made_then grown out notes totals wrote read keeps =
    let before : Seen = seen input files made grown out notes in
    let after : Seen = seen input_then files made_then grown out notes in
    runs-whole (write_meaning words) before after status.Ok [] tt
    (OfSizes-unread (write_meaning words) before after (λ sizes. (write_meaning words).may_end sizes status.Ok []) refl refl (0, None, refl, refl))
    (Takes-nothing notes.bytes)
    (λ r is. let bytes : List ℕ = r.input in let w = wrote.told bytes (is.input refl) in (
      write_answer words bytes,
      refl,
      gave-said status.Ok before after notes [] (write_answer words bytes)
          (all-made words bytes made.bytes made_then.bytes out.bytes notes.bytes status.Ok [] None w.0.0 refl refl w.1) (Takes-nothing notes.bytes),
    ))
    (λ _ _. read) tt keeps

module _ (words : WriteWords) (input input_then : SeenStream) (files : List SeenFile) (made made_then : SeenStream) (grown : SeenFile) (out notes notes_then : SeenStream)
    (keeps : Keeps (write_meaning words) (seen input files made grown out notes) (seen input_then files made_then grown out notes_then)) where
  abbrev Before : Seen
  Before = seen input files made grown out notes

  abbrev After : Seen
  After = seen input_then files made_then grown out notes_then

  -- the run ended so
  abbrev Ended : Status → Type 0
  Ended = Runs (write_meaning words) Before After

  -- a stop followed some records
  stopped : (count : ℕ) (s : Stop) (ended : Status)
      → SaysAtEnd ended (stop_status (Some s)) notes notes_then (stop_text count (Some s))
      → IsWhole (stop_status (Some s)) → stop_status (Some s) ≢ status.Ok
      → HasCause (stop_status (Some s)) (write_meaning words) Before After
      → ((bytes : List ℕ) → input.bytes ≡ Some bytes
      → ((taken_from bytes words.hex (2 ^ 40)).stop ≡ Some s)
      × (stop_text (length (taken_from bytes words.hex (2 ^ 40)).records) (Some s) ≡ stop_text count (Some s))
      × Takes made.bytes made_then.bytes (made_of words bytes))
      → Ended ended
  stopped count s ended says whole not_ok cause known =
      runs-said (write_meaning words) Before After notes ended (stop_status (Some s)) [] (stop_text count (Some s))
      (Takes-nothing notes.bytes) (omega arith) says whole not_ok
      (OfSizes-unread (write_meaning words) Before After (λ sizes. (write_meaning words).may_end sizes (stop_status (Some s)) (stop_text count (Some s))) refl refl (count, Some s, refl, refl))
      (λ r is. let bytes : List ℕ = r.input in let k = known bytes (is.input refl) in (
        write_answer words bytes,
        refl,
        all-made words bytes made.bytes made_then.bytes out.bytes notes.bytes (stop_status (Some s)) (stop_text count (Some s)) (Some s) k.0 refl k.1 k.2,
      ))
      cause keeps

  pub write-too_long : (count : ℕ) (ended : Status) → Wrote words input made made_then (Err (end.TooLong count))
      → SaysAtEnd ended status.Limit notes notes_then (line (codes "limit record " ++ decimal count))
      → Ended ended
  write-too_long count ended wrote says =
      stopped count stop.TooLong ended says tt (λ e. cc e) tt
      (λ bytes told. let w = wrote.told bytes told in (w.0.0, ap (λ (n : ℕ). stop_text n (Some stop.TooLong)) (sym w.0.1), w.1))

  pub write-input_too_long : (ended : Status) → Wrote words input made made_then (Err end.InputTooLong)
      → SaysAtEnd ended status.Limit notes notes_then (codes "limit input\n")
      → Ended ended
  write-input_too_long ended wrote says =
      stopped 0 stop.InputTooLong ended says tt (λ e. cc e) tt
      (λ bytes told. let w = wrote.told bytes told in (w.0, refl, w.1))

  pub write-bad_line : (count : ℕ) (ended : Status) → Wrote words input made made_then (Err (end.BadLine count))
      → SaysAtEnd ended status.BadLine notes notes_then (line (codes "bad line " ++ decimal count))
      → Ended ended
  write-bad_line count ended wrote says =
      stopped count stop.BadLine ended says tt (λ e. cc e) tt
      (λ bytes told. let w = wrote.told bytes told in (w.0.0, ap (λ (n : ℕ). stop_text n (Some stop.BadLine)) (sym w.0.1), w.1))

  -- so many bytes of the file
  abbrev front : List ℕ → ℕ → List Put
  front bytes count = puts_to Made (take count (made_of words bytes))

  -- what the answer puts goes on behind them
  abbrev note_behind : List ℕ → List Put
  note_behind bytes = puts_to Notes (stop_text (length (taken_from bytes words.hex (2 ^ 40)).records) (taken_from bytes words.hex (2 ^ 40)).stop)

  goes_on : (bytes : List ℕ) (count : ℕ) → (rest : List Put) × ((write_answer words bytes).puts ≡ front bytes count ++ rest)
  goes_on bytes count = puts_to-front Made (made_of words bytes) count (note_behind bytes)

  -- a fault or want of memory cut the work off
  cut_off : (ended : Status) → IsCutOff ended → HasCause ended (write_meaning words) Before After
      → ((bytes : List ℕ) → input.bytes ≡ Some bytes
      → (count : ℕ) × Breaks ended (front bytes count) (write_answer words bytes).puts
      × Takes made.bytes made_then.bytes (take count (made_of words bytes)))
      → TakesThen notes notes_then [] (fault_text ended)
      → Ended ended
  cut_off ended cut cause took said =
      runs-cut_off (write_meaning words) Before After ended [] cut
      (λ _. OfSizes-unread (write_meaning words) Before After (write_meaning words).may_work refl refl refl) refl said
      (λ r is.
      let bytes : List ℕ = r.input in
      let answer : Answer = write_answer words bytes in
      let file : List ℕ = made_of words bytes in
      let (count, breaks, put) = took bytes (is.input refl) in (
        answer,
        refl,
        was-cut_off ended Before After notes answer (front bytes count) breaks
            (PutsLines-none (front bytes count) answer.puts (bytes_to-other Notes Made (take count file) refl))
            (GoOut-made made.bytes made_then.bytes out.bytes notes.bytes (take count file) put)
            (omega arith) said,
      ))
      (λ _ _ r is.
      let bytes : List ℕ = r.input in
      let (count, breaks, put) = took bytes (is.input refl) in
      went-so_far (write_meaning words) ended Before After notes r (front bytes count) (goes_on bytes count)
      (GoOut-made made.bytes made_then.bytes out.bytes notes.bytes (take count (made_of words bytes)) put) (omega arith) said)
      cause keeps

  -- a front of the file went out
  some_front : (bytes : List ℕ) → TakesFront made.bytes made_then.bytes (made_of words bytes)
      → (count : ℕ) × ((rest : List Put) × ((write_answer words bytes).puts ≡ front bytes count ++ rest))
      × Takes made.bytes made_then.bytes (take count (made_of words bytes))
  some_front bytes took =
      let count = TakesFront-count made.bytes made_then.bytes (made_of words bytes) took in
      (count.0, goes_on bytes count.0, count.1)

  -- and not all
  short_front : (bytes : List ℕ) → TakesShort made.bytes made_then.bytes (made_of words bytes)
      → (count : ℕ) × BreaksOff Made (front bytes count) (write_answer words bytes).puts
      × Takes made.bytes made_then.bytes (take count (made_of words bytes))
  short_front bytes (count, less, took) = (
    count,
    BreaksOff-longer Made (front bytes count) (puts_to Made (made_of words bytes)) (note_behind bytes) (BreaksOff-last Made [] (made_of words bytes) count less),
    took,
  )

  pub write-input : (ended : Status) → ended ≡ status.Input → Wrote words input made made_then (Err end.Input) → Rose input.faults input_then.faults
      → TakesThen notes notes_then [] (fault_text status.Input)
      → Ended ended
  write-input ended is wrote rose said =
      subst Ended (sym is) (cut_off status.Input tt (refl, rose) (λ bytes told. some_front bytes (wrote.told bytes told).1) said)

  pub write-made : (ended : Status) → ended ≡ status.Made → Wrote words input made made_then (Err end.Made) → Rose made.faults made_then.faults
      → TakesThen notes notes_then [] (fault_text status.Made)
      → Ended ended
  write-made ended is wrote rose said =
      subst Ended (sym is) (cut_off status.Made tt (refl, rose) (λ bytes told. short_front bytes (wrote.told bytes told).1) said)

  pub write-memory : (ended : Status) → ended ≡ status.Memory → Wrote words input made made_then (Err end.Memory)
      → TakesThen notes notes_then [] (fault_text status.Memory)
      → Ended ended
  write-memory ended is wrote said =
      subst Ended (sym is) (cut_off status.Memory tt refl (λ bytes told. some_front bytes (wrote.told bytes told).1) said)
