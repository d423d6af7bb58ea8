-- How a run of `sample` ends, by how its work ended.
use Rattle.std.proofs.Common.{◌≡◌, ℕ, ◌<◌, Option, Err, List, [], ◌++◌, take, arith, refl, sym, subst, length}
use Rattle.record_io.specs.declared.cut.Cut.{Cut}
use Rattle.record_io.specs.declared.cut.Cut.TheVariants as cut
use Rattle.record_io.specs.Outside.{Rose, Takes}
use Rattle.record_io.specs.Puts.{Put, Made, Out, Notes, taken_by, GoOut, BreaksOff, puts_to, bytes_to}
use Rattle.record_io.specs.Seen.{SeenStream, SeenFile}
use Rattle.record_io.proofs.Calls.{Takes-nothing}
use Rattle.record_io.proofs.Puts.{GoOut-append, GoOut-made, GoOut-out, TakesFront-count, BreaksOff-last, BreaksOff-longer, bytes_to-other, puts_to-front}
use Rattle.command_frame.specs.declared.status.Status.{Status}
use Rattle.command_frame.specs.Endings.{status_of}
use Rattle.command_frame.specs.Statuses.{fault_text}
use Rattle.command_frame.specs.Runs.{Runs}
use Rattle.command_frame.specs.RunObjects.{Seen, seen}
use Rattle.command_frame.specs.RunLeaves.{IsCutOff, IsReadingCutOff, Breaks, TakesThen}
use Rattle.command_frame.specs.RunCauses.{HasCause}
use Rattle.command_frame.proofs.RunEnds.{Keeps, OfSizes-unread, PutsLines-none, was-cut_off, went-so_far, runs-whole, runs-cut_off}
use Rattle.command_frame.proofs.TwoStreams.{bytes_to-neither}
use Rattle.sample_command.specs.declared.sample_words.SampleWords.{SampleWords}
use Rattle.sample_command.specs.SampleCommand.{sample_file, sample_summary, sample_answer, sample_meaning, IsSampledSoFar}
use Rattle.sample_command.specs.SampleEnds.{TakeSample}
use Rattle.command_frame.specs.declared.status.Status.TheVariants as status

module _ (words : SampleWords) (input : SeenStream) (files : List SeenFile) (made made_then : SeenStream) (grown : SeenFile) (out out_then notes notes_then : SeenStream)
    (keeps : Keeps (sample_meaning words) (seen input files made grown out notes) (seen input files made_then grown out_then notes_then)) where
  abbrev Before : Seen
  Before = seen input files made grown out notes

  abbrev After : Seen
  After = seen input files made_then grown out_then notes_then

  -- the run ended so
  abbrev Ended : Status → Type 0
  Ended = Runs (sample_meaning words) Before After

  -- this went out before notes were told of the end
  abbrev Went : List Put → Type 0
  Went part = GoOut (taken_by made.bytes out.bytes notes.bytes) (taken_by made_then.bytes out_then.bytes notes.bytes) part

  -- the file and its summary
  pub sample-whole : Takes made.bytes made_then.bytes (sample_file words) → Takes out.bytes out_then.bytes (sample_summary words)
      → notes_then ≡ notes → Ended status.Ok
  sample-whole whole printed kept =
      let went : Went (sample_answer words).puts =
      GoOut-append _ (taken_by made_then.bytes out.bytes notes.bytes) _ (puts_to Made (sample_file words)) (puts_to Out (sample_summary words))
      (GoOut-made made.bytes made_then.bytes out.bytes notes.bytes (sample_file words) whole)
      (GoOut-out made_then.bytes out.bytes out_then.bytes notes.bytes (sample_summary words) printed) in
      runs-whole (sample_meaning words) Before After status.Ok [] tt
      (OfSizes-unread (sample_meaning words) Before After (λ sizes. (sample_meaning words).may_end sizes status.Ok []) refl refl (refl, refl))
      (subst (λ (n : SeenStream). Takes notes.bytes n.bytes []) (sym kept) (Takes-nothing notes.bytes))
      (λ r is. (
        sample_answer words,
        refl,
        record {
          same_status = refl;
          went = subst (λ (n : SeenStream). GoOut (taken_by made.bytes out.bytes notes.bytes) (taken_by made_then.bytes out_then.bytes n.bytes) (sample_answer words).puts) (sym kept) went;
        },
      ))
      (λ _ none. absurd (cc none)) tt keeps

  -- a front of what is put went out, and then a fault or want of memory was told
  cut_off : (ended : Status) (part : List Put) → IsCutOff ended → Breaks ended part (sample_answer words).puts
      → (IsReadingCutOff ended → IsSampledSoFar words part) → HasCause ended (sample_meaning words) Before After
      → bytes_to Notes part ≡ [] → Went part → TakesThen notes notes_then [] (fault_text ended) → Ended ended
  cut_off ended part cut breaks so_far cause none went said =
      runs-cut_off (sample_meaning words) Before After ended [] cut
      (λ _. OfSizes-unread (sample_meaning words) Before After (sample_meaning words).may_work refl refl refl) refl said
      (λ r is. (
        sample_answer words,
        refl,
        was-cut_off ended Before After notes (sample_answer words) part breaks (PutsLines-none part (sample_answer words).puts none) went (omega arith) said,
      ))
      (λ short _ r is. went-so_far (sample_meaning words) ended Before After notes r part (so_far short) went (omega arith) said)
      cause keeps

  -- so many bytes of the file
  abbrev front : ℕ → List Put
  front count = puts_to Made (take count (sample_file words))

  -- the summary goes on behind them
  goes_on : (count : ℕ) → (rest : List Put) × ((sample_answer words).puts ≡ front count ++ rest)
  goes_on count = puts_to-front Made (sample_file words) count (puts_to Out (sample_summary words))

  broken : (count : ℕ) → count < length (sample_file words) → BreaksOff Made (front count) (sample_answer words).puts
  broken count less =
      BreaksOff-longer Made (front count) (puts_to Made (sample_file words)) (puts_to Out (sample_summary words))
      (BreaksOff-last Made [] (sample_file words) count less)

  -- they went out, and nothing was printed
  front-went : (count : ℕ) → Takes made.bytes made_then.bytes (take count (sample_file words)) → out_then.bytes ≡ out.bytes → Went (front count)
  front-went count took same =
      subst (λ (o : Option (List ℕ)). GoOut (taken_by made.bytes out.bytes notes.bytes) (taken_by made_then.bytes o notes.bytes) (front count)) (sym same)
      (GoOut-made made.bytes made_then.bytes out.bytes notes.bytes (take count (sample_file words)) took)

  -- the work was cut off
  pub sample-cut_off : (X : Type 0) (how : Cut) → TakeSample {X = X} (Err how) words made.bytes made_then.bytes out.bytes out_then.bytes
      → (how ≡ cut.Made → Rose made.faults made_then.faults) → (how ≡ cut.Out → Rose out.faults out_then.faults)
      → TakesThen notes notes_then [] (fault_text (status_of how)) → Ended (status_of how)
  sample-cut_off X cut.Made ((count, less, took), same) made_rose out_rose said =
      cut_off status.Made (front count) tt (broken count less) (λ short. absurd short) (refl, made_rose refl)
      (bytes_to-other Notes Made (take count (sample_file words)) refl) (front-went count took same) said
  sample-cut_off X cut.Memory took made_rose out_rose said =
      let count = TakesFront-count made.bytes made_then.bytes (sample_file words) took.0 in
      cut_off status.Memory (front count.0) tt (goes_on count.0) (λ short. (count.0, refl)) refl
      (bytes_to-other Notes Made (take count.0 (sample_file words)) refl) (front-went count.0 count.1 took.1) said
  sample-cut_off X cut.Out (whole, (count, less, took)) made_rose out_rose said =
      let printed : List ℕ = take count (sample_summary words) in
      cut_off status.Out (puts_to Made (sample_file words) ++ puts_to Out printed) tt
      (BreaksOff-last Out (puts_to Made (sample_file words)) (sample_summary words) count less)
      (λ short. absurd short) (refl, out_rose refl)
      (bytes_to-neither Notes Made Out (sample_file words) printed refl refl)
      (GoOut-append _ (taken_by made_then.bytes out.bytes notes.bytes) _ (puts_to Made (sample_file words)) (puts_to Out printed)
      (GoOut-made made.bytes made_then.bytes out.bytes notes.bytes (sample_file words) whole)
      (GoOut-out made_then.bytes out.bytes out_then.bytes notes.bytes printed took))
      said
  sample-cut_off X cut.Input took made_rose out_rose said = absurd took
  sample-cut_off X cut.File took made_rose out_rose said = absurd took
  sample-cut_off X cut.Grown took made_rose out_rose said = absurd took
  sample-cut_off X cut.Notes took made_rose out_rose said = absurd took
