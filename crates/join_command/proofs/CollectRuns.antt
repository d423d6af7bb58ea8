-- How a run of `collect` ends, by how its work ended.
use Rattle.std.proofs.Common.{◌≡◌, ◌≢◌, ℕ, ◌≤◌, Option, Some, Result, Ok, Err, List, [], ◌++◌, length, map, take, refl, inl, inr, IfSome}
use Rattle.std.specs.List.{AllByRecursion}
use Rattle.record_values.specs.Bytes.{AreBytes}
use Rattle.record_io.specs.Outside.{Rose, Takes}
use Rattle.record_io.specs.Puts.{Made, Out, Notes, taken_by, puts_to}
use Rattle.record_io.specs.Seen.{SeenStream, SeenFile, seen_file}
use Rattle.record_io.proofs.Puts.{TakesFront-count, BreaksOff-last, BreaksOff-longer, bytes_to-other, puts_to-front}
use Rattle.record_collect.specs.Gatherings.{AreGatheredOf, GatheredValue}
use Rattle.command_frame.specs.declared.ending.Ending.{Ending}
use Rattle.command_frame.specs.declared.status.Status.{Status}
use Rattle.command_frame.specs.Answers.{Answer, noted}
use Rattle.command_frame.specs.AskedFiles.{AsksFiles}
use Rattle.command_frame.specs.Endings.{ArePast, SaysEnd}
use Rattle.command_frame.specs.FileAnswers.{limit_text}
use Rattle.command_frame.specs.Runs.{Runs}
use Rattle.command_frame.specs.RunObjects.{seen}
use Rattle.command_frame.specs.RunLeaves.{Breaks}
use Rattle.command_frame.proofs.FileEnds.{EndsWhole}
use Rattle.command_frame.proofs.AskedFiles.{runs-asked}
use Rattle.command_frame.proofs.ManyFilesEnds.{MayEndBy, EndsBySizes, ReadsFiles, WentAtEnd, WentButNotes, WentToCut, reads_files, went_none, went_noted, went_whole}
use Rattle.command_frame.proofs.TwoStreams.{GoOut-both, GoOut-first, GoOut-neither, bytes_to-neither}
use Rattle.show_command.specs.Readings.{refused_file_text}
use Rattle.join_command.specs.CollectCommand.{IsCollectAnswer, IsCollectedSoFar, collect_meaning, collected_answer, collected_file, collected_lines, too_much_text}
use Rattle.join_command.specs.CollectingEnds.{AreEachInReach, TakeCollected, collecting_ends, uncollected_status, uncollected_text}
use Rattle.join_command.specs.declared.stops.Uncollected.{Uncollected}
use Rattle.join_command.proofs.CollectAnswers.{answer_in_reach, collect_exists, is_whole}
use Rattle.record_io.specs.declared.cut.Cut.TheVariants as cut
use Rattle.command_frame.specs.declared.ending.Ending.TheVariants as end
use Rattle.command_frame.specs.declared.status.Status.TheVariants as status
use Rattle.join_command.specs.declared.stops.Uncollected.TheVariants as uncollected

-- so `collect` reads its files, and so it may end by their sizes
reads-collect : ReadsFiles collect_meaning (λ all. Unit {0}) IsCollectAnswer IsCollectedSoFar
reads-collect =
    reads_files collect_meaning.uses (λ all. Unit {0}) IsCollectAnswer IsCollectedSoFar AreEachInReach (λ sizes before after. Unit {0}) collect_meaning.may_end
    refl refl refl

stop_collect : (w : Uncollected) (sizes : List ℕ) → AreEachInReach sizes → collect_meaning.may_end sizes (uncollected_status w) (uncollected_text w)
stop_collect (uncollected.Refused index fault) sizes within = inl (within, inr (inl (index, fault, refl, refl)))
stop_collect uncollected.TooMuch sizes within = inl (within, inr (inr (refl, refl)))

stop_whole : (w : Uncollected) → EndsWhole collect_meaning (uncollected_status w)
stop_whole (uncollected.Refused index fault) = (tt, λ before after. tt)
stop_whole uncollected.TooMuch = (tt, λ before after. tt)

stop_other : (w : Uncollected) → uncollected_status w ≢ status.Ok
stop_other (uncollected.Refused index fault) is = cc is
stop_other uncollected.TooMuch is = cc is

ends-collect : {X : Type 0} → EndsBySizes {X = X} collect_meaning collecting_ends (ArePast AreEachInReach) (λ _. AreEachInReach)
ends-collect = record {
  done = λ x. refl;
  may_work = λ sizes within. inl (within, inl (refl, refl));
  too_long = λ sizes past. inr (past, refl, refl);
  stop = stop_collect;
  whole = stop_whole;
  other = stop_other;
}

module _ (all : List (List ℕ)) (made made_then out out_then notes : Option (List ℕ)) where
  -- nothing went out
  nothing_went : (ended : Status) (answer : Answer) → IsCollectAnswer all answer → Breaks ended [] answer.puts → made_then ≡ made → out_then ≡ out
      → WentToCut (IsCollectAnswer all) (IsCollectedSoFar all) ended (taken_by made out notes) (taken_by made_then out_then notes)
  nothing_went ended answer is breaks same unprinted =
      went_none (IsCollectAnswer all) (IsCollectedSoFar all) ended answer (taken_by made out notes) (taken_by made_then out_then notes) is breaks (inl refl)
      (GoOut-neither made made_then out out_then notes same unprinted)

  -- the line of what they are not collected past
  noted_went : (ended : Status) (text : List ℕ) → IsCollectAnswer all (noted ended text) → made_then ≡ made → out_then ≡ out
      → WentButNotes (IsCollectAnswer all) ended (taken_by made out notes) (taken_by made_then out_then notes) text
  noted_went ended text is same unprinted =
      went_noted (IsCollectAnswer all) ended text (taken_by made out notes) (taken_by made_then out_then notes) is
      (GoOut-neither made made_then out out_then notes same unprinted)

  -- a front of the file was made
  front_went : (ended : Status) (value : GatheredValue) → AreEachInReach (map length all) → AreGatheredOf all value
      → (count : ℕ) → Breaks ended (puts_to Made (take count (collected_file value.records))) (collected_answer value).puts
      → Takes made made_then (take count (collected_file value.records)) → out_then ≡ out
      → WentToCut (IsCollectAnswer all) (IsCollectedSoFar all) ended (taken_by made out notes) (taken_by made_then out_then notes)
  front_went ended value reach gathered count breaks took unprinted = record {
    answer = collected_answer value;
    is = is_whole all value reach gathered;
    part = puts_to Made (take count (collected_file value.records));
    breaks = breaks;
    quiet = bytes_to-other Notes Made (take count (collected_file value.records)) refl;
    went = GoOut-first made made_then out out_then notes (take count (collected_file value.records)) took unprinted;
    so_far = λ short. inr (value, gathered, count, refl);
  }

  went-collect : {X : Type 0} (result : Result X (Ending Uncollected)) → AllByRecursion AreBytes all
      → MayEndBy collect_meaning (ArePast AreEachInReach) (λ _. AreEachInReach) result (map length all) → TakeCollected result all made made_then out out_then
      → WentAtEnd collecting_ends (IsCollectAnswer all) (IsCollectedSoFar all) result (taken_by made out notes) (taken_by made_then out_then notes)
  went-collect (Ok x) bytes reach (value, gathered, (whole, printed)) =
      went_whole (IsCollectAnswer all) (collected_answer value) (taken_by made out notes) (taken_by made_then out_then notes)
      (is_whole all value reach gathered)
      (GoOut-both made made_then out out_then notes (collected_file value.records) (collected_lines value) whole printed)
  went-collect (Err end.Limit) bytes long (same, unprinted) = noted_went status.Limit limit_text (inl (long, refl)) same unprinted
  went-collect (Err (end.At (uncollected.Refused index fault))) bytes reach (first, same, unprinted) =
      noted_went status.Refused (refused_file_text index fault)
      (inr (reach, inr (inl (record { index = index; fault = fault; first = first; is = refl })))) same unprinted
  went-collect (Err (end.At uncollected.TooMuch)) bytes reach (much, same, unprinted) =
      noted_went status.Limit too_much_text (inr (reach, inr (inr (much, refl)))) same unprinted
  went-collect (Err (end.Cut cut.File)) bytes sizes (same, unprinted) =
      let found = collect_exists all bytes in nothing_went status.File found.0 found.1 (found.0.puts, refl) same unprinted
  went-collect (Err (end.Cut cut.Made)) bytes (used, reach) (value, gathered, ((count, less, took), unprinted)) =
      let file : List ℕ = collected_file value.records in
      front_went status.Made value reach gathered count
      (BreaksOff-longer Made (puts_to Made (take count file)) (puts_to Made file) (puts_to Out (collected_lines value)) (BreaksOff-last Made [] file count less))
      took unprinted
  went-collect (Err (end.Cut cut.Memory)) bytes (used, reach) (inl (same, unprinted)) =
      let found = answer_in_reach all bytes reach in nothing_went status.Memory found.0 found.1 (found.0.puts, refl) same unprinted
  went-collect (Err (end.Cut cut.Memory)) bytes (used, reach) (inr (value, gathered, (front, unprinted))) =
      let file : List ℕ = collected_file value.records in
      let took = TakesFront-count made made_then file front in
      front_went status.Memory value reach gathered took.0 (puts_to-front Made file took.0 (puts_to Out (collected_lines value))) took.1 unprinted
  went-collect (Err (end.Cut cut.Out)) bytes (used, reach) (value, gathered, (whole, (count, less, printed))) =
      let file : List ℕ = collected_file value.records in
      let last : List ℕ = take count (collected_lines value) in
      record {
        answer = collected_answer value;
        is = is_whole all value reach gathered;
        part = puts_to Made file ++ puts_to Out last;
        breaks = BreaksOff-last Out (puts_to Made file) (collected_lines value) count less;
        quiet = bytes_to-neither Notes Made Out file last refl refl;
        went = GoOut-both made made_then out out_then notes file last whole printed;
        so_far = λ short. absurd short;
      }
  went-collect (Err (end.Cut cut.Input)) bytes (used, reach) took = absurd (cc used)
  went-collect (Err (end.Cut cut.Grown)) bytes (used, reach) took = absurd (cc used)
  went-collect (Err (end.Cut cut.Notes)) bytes ((text, says, none), reach) took = absurd (none says)

pub runs-collected : {S L X : Type 0} (bytes : S → Option (List ℕ)) (told : S → Option ℕ) (handed : S → ℕ) (name : S → L) (faults : S → ℕ) (files files_then : List S)
    (input made made_then : SeenStream) (grown : SeenFile) (out out_then notes notes_then : SeenStream)
    (result : Result X (Ending Uncollected)) (ended : Status)
    → ((file : S) → IfSome (bytes file) (λ bs. IfSome (told file) (λ size. size ≡ length bs)))
    → AsksFiles bytes told handed name faults collect_meaning (ArePast AreEachInReach) (λ _. AreEachInReach) result files files_then
    → made.faults ≤ made_then.faults → out.faults ≤ out_then.faults → notes.faults ≤ notes_then.faults
    → ((all : List (List ℕ)) → map bytes files ≡ map Some all → TakeCollected result all made.bytes made_then.bytes out.bytes out_then.bytes)
    → SaysEnd collecting_ends result ended notes notes_then
    → (result ≡ Err (end.Cut cut.Made) → Rose made.faults made_then.faults)
    → (result ≡ Err (end.Cut cut.Out) → Rose out.faults out_then.faults)
    → Runs collect_meaning
    (seen input (map (seen_file bytes told handed faults) files) made grown out notes)
    (seen input (map (seen_file bytes told handed faults) files_then) made_then grown out_then notes_then) ended
runs-collected bytes told handed name faults files files_then input made made_then grown out out_then notes notes_then result ended sized asks m o n took says made_rose out_rose =
    runs-asked bytes told handed name faults files files_then collect_meaning (λ all. Unit {0}) IsCollectAnswer IsCollectedSoFar reads-collect
    collecting_ends (ArePast AreEachInReach) (λ _. AreEachInReach) ends-collect input made made_then grown out out_then notes notes_then result ended
    sized asks m o n
    (λ all is are supposed within.
    went-collect all made.bytes made_then.bytes out.bytes out_then.bytes notes.bytes result are within (took all is))
    says made_rose out_rose
