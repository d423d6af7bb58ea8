-- How a run of `ranges` ends, by how its work ended.
use Rattle.std.proofs.Common.{◌≡◌, ◌≢◌, ℕ, ◌<◌, ◌≤◌, Option, Some, Result, Ok, Err, List, [], length, map, take, refl, subst, inl, inr, arith, IfSome}
use Rattle.std.specs.List.{AllByRecursion}
use Rattle.record_values.specs.Bytes.{AreBytes}
use Rattle.record_io.specs.Outside.{Rose}
use Rattle.record_io.specs.Puts.{Put, Out, Notes, taken_by, puts_to}
use Rattle.record_io.specs.Seen.{SeenStream, SeenFile, seen_file}
use Rattle.record_io.proofs.Puts.{GoOut-out, BreaksOff-last, bytes_to-other}
use Rattle.command_frame.specs.declared.ending.Ending.{Ending}
use Rattle.command_frame.specs.declared.status.Status.{Status}
use Rattle.command_frame.specs.Answers.{noted}
use Rattle.command_frame.specs.AskedFiles.{AsksFiles}
use Rattle.command_frame.specs.Endings.{ArePast, IsAllowedEndOfMany, SaysEnd}
use Rattle.command_frame.specs.FileAnswers.{AreWithin, limit_text}
use Rattle.command_frame.specs.Runs.{Runs}
use Rattle.command_frame.specs.RunObjects.{seen}
use Rattle.command_frame.specs.RunLeaves.{Breaks}
use Rattle.command_frame.proofs.AskedFiles.{runs-asked}
use Rattle.command_frame.proofs.FileEnds.{EndsWhole}
use Rattle.command_frame.proofs.ManyFilesEnds.{MayEndBy, EndsBySizes, ReadsFiles, WentAtEnd, WentButNotes, WentToCut, reads_files, some_told, went_none, went_noted, went_whole}
use Rattle.command_frame.proofs.TwoStreams.{GoOut-neither}
use Rattle.show_command.specs.Readings.{refused_text}
use Rattle.record_ranges.specs.RangesCommand.{AreOneFile, IsRangesAnswer, MayBeRead, MayEndRanges, differ_text, most_range_bytes, ranges_meaning}
use Rattle.record_ranges.specs.RangesEnds.{PrintsOnlyWhole, PrintsFile, StopsBy, range_ends, stop_status, stop_text}
use Rattle.record_ranges.specs.declared.range_ends.RangesStop.{RangesStop}
use Rattle.record_ranges.proofs.RangesAnswers.{first_of_all, printed, ranges_exists}
use Rattle.record_ranges.proofs.RangesStores.{of_one}
use Rattle.record_io.specs.declared.cut.Cut.TheVariants as cut
use Rattle.command_frame.specs.declared.ending.Ending.TheVariants as end
use Rattle.command_frame.specs.declared.status.Status.TheVariants as status
use Rattle.record_ranges.specs.declared.range_ends.RangesStop.TheVariants as stop

-- what is supposed of the stores of one file
abbrev TellOne : List (List ℕ) → Type 0
TellOne all = MayBeRead (map length all) → AreOneFile all

-- so `ranges` reads its file, and so it may end by the sizes that its stores told
reads-ranges : ReadsFiles ranges_meaning TellOne IsRangesAnswer (λ all part. part ≡ [])
reads-ranges =
    reads_files ranges_meaning.uses TellOne IsRangesAnswer (λ all part. part ≡ []) MayBeRead (λ sizes before after. Unit {0}) MayEndRanges refl refl refl

stop_ranges : (w : RangesStop) (sizes : List ℕ) → StopsBy w sizes → ranges_meaning.may_end sizes (stop_status w) (stop_text w)
stop_ranges (stop.Refused fault) sizes may = inl (inl (may, inr (fault, refl, refl)))
stop_ranges (stop.Differ first other) sizes (within, differ) = inr (within, first, other, differ, refl, refl)

stop_whole : (w : RangesStop) → EndsWhole ranges_meaning (stop_status w)
stop_whole (stop.Refused fault) = (tt, λ before after. tt)
stop_whole (stop.Differ first other) = (tt, λ before after. tt)

stop_other : (w : RangesStop) → stop_status w ≢ status.Ok
stop_other (stop.Refused fault) is = cc is
stop_other (stop.Differ first other) is = cc is

ends-ranges : {X : Type 0} → EndsBySizes {X = X} ranges_meaning range_ends (ArePast (AreWithin most_range_bytes)) StopsBy
ends-ranges = record {
  done = λ x. refl;
  may_work = λ sizes may. inl (inl (may, inl (refl, refl)));
  too_long = λ sizes past. inl (inr (past, refl, refl));
  stop = stop_ranges;
  whole = stop_whole;
  other = stop_other;
}

module _ (all : List (List ℕ)) (made out out_then notes : Option (List ℕ)) where
  -- nothing was printed
  nothing_went : (ended : Status) → ((puts : List Put) → Breaks ended [] puts) → AllByRecursion AreBytes all → all ≢ [] → TellOne all → out_then ≡ out
      → WentToCut (IsRangesAnswer all) (λ part. part ≡ []) ended (taken_by made out notes) (taken_by made out_then notes)
  nothing_went ended breaks bytes some supposed unprinted =
      let found = ranges_exists all some bytes supposed in
      went_none (IsRangesAnswer all) (λ part. part ≡ []) ended found.0 (taken_by made out notes) (taken_by made out_then notes) found.1
      (breaks found.0.puts) refl (GoOut-neither made made out out_then notes refl unprinted)

  -- the line that tells why the file isn't read
  noted_went : (ended : Status) (text : List ℕ) → IsRangesAnswer all (noted ended text) → out_then ≡ out
      → WentButNotes (IsRangesAnswer all) ended (taken_by made out notes) (taken_by made out_then notes) text
  noted_went ended text is unprinted =
      went_noted (IsRangesAnswer all) ended text (taken_by made out notes) (taken_by made out_then notes) is
      (GoOut-neither made made out out_then notes refl unprinted)

  -- P holds of the one file that all stores show
  abbrev OfFile : (List ℕ → Type 0) → Type 0
  OfFile P = (file : List ℕ) → AllByRecursion (λ other. other ≡ file) all → P file

  went-ranges : {X : Type 0} (result : Result X (Ending RangesStop)) → AllByRecursion AreBytes all → all ≢ [] → TellOne all
      → MayEndBy ranges_meaning (ArePast (AreWithin most_range_bytes)) StopsBy result (map length all)
      → OfFile (λ file. PrintsFile result file out out_then) → PrintsOnlyWhole result out out_then
      → WentAtEnd range_ends (IsRangesAnswer all) (λ part. part ≡ []) result (taken_by made out notes) (taken_by made out_then notes)
  went-ranges (Ok x) bytes some supposed may took none =
      let one = supposed may in
      let (text, is, lines) = took one.0 one.1 in
      went_whole (IsRangesAnswer all) (printed text) (taken_by made out notes) (taken_by made out_then notes)
      (inr (inr (may, one.0, first_of_all all one.0 some one.1, inl (text, is, refl))))
      (GoOut-out made out out_then notes text lines)
  went-ranges (Err end.Limit) bytes some supposed past took none = noted_went status.Limit limit_text (inl (past, refl)) none
  went-ranges (Err (end.At (stop.Refused fault))) bytes some supposed may took none =
      let one = supposed may in
      noted_went status.Refused (refused_text fault)
      (inr (inr (may, one.0, first_of_all all one.0 some one.1, inr (fault, took one.0 one.1, refl)))) none
  went-ranges (Err (end.At (stop.Differ first other))) bytes some supposed (within, differ) took none =
      noted_went status.Differ (differ_text first other) (inr (inl (within, first, other, differ, refl))) none
  went-ranges (Err (end.Cut cut.File)) bytes some supposed sizes took none =
      nothing_went status.File (λ puts. (puts, refl)) bytes some supposed none
  went-ranges (Err (end.Cut cut.Memory)) bytes some supposed (used, may) took none =
      nothing_went status.Memory (λ puts. (puts, refl)) bytes some supposed none
  went-ranges (Err (end.Cut cut.Out)) bytes some supposed (used, may) took none =
      let one = supposed may in
      let (text, is, short) = took one.0 one.1 in
      let part : List ℕ = take short.0 text in
      record {
        answer = printed text;
        is = inr (inr (may, one.0, first_of_all all one.0 some one.1, inl (text, is, refl)));
        part = puts_to Out part;
        breaks = BreaksOff-last Out [] text short.0 short.1;
        quiet = bytes_to-other Notes Out part refl;
        went = GoOut-out made out out_then notes part short.2;
        so_far = λ short. absurd short;
      }
  went-ranges (Err (end.Cut cut.Input)) bytes some supposed (used, may) took none = absurd (cc used)
  went-ranges (Err (end.Cut cut.Made)) bytes some supposed (used, may) took none = absurd (cc used)
  went-ranges (Err (end.Cut cut.Grown)) bytes some supposed (used, may) took none = absurd (cc used)
  went-ranges (Err (end.Cut cut.Notes)) bytes some supposed ((text, says, silent), may) took none = absurd (silent says)

pub runs-read : {S L X : Type 0} (bytes : S → Option (List ℕ)) (told : S → Option ℕ) (handed : S → ℕ) (name : S → L) (faults : S → ℕ) (files files_then : List S)
    (input made : SeenStream) (grown : SeenFile) (out out_then notes notes_then : SeenStream) (result : Result X (Ending RangesStop)) (ended : Status)
    → 0 < length files
    → ((file : S) → IfSome (bytes file) (λ bs. IfSome (told file) (λ size. size ≡ length bs)))
    → AsksFiles bytes told handed name faults ranges_meaning (ArePast (AreWithin most_range_bytes)) StopsBy result files files_then
    → out.faults ≤ out_then.faults → notes.faults ≤ notes_then.faults
    → ((file : List ℕ) → AllByRecursion (λ s. bytes s ≡ Some file) files → PrintsFile result file out.bytes out_then.bytes)
    → PrintsOnlyWhole result out.bytes out_then.bytes
    → SaysEnd range_ends result ended notes notes_then
    → (result ≡ Err (end.Cut cut.Out) → Rose out.faults out_then.faults)
    → Runs ranges_meaning
    (seen input (map (seen_file bytes told handed faults) files) made grown out notes)
    (seen input (map (seen_file bytes told handed faults) files_then) made grown out_then notes_then) ended
runs-read bytes told handed name faults files files_then input made grown out out_then notes notes_then result ended some sized asks o n took printed says out_rose =
    runs-asked bytes told handed name faults files files_then ranges_meaning TellOne IsRangesAnswer (λ all part. part ≡ []) reads-ranges
    range_ends (ArePast (AreWithin most_range_bytes)) StopsBy ends-ranges input made made grown out out_then notes notes_then result ended
    sized asks (omega arith) o n
    (λ all is are supposed within.
    went-ranges all made.bytes out.bytes out_then.bytes notes.bytes result are (some_told bytes files all some is) supposed within
    (λ file one. took file (of_one bytes files all file is one)) printed)
    says (λ failed. absurd (unmade result asks.allowed failed)) out_rose where
      unmade : {X : Type 0} (result : Result X (Ending RangesStop)) → IsAllowedEndOfMany ranges_meaning (ArePast (AreWithin most_range_bytes)) StopsBy result (map told files_then)
          → result ≡ Err (end.Cut cut.Made) → ⊥
      unmade {X} result allowed failed =
          cc (subst (λ (r : Result X (Ending RangesStop)). IsAllowedEndOfMany ranges_meaning (ArePast (AreWithin most_range_bytes)) StopsBy r (map told files_then)) failed allowed).0
