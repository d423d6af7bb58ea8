-- How a run of `join` ends, by how its work ended.
use Rattle.std.proofs.Common.{◌≡◌, ◌≢◌, ◌∙◌, ℕ, ◌<◌, ◌≤◌, true, Option, Some, Result, Ok, Err, List, [], ◌++◌, length, map, take, refl, sym, subst, inl, inr, IfSome}
use Rattle.std.specs.List.{AllByRecursion}
use Rattle.record_values.specs.Bytes.{AreBytes}
use Rattle.record_io.specs.Outside.{Rose, Takes, TakesShort}
use Rattle.record_io.specs.Calls.{TakesFront}
use Rattle.record_io.specs.Puts.{Put, Made, Out, Notes, taken_by, BreaksOff, puts_to}
use Rattle.record_io.specs.Seen.{SeenStream, SeenFile, seen_file}
use Rattle.record_io.proofs.Puts.{TakesFront-count, BreaksOff-last, BreaksOff-longer, bytes_to-other, puts_to-front}
use Rattle.meta_chunk.specs.Files.{totals_of}
use Rattle.record_join.specs.Joined.{joined}
use Rattle.record_join.specs.Joins.{IsPutOfJoined}
use Rattle.chunk_reader.proofs.ManyFiles.{files_judged}
use Rattle.record_join.proofs.JoinedFiles.{joined-no_fault}
use Rattle.command_frame.specs.declared.ending.Ending.{Ending}
use Rattle.command_frame.specs.declared.status.Status.{Status}
use Rattle.command_frame.specs.Answers.{Answer}
use Rattle.command_frame.specs.AskedFiles.{AsksFiles}
use Rattle.command_frame.specs.Endings.{ArePast, SaysEnd}
use Rattle.command_frame.specs.FileAnswers.{limit_text, report}
use Rattle.command_frame.specs.Runs.{Runs}
use Rattle.command_frame.specs.RunObjects.{seen}
use Rattle.command_frame.specs.RunLeaves.{Breaks}
use Rattle.command_frame.proofs.AskedFiles.{runs-asked}
use Rattle.command_frame.proofs.ManyFilesEnds.{MayEndBy, EndsBySizes, ReadsFiles, WentAtEnd, WentToCut, reads_files, some_told, went_none, went_noted, went_whole}
use Rattle.command_frame.proofs.TwoStreams.{GoOut-both, GoOut-first, GoOut-neither, bytes_to-neither}
use Rattle.show_command.specs.Readings.{refused_file_text}
use Rattle.join_command.specs.JoinCommand.{AreTogetherInReach, IsJoinAnswer, AreToJoin, IsJoinedSoFar, MayJoin, join_meaning}
use Rattle.join_command.specs.JoiningEnds.{TakeJoined, joining_ends}
use Rattle.join_command.specs.declared.refusals.Refusal.{Refusal}
use Rattle.join_command.proofs.JoinAnswers.{whole_answer, refused_answer, join_exists}
use Rattle.record_io.specs.declared.cut.Cut.TheVariants as cut
use Rattle.command_frame.specs.declared.ending.Ending.TheVariants as end
use Rattle.command_frame.specs.declared.status.Status.TheVariants as status

-- nothing was put yet
nothing_yet : (all : List (List ℕ)) → AllByRecursion AreBytes all → IsJoinedSoFar all []
nothing_yet all bytes = elim (files_judged true all bytes) [
  | inl none ↦ (all, inl (none, refl), 0, refl)
  | inr (index, fault, first) ↦ (take index all, inr (index, fault, first, refl), 0, refl)
]

-- of the files that are joined so many bytes were put, of which Within holds
pub record PutFront (Within : ℕ → List ℕ → Type 0) (made made_then : Option (List ℕ)) (all : List (List ℕ)) : Type 0 where
  pub front : List (List ℕ)
  pub are : AreToJoin all front
  pub answer : Answer
  pub is : IsJoinAnswer all answer
  pub rest : List Put
  pub parts : answer.puts ≡ puts_to Made (joined front) ++ rest
  pub count : ℕ
  pub within : Within count (joined front)
  pub took : Takes made made_then (take count (joined front))

front_put : (P : (before after : Option (List ℕ)) → List ℕ → Type 0) (Within : ℕ → List ℕ → Type 0) (made made_then : Option (List ℕ))
    → ((bytes : List ℕ) → P made made_then bytes → (count : ℕ) × Within count bytes × Takes made made_then (take count bytes))
    → (all : List (List ℕ)) → AllByRecursion AreBytes all → all ≢ [] → AreTogetherInReach (map length all)
    → IsPutOfJoined P all made made_then → PutFront Within made made_then all
front_put P Within made made_then counted all bytes some reach front = elim (files_judged true all bytes) [
  | inl none ↦
      let whole = joined-no_fault all some none in
      let count = counted (joined all) (front.of_all none) in
      record {
        front = all;
        are = inl (none, refl);
        answer = whole_answer all whole.0;
        is = inr (reach, inl (record { without_fault = none; chunks = whole.0; well_formed = whole.1; is = refl }));
        rest = puts_to Out (report (totals_of whole.0));
        parts = refl;
        count = count.0;
        within = count.1;
        took = count.2;
      }
  | inr (index, fault, first) ↦
      let count = counted (joined (take index all)) (front.of_those_before index fault first) in
      record {
        front = take index all;
        are = inr (index, fault, first, refl);
        answer = refused_answer all index fault;
        is = inr (reach, inr (record { index = index; fault = fault; first = first; is = refl }));
        rest = puts_to Notes (refused_file_text index fault);
        parts = refl;
        count = count.0;
        within = count.1;
        took = count.2;
      }
]

-- so `join` reads its files, and so it may end by their sizes
reads-join : ReadsFiles join_meaning (λ all. Unit {0}) IsJoinAnswer IsJoinedSoFar
reads-join =
    reads_files join_meaning.uses (λ all. Unit {0}) IsJoinAnswer IsJoinedSoFar AreTogetherInReach MayJoin join_meaning.may_end refl refl refl

ends-join : {X : Type 0} → EndsBySizes {X = X} join_meaning joining_ends (ArePast AreTogetherInReach) (λ _. AreTogetherInReach)
ends-join = record {
  done = λ x. refl;
  may_work = λ sizes within. inl (within, inl (refl, refl));
  too_long = λ sizes past. inr (past, refl, refl);
  stop = λ refusal sizes within. inl (within, inr (refusal.index, refusal.fault, refl, refl));
  whole = λ refusal. (tt, λ before after. tt);
  other = λ refusal is. cc is;
}

module _ (all : List (List ℕ)) (made made_then out out_then notes : Option (List ℕ)) where
  -- a front of the files went out
  front_went : (Within : ℕ → List ℕ → Type 0) (ended : Status) (h : PutFront Within made made_then all)
      → Breaks ended (puts_to Made (take h.count (joined h.front))) h.answer.puts
      → out_then ≡ out → WentToCut (IsJoinAnswer all) (IsJoinedSoFar all) ended (taken_by made out notes) (taken_by made_then out_then notes)
  front_went Within ended h breaks unprinted = record {
    answer = h.answer;
    is = h.is;
    part = puts_to Made (take h.count (joined h.front));
    breaks = breaks;
    quiet = bytes_to-other Notes Made (take h.count (joined h.front)) refl;
    went = GoOut-first made made_then out out_then notes (take h.count (joined h.front)) h.took unprinted;
    so_far = λ short. (h.front, h.are, h.count, refl);
  }

  went-join : {X : Type 0} (result : Result X (Ending Refusal)) → AllByRecursion AreBytes all → all ≢ []
      → MayEndBy join_meaning (ArePast AreTogetherInReach) (λ _. AreTogetherInReach) result (map length all) → TakeJoined result all made made_then out out_then
      → WentAtEnd joining_ends (IsJoinAnswer all) (IsJoinedSoFar all) result (taken_by made out notes) (taken_by made_then out_then notes)
  went-join (Ok x) bytes some reach (none, chunks, well_formed, whole, printed) =
      went_whole (IsJoinAnswer all) (whole_answer all chunks) (taken_by made out notes) (taken_by made_then out_then notes)
      (inr (reach, inl (record { without_fault = none; chunks = chunks; well_formed = well_formed; is = refl })))
      (GoOut-both made made_then out out_then notes (joined all) (report (totals_of chunks)) whole printed)
  went-join (Err end.Limit) bytes some long (same, unprinted) =
      went_noted (IsJoinAnswer all) status.Limit limit_text (taken_by made out notes) (taken_by made_then out_then notes) (inl (long, refl))
      (GoOut-neither made made_then out out_then notes same unprinted)
  went-join (Err (end.At refusal)) bytes some reach (up_to, unprinted) = (
    refused_answer all refusal.index refusal.fault,
    inr (reach, inr (record { index = refusal.index; fault = refusal.fault; first = up_to.first; is = refl })),
    record {
      same_status = refl;
      puts = puts_to Made (joined (take refusal.index all));
      whole = refl;
      went = GoOut-first made made_then out out_then notes (joined (take refusal.index all)) up_to.took unprinted;
    },
  )
  went-join (Err (end.Cut cut.File)) bytes some sizes (inl same, unprinted) =
      let found = join_exists all some bytes in
      went_none (IsJoinAnswer all) (IsJoinedSoFar all) status.File found.0 (taken_by made out notes) (taken_by made_then out_then notes) found.1
      (found.0.puts, refl) (nothing_yet all bytes) (GoOut-neither made made_then out out_then notes same unprinted)
  went-join (Err (end.Cut cut.File)) bytes some sizes (inr (reach, front), unprinted) =
      let Within : ℕ → List ℕ → Type 0 = λ count taken. Unit {0} in
      let h = front_put TakesFront Within made made_then
      (λ taken took. let count = TakesFront-count made made_then taken took in (count.0, tt, count.1)) all bytes some reach front in
      let behind = puts_to-front Made (joined h.front) h.count h.rest in
      front_went Within status.File h (behind.0, h.parts ∙ behind.1) unprinted
  went-join (Err (end.Cut cut.Made)) bytes some (used, reach) (short, unprinted) =
      let Within : ℕ → List ℕ → Type 0 = λ count taken. count < length taken in
      let h = front_put TakesShort Within made made_then (λ taken took. took) all bytes some reach short in
      let part : List Put = puts_to Made (take h.count (joined h.front)) in
      front_went Within status.Made h
      (subst (λ (ps : List Put). BreaksOff Made part ps) (sym h.parts)
      (BreaksOff-longer Made part (puts_to Made (joined h.front)) h.rest (BreaksOff-last Made [] (joined h.front) h.count h.within)))
      unprinted
  went-join (Err (end.Cut cut.Out)) bytes some (used, reach) (none, chunks, well_formed, whole, printed) =
      let last : List ℕ = take printed.0 (report (totals_of chunks)) in
      record {
        answer = whole_answer all chunks;
        is = inr (reach, inl (record { without_fault = none; chunks = chunks; well_formed = well_formed; is = refl }));
        part = puts_to Made (joined all) ++ puts_to Out last;
        breaks = BreaksOff-last Out (puts_to Made (joined all)) (report (totals_of chunks)) printed.0 printed.1;
        quiet = bytes_to-neither Notes Made Out (joined all) last refl refl;
        went = GoOut-both made made_then out out_then notes (joined all) last whole printed.2;
        so_far = λ short. absurd short;
      }
  went-join (Err (end.Cut cut.Input)) bytes some (used, reach) took = absurd (cc used)
  went-join (Err (end.Cut cut.Grown)) bytes some (used, reach) took = absurd (cc used)
  went-join (Err (end.Cut cut.Notes)) bytes some ((text, says, none), reach) took = absurd (none says)
  went-join (Err (end.Cut cut.Memory)) bytes some (used, reach) took = absurd (cc used)

pub runs-joined : {S L X : Type 0} (bytes : S → Option (List ℕ)) (told : S → Option ℕ) (handed : S → ℕ) (name : S → L) (faults : S → ℕ) (files files_then : List S)
    (input made made_then : SeenStream) (grown : SeenFile) (out out_then notes notes_then : SeenStream)
    (result : Result X (Ending Refusal)) (ended : Status) → 0 < length files
    → ((file : S) → IfSome (bytes file) (λ bs. IfSome (told file) (λ size. size ≡ length bs)))
    → AsksFiles bytes told handed name faults join_meaning (ArePast AreTogetherInReach) (λ _. AreTogetherInReach) result files files_then
    → made.faults ≤ made_then.faults → out.faults ≤ out_then.faults → notes.faults ≤ notes_then.faults
    → ((all : List (List ℕ)) → map bytes files ≡ map Some all → TakeJoined result all made.bytes made_then.bytes out.bytes out_then.bytes)
    → SaysEnd joining_ends result ended notes notes_then
    → (result ≡ Err (end.Cut cut.Made) → Rose made.faults made_then.faults)
    → (result ≡ Err (end.Cut cut.Out) → Rose out.faults out_then.faults)
    → Runs join_meaning
    (seen input (map (seen_file bytes told handed faults) files) made grown out notes)
    (seen input (map (seen_file bytes told handed faults) files_then) made_then grown out_then notes_then) ended
runs-joined bytes told handed name faults files files_then input made made_then grown out out_then notes notes_then result ended some sized asks m o n took says made_rose out_rose =
    runs-asked bytes told handed name faults files files_then join_meaning (λ all. Unit {0}) IsJoinAnswer IsJoinedSoFar reads-join
    joining_ends (ArePast AreTogetherInReach) (λ _. AreTogetherInReach) ends-join input made made_then grown out out_then notes notes_then result ended
    sized asks m o n
    (λ all is are supposed within.
    went-join all made.bytes made_then.bytes out.bytes out_then.bytes notes.bytes result are (some_told bytes files all some is) within (took all is))
    says made_rose out_rose
