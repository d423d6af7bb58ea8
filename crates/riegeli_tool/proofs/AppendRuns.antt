-- How a run of `append` ends, by how its work ended.
use Rattle.std.proofs.Common.{◌≡◌, ◌≢◌, ◌∙◌, ℕ, ◌<◌, ◌≤◌, ◌⊎◌, Bool, Option, Some, None, Result, Ok, Err, List, [], ◌∷◌, ◌++◌, length, take, refl, sym, ap, subst, inl, inr, arith}
use Rattle.std.specs.Option.{IfSome, IsSomeAnd}
use Rattle.std.specs.Result.{OnOk}
use Rattle.std.proofs.lemmas.List.{take_all}
use Rattle.std.proofs.lemmas.Option.{MatchOption-at_some}
use Rattle.record_io.specs.Outside.{Rose, Takes, TakesShort}
use Rattle.record_io.specs.Puts.{Put, Out, Notes, Taken, taken_by, GoOut, puts_to, bytes_to}
use Rattle.record_io.specs.Seen.{SeenStream, SeenFile}
use Rattle.record_io.proofs.Calls.{Takes-nothing}
use Rattle.record_io.proofs.Puts.{GoOut-out, GoOut-nothing, BreaksOff-last, bytes_to-other}
use Rattle.chunk_reader.specs.declared.reasons.Fault.{Fault}
use Rattle.record_writer.specs.Feeds.{Rest}
use Rattle.record_writer.specs.declared.feed.Stop.{Stop}
use Rattle.record_writer.specs.declared.options.WriteOptions.{WriteOptions}
use Rattle.record_append.specs.Appends.{HoldsAppended, GrowsFrom, HoldsGrownInPart}
use Rattle.record_append.specs.Grown.{IsRefusedToGrow, RefusesFor, bytes_at}
use Rattle.command_frame.specs.declared.ending.Ending.{Ending}
use Rattle.command_frame.specs.declared.status.Status.{Status}
use Rattle.command_frame.specs.Answers.{Answer, noted}
use Rattle.command_frame.specs.Endings.{SaysEnd, SaysAtEnd}
use Rattle.command_frame.specs.FileAnswers.{OfFile, IsInReach, IsTooLong, limit_text, most_file_bytes}
use Rattle.command_frame.specs.Meanings.{Read}
use Rattle.command_frame.specs.Statuses.{fault_text}
use Rattle.command_frame.specs.Runs.{Runs}
use Rattle.command_frame.specs.RunObjects.{Seen, seen}
use Rattle.command_frame.specs.RunReads.{IsReadBy, IfGrown, OfSizes}
use Rattle.command_frame.specs.RunAnswers.{IsWhole}
use Rattle.command_frame.specs.RunLeaves.{IsCutOff, IsReadingCutOff, TakesThen, Breaks}
use Rattle.command_frame.specs.RunCauses.{HasCause}
use Rattle.command_frame.specs.RunTakes.{TakesAtMost}
use Rattle.command_frame.proofs.GrownRuns.{GrowsFile, grown-size, keeps-cut_off, keeps-whole}
use Rattle.command_frame.proofs.RunEnds.{GaveButNotes, KeepsAtEnd, PutsLines-none, was-cut_off, went-so_far, ends-whole, ends-said, ends-cut_off}
use Rattle.show_command.specs.Readings.{refused_text}
use Rattle.write_command.specs.Input.{most_input_taken}
use Rattle.write_command.specs.WriteCommand.{stop_status, stop_text}
use Rattle.riegeli_tool.specs.AppendCommand.{IsAppended, IsLeft, KeepsByStatus, MayBeLeft, append_meaning, grown_answer, grown_puts, grown_text, lines_taken}
use Rattle.riegeli_tool.specs.AppendingEnds.{HasAppended, HasTold, IsSizedBy, IsStopped, IsTold, KeepsOldAtEnd, appending_ends}
use Rattle.riegeli_tool.specs.declared.append.Unappended.{Unappended}
use Rattle.riegeli_tool.specs.declared.append.Unappended.TheVariants.{Refused, Stopped}
use Rattle.riegeli_tool.specs.declared.append_words.AppendWords.{AppendWords}
use Rattle.riegeli_tool.proofs.AppendAnswers.{grown_exists}
use Rattle.record_writer.specs.declared.feed.Stop.TheVariants as stop
use Rattle.record_io.specs.declared.cut.Cut.TheVariants as cut
use Rattle.command_frame.specs.declared.ending.Ending.TheVariants as end
use Rattle.command_frame.specs.declared.status.Status.TheVariants as status

-- a command that grows one file
grows : (words : AppendWords) → GrowsFile (append_meaning words)
grows words = record { files = refl; grown = refl; may_work = λ sizes within. within; may_take_of = λ r handed. tt }

-- a file grown by records holds all of their bytes
part-of-whole : (options : WriteOptions) (may_cut : Bool) (file : List ℕ) (records : List (List ℕ)) (held : Option (List ℕ))
    → HoldsAppended options may_cut file records held → HoldsGrownInPart options may_cut file records held
part-of-whole options may_cut file records held (place, holds) =
    let all : List ℕ = bytes_at options place records in
    record {
      place = place;
      count = length all;
      taken = holds.taken;
      kept = holds.kept;
      front = omega arith;
      grown = holds.grown ∙ ap (λ (bs : List ℕ). Some (take place file ++ bs)) (sym (take_all (length all) all (omega arith)));
    }

-- what is left of a file that was grown, and may be of one that was in part
left-grown : (words : AppendWords) (rest : Rest) (file : List ℕ) (held : Option (List ℕ)) → length file ≤ most_file_bytes
    → HoldsAppended words.write.options words.cut file rest.records held → (bytes : List ℕ) × (held ≡ Some bytes) × IsLeft words rest file bytes
left-grown words rest file held reach (place, holds) = (
  take place file ++ bytes_at words.write.options place rest.records,
  holds.grown,
  inr (reach, (place, record { taken = holds.taken; kept = holds.kept; grown = refl })),
)

left-in_part : (words : AppendWords) (rest : Rest) (file : List ℕ) (held : Option (List ℕ))
    → (held ≡ Some file) ⊎ ((length file ≤ most_file_bytes) × HoldsGrownInPart words.write.options words.cut file rest.records held)
    → (bytes : List ℕ) × (held ≡ Some bytes) × MayBeLeft words rest file bytes
left-in_part words rest file held (inl same) = (file, same, inl refl)
left-in_part words rest file held (inr (reach, part)) = (
  take part.place file ++ take part.count (bytes_at words.write.options part.place rest.records),
  part.grown,
  inr (reach, record { place = part.place; count = part.count; taken = part.taken; kept = part.kept; front = part.front; grown = refl }),
)

-- what holds of a file and what it holds then leads to what the file keeps
keeps-map : (P Q : List ℕ → List ℕ → Type 0) (size : ℕ) (bytes held : Option (List ℕ)) → IfSome bytes (λ file. size ≡ length file)
    → ((file now : List ℕ) → size ≡ length file → P file now → Q file now)
    → IfSome bytes (λ file. IsSomeAnd held (P file)) → IfSome bytes (λ file. IsSomeAnd held (Q file))
keeps-map P Q size None held exact then keeps = tt
keeps-map P Q size (Some file) None exact then keeps = keeps
keeps-map P Q size (Some file) (Some now) exact then keeps = then file now exact keeps

module _ (words : AppendWords) (input input_then : SeenStream) (files : List SeenFile) (made : SeenStream) (grown grown_then : SeenFile)
    (out out_then notes notes_then : SeenStream)
    (i : input.faults ≤ input_then.faults) (g : grown.faults ≤ grown_then.faults) (o : out.faults ≤ out_then.faults) (n : notes.faults ≤ notes_then.faults)
    (taken : TakesAtMost most_input_taken input.bytes input_then.bytes)
    (handed : (grown_then.handed ≡ grown.handed) ⊎ HasTold grown.bytes grown_then.told (λ size. IsInReach (size ∷ []))) where
  abbrev Before : Seen
  Before = seen input files made grown out notes

  abbrev After : Seen
  After = seen input_then files made grown_then out_then notes_then

  abbrev Ended : Status → Type 0
  Ended = Runs (append_meaning words) Before After

  -- what the sinks had taken before the work, and when it had ended
  abbrev Start : Taken
  Start = taken_by made.bytes out.bytes notes.bytes

  abbrev Worked : Taken
  Worked = taken_by made.bytes out_then.bytes notes.bytes

  -- what the input gives
  abbrev Lines : Read → Rest
  Lines r = lines_taken words r.input

  -- what the file keeps of what it held
  abbrev Keeps : (List ℕ → List ℕ → Type 0) → Type 0
  Keeps P = IfSome grown.bytes (λ file. IsSomeAnd grown_then.bytes (P file))

  of_size : (P : List ℕ → Type 0) (size : ℕ) → (grown_then.told ≡ Some size) ⊎ ((grown_then.told ≡ None) × IsInReach (size ∷ []))
      → IfSome grown.bytes (λ file. size ≡ length file) → P (size ∷ []) → OfSizes (append_meaning words) Before After P
  of_size = grown-size (append_meaning words) (grows words) input input_then files made made grown grown_then out out_then notes notes_then

  -- the size of a file that was read is that which it told
  read_size : (P : ℕ → Type 0) (size : ℕ) → P size → IfSome grown.bytes (λ file. size ≡ length file)
      → (r : Read) → IsReadBy (append_meaning words) Before r → P (length r.grown)
  read_size P size holds exact r is =
      subst P (MatchOption-at_some _ (λ (file : List ℕ). size ≡ length file) r.grown (is.grown refl).0 exact) holds

  whole : (ended : Status) → IsWhole ended → IfGrown (append_meaning words) Before After (append_meaning words).leaves → Keeps (KeepsByStatus words.cut ended)
      → KeepsAtEnd (append_meaning words) Before After ended
  whole ended is leaves keeps =
      keeps-whole (append_meaning words) (grows words) input input_then files made made grown grown_then out out_then notes notes_then
      ended is i (omega arith) g o n taken leaves keeps handed

  short : (ended : Status) → IsCutOff ended ⊎ (ended ≡ status.Notes) → (ended ≡ status.Out → IfGrown (append_meaning words) Before After (append_meaning words).leaves)
      → IfGrown (append_meaning words) Before After (append_meaning words).may_leave → Keeps (KeepsByStatus words.cut ended)
      → KeepsAtEnd (append_meaning words) Before After ended
  short ended is leaves may_leave keeps =
      keeps-cut_off (append_meaning words) (grows words) input input_then files made made grown grown_then out out_then notes notes_then
      ended is i (omega arith) g o n taken leaves may_leave keeps handed

  -- nothing was printed
  none_went : out_then.bytes ≡ out.bytes → GoOut Start Worked []
  none_went same = subst (λ (b : Option (List ℕ)). GoOut Start (taken_by made.bytes b notes.bytes) []) (sym same) (GoOut-nothing Start)

  -- all was put to the file, and what became of it was printed
  done : HasTold grown.bytes grown_then.told (λ size. IsInReach (size ∷ []))
      → ((r : Read) → IsReadBy (append_meaning words) Before r → IsTold Takes words (Lines r) r.grown grown_then.bytes out.bytes out_then.bytes)
      → IfSome input.bytes (λ _. input_then.bytes ≡ Some [])
      → Keeps (λ file held. (place : ℕ) × GrowsFrom words.cut file place held) → notes_then ≡ notes → Ended status.Ok
  done (size, within, exact, tells) told read keeps kept =
      ends-whole (append_meaning words) Before After status.Ok [] tt
      (of_size (λ sizes. (append_meaning words).may_end sizes status.Ok []) size tells exact (inl (within, (0, None, refl, refl))))
      (subst (λ (s : SeenStream). Takes notes.bytes s.bytes []) (sym kept) (Takes-nothing notes.bytes))
      (λ r is.
      let (none, place, holds, printed) = told r is in
      let text : List ℕ = grown_text words r.grown place (Lines r).records in (
        grown_answer words r.grown place (Lines r),
        inr (read_size (λ bytes. bytes ≤ most_file_bytes) size within exact r is, inr (place, holds.taken, holds.kept, refl)),
        record {
          same_status = sym (ap stop_status none);
          went = subst (λ (s : SeenStream). GoOut Start (taken_by made.bytes out_then.bytes s.bytes) (grown_answer words r.grown place (Lines r)).puts) (sym kept)
              (subst (λ (s : Option Stop). GoOut Start Worked (grown_puts s text (length (Lines r).records))) (sym none)
              (GoOut-out made.bytes out.bytes out_then.bytes notes.bytes text printed));
        },
      ))
      (λ _ _. read) tt
      (whole status.Ok tt
      (λ _ r is.
      let (none, place, holds, printed) = told r is in
      left-grown words (Lines r) r.grown grown_then.bytes (read_size (λ bytes. bytes ≤ most_file_bytes) size within exact r is) (place, holds))
      keeps)

  -- something was said at the end
  said : (ended wanted : Status) (text : List ℕ) → SaysAtEnd ended wanted notes notes_then text → IsWhole wanted → wanted ≢ status.Ok
      → HasCause wanted (append_meaning words) Before After
      → OfSizes (append_meaning words) Before After (λ sizes. (append_meaning words).may_end sizes wanted text)
      → ((r : Read) → IsReadBy (append_meaning words) Before r
      → (answer : Answer) × (append_meaning words).answers r answer × GaveButNotes wanted Start Worked text answer)
      → IfGrown (append_meaning words) Before After (append_meaning words).leaves
      → IfGrown (append_meaning words) Before After (append_meaning words).may_leave
      → Keeps (KeepsByStatus words.cut wanted) → Keeps (KeepsByStatus words.cut status.Notes) → Ended ended
  said ended wanted text says is other cause may gave leaves may_leave keeps keeps_untold =
      ends-said (append_meaning words) Before After notes ended wanted [] text (Takes-nothing notes.bytes) (omega arith) says is other may gave
      cause (whole wanted is leaves keeps) (short status.Notes (inr refl) (λ e. absurd (cc e)) may_leave keeps_untold)

  -- the file was not grown, and that was said
  ungrown : (ended wanted : Status) (text : List ℕ) → SaysAtEnd ended wanted notes notes_then text → IsWhole wanted → wanted ≢ status.Ok
      → HasCause wanted (append_meaning words) Before After
      → OfSizes (append_meaning words) Before After (λ sizes. (append_meaning words).may_end sizes wanted text)
      → ((r : Read) → IsReadBy (append_meaning words) Before r
      → OfFile (IsAppended words (Lines r)) (r.grown ∷ []) (noted wanted text)
      × ((most_file_bytes < length r.grown) ⊎ ((fault : Fault) × IsRefusedToGrow words.cut r.grown fault))
      × (grown_then.bytes ≡ Some r.grown) × (out_then.bytes ≡ out.bytes))
      → Keeps (KeepsByStatus words.cut wanted) → Keeps (KeepsByStatus words.cut status.Notes) → Ended ended
  ungrown ended wanted text says is other cause may known keeps keeps_untold =
      said ended wanted text says is other cause may
      (λ r read.
      let (answers, why, same, unprinted) = known r read in
      (noted wanted text, answers, record { same_status = refl; puts = []; whole = refl; went = none_went unprinted }))
      (λ _ r read. let (answers, why, same, unprinted) = known r read in (r.grown, same, inl (why, refl)))
      (λ _ r read. let (answers, why, same, unprinted) = known r read in (r.grown, same, inl refl))
      keeps keeps_untold

  -- it is too long
  too_long : (ended : Status) → HasTold grown.bytes grown_then.told (λ size. IsTooLong (size ∷ []) × (grown_then.told ≡ Some size))
      → ((r : Read) → IsReadBy (append_meaning words) Before r
      → (most_file_bytes < length r.grown) × (grown_then.bytes ≡ Some r.grown) × (out_then.bytes ≡ out.bytes))
      → Keeps (λ file held. held ≡ file) → SaysAtEnd ended status.Limit notes notes_then limit_text → Ended ended
  too_long ended (size, (long, told), exact, tells) known keeps says =
      ungrown ended status.Limit limit_text says tt (λ e. cc e) tt
      (of_size (λ sizes. (append_meaning words).may_end sizes status.Limit limit_text) size (inl told) exact (inr (inr (long, refl, refl))))
      (λ r is. let (past, same, unprinted) = known r is in (inl (past, refl), inl past, same, unprinted))
      (keeps-map (λ file held. held ≡ file) (KeepsByStatus words.cut status.Limit) size grown.bytes grown_then.bytes exact
      (λ file held is same. inl (subst (λ (k : ℕ). most_file_bytes < k) is long, same)) keeps)
      (keeps-map (λ file held. held ≡ file) (KeepsByStatus words.cut status.Notes) size grown.bytes grown_then.bytes exact (λ file held is same. inl same) keeps)

  -- it is refused
  refused : (ended : Status) (fault : Fault)
      → HasTold grown.bytes grown_then.told (λ size. IsInReach (size ∷ []) × (grown_then.told ≡ Some size) × (0 < size) × RefusesFor words.cut fault.why)
      → ((r : Read) → IsReadBy (append_meaning words) Before r
      → IsRefusedToGrow words.cut r.grown fault × (grown_then.bytes ≡ Some r.grown) × (out_then.bytes ≡ out.bytes))
      → Keeps (λ file held. held ≡ file) → SaysAtEnd ended status.Refused notes notes_then (refused_text fault) → Ended ended
  refused ended fault (size, (within, told, some, reason), exact, tells) known keeps says =
      ungrown ended status.Refused (refused_text fault) says tt (λ e. cc e) tt
      (of_size (λ sizes. (append_meaning words).may_end sizes status.Refused (refused_text fault)) size (inl told) exact
      (inr (inl (within, (λ none. let empty : size ≡ 0 = cc none in omega (arith, empty, some)), fault, reason, refl, refl))))
      (λ r is.
      let (its, same, unprinted) = known r is in
      (inr (read_size (λ bytes. bytes ≤ most_file_bytes) size within exact r is, inl (fault, its, refl)), inr (fault, its), same, unprinted))
      keeps
      (keeps-map (λ file held. held ≡ file) (KeepsByStatus words.cut status.Notes) size grown.bytes grown_then.bytes exact (λ file held is same. inl same) keeps)

  -- a stop followed some records
  stopped : (ended : Status) (s : Stop) (count : ℕ) → IsWhole (stop_status (Some s)) → stop_status (Some s) ≢ status.Ok
      → HasCause (stop_status (Some s)) (append_meaning words) Before After
      → ((file held : List ℕ) → length file ≤ most_file_bytes → ((place : ℕ) × GrowsFrom words.cut file place held) → KeepsByStatus words.cut (stop_status (Some s)) file held)
      → HasTold grown.bytes grown_then.told (λ size. IsInReach (size ∷ []))
      → ((r : Read) → IsReadBy (append_meaning words) Before r
      → IsStopped words (Lines r) r.grown grown_then.bytes s count × (out_then.bytes ≡ out.bytes))
      → Keeps (λ file held. (place : ℕ) × GrowsFrom words.cut file place held)
      → SaysAtEnd ended (stop_status (Some s)) notes notes_then (stop_text count (Some s)) → Ended ended
  stopped ended s count is other cause then (size, within, exact, tells) known keeps says =
      said ended (stop_status (Some s)) (stop_text count (Some s)) says is other cause
      (of_size (λ sizes. (append_meaning words).may_end sizes (stop_status (Some s)) (stop_text count (Some s))) size tells exact
      (inl (within, (count, Some s, refl, refl))))
      (λ r read.
      let ((stops, text, (place, holds)), unprinted) = known r read in
      let counted : ℕ = length (Lines r).records in
      let printed : List ℕ = grown_text words r.grown place (Lines r).records in (
        grown_answer words r.grown place (Lines r),
        inr (read_size (λ bytes. bytes ≤ most_file_bytes) size within exact r read, inr (place, holds.taken, holds.kept, refl)),
        record {
          same_status = sym (ap stop_status stops);
          puts = [];
          whole = ap (λ (x : Option Stop). grown_puts x printed counted) stops ∙ ap (puts_to Notes) text;
          went = none_went unprinted;
        },
      ))
      (λ _ r read.
      let (stops, unprinted) = known r read in
      left-grown words (Lines r) r.grown grown_then.bytes (read_size (λ bytes. bytes ≤ most_file_bytes) size within exact r read) stops.2)
      (λ _ r read.
      let (stops, unprinted) = known r read in
      left-in_part words (Lines r) r.grown grown_then.bytes
      (inr (
        read_size (λ bytes. bytes ≤ most_file_bytes) size within exact r read,
        part-of-whole words.write.options words.cut r.grown (Lines r).records grown_then.bytes stops.2,
      )))
      (keeps-map (λ file held. (place : ℕ) × GrowsFrom words.cut file place held) (KeepsByStatus words.cut (stop_status (Some s))) size grown.bytes grown_then.bytes exact
      (λ file held is grows_from. then file held (subst (λ (k : ℕ). k ≤ most_file_bytes) is within) grows_from) keeps)
      (keeps-map (λ file held. (place : ℕ) × GrowsFrom words.cut file place held) (KeepsByStatus words.cut status.Notes) size grown.bytes grown_then.bytes exact
      (λ file held is grows_from. inr grows_from) keeps)

  -- by which it was
  by_stop : (ended : Status) (s : Stop) (count : ℕ)
      → HasTold grown.bytes grown_then.told (λ size. IsInReach (size ∷ []))
      → ((r : Read) → IsReadBy (append_meaning words) Before r
      → IsStopped words (Lines r) r.grown grown_then.bytes s count × (out_then.bytes ≡ out.bytes))
      → Keeps (λ file held. (place : ℕ) × GrowsFrom words.cut file place held)
      → SaysAtEnd ended (stop_status (Some s)) notes notes_then (stop_text count (Some s)) → Ended ended
  by_stop ended stop.TooLong count =
      stopped ended stop.TooLong count tt (λ e. cc e) tt (λ file held reach grows_from. inr (reach, grows_from))
  by_stop ended stop.InputTooLong count =
      stopped ended stop.InputTooLong count tt (λ e. cc e) tt (λ file held reach grows_from. inr (reach, grows_from))
  by_stop ended stop.BadLine count =
      stopped ended stop.BadLine count tt (λ e. cc e) tt (λ file held reach grows_from. grows_from)

  -- a fault or want of memory cut the work off, when this of an answer had gone out
  cut_off : (ended : Status) → IsCutOff ended
      → (ended ≢ status.File → ended ≢ status.Grown → OfSizes (append_meaning words) Before After IsInReach)
      → ((r : Read) → IsReadBy (append_meaning words) Before r → (answer : Answer) × (append_meaning words).answers r answer
      × (part : List Put) × Breaks ended part answer.puts × (bytes_to Notes part ≡ []) × GoOut Start Worked part × (IsReadingCutOff ended → part ≡ []))
      → (ended ≡ status.Out → (r : Read) → IsReadBy (append_meaning words) Before r
      → (bytes : List ℕ) × (grown_then.bytes ≡ Some bytes) × IsLeft words (Lines r) r.grown bytes)
      → ((r : Read) → IsReadBy (append_meaning words) Before r → (bytes : List ℕ) × (grown_then.bytes ≡ Some bytes) × MayBeLeft words (Lines r) r.grown bytes)
      → HasCause ended (append_meaning words) Before After → Keeps (KeepsByStatus words.cut ended)
      → TakesThen notes notes_then [] (fault_text ended) → Ended ended
  cut_off ended cuts within put whole_left left cause keeps says =
      ends-cut_off (append_meaning words) Before After ended [] cuts within refl says
      (λ r is.
      let (answer, right, part, breaks, none, went, so_far) = put r is in
      (answer, right, was-cut_off ended Before After notes answer part breaks (PutsLines-none part answer.puts none) went (omega arith) says))
      (λ cut_short sound r is.
      let (answer, right, part, breaks, none, went, so_far) = put r is in
      went-so_far (append_meaning words) ended Before After notes r part (so_far cut_short) went (omega arith) says)
      cause (short ended (inl cuts) (λ e _. whole_left e) (λ _. left) keeps)

  -- before anything was printed
  unprinted_cut : (ended : Status) → IsCutOff ended → ended ≢ status.Out → ((puts : List Put) → Breaks ended [] puts)
      → (ended ≢ status.File → ended ≢ status.Grown → OfSizes (append_meaning words) Before After IsInReach)
      → ((r : Read) → IsReadBy (append_meaning words) Before r
      → ((grown_then.bytes ≡ Some r.grown)
      ⊎ ((length r.grown ≤ most_file_bytes) × HoldsGrownInPart words.write.options words.cut r.grown (Lines r).records grown_then.bytes))
      × (out_then.bytes ≡ out.bytes))
      → HasCause ended (append_meaning words) Before After → Keeps (KeepsByStatus words.cut ended)
      → TakesThen notes notes_then [] (fault_text ended) → Ended ended
  unprinted_cut ended cuts other breaks within known cause keeps says =
      cut_off ended cuts within
      (λ r is.
      let found = grown_exists words (Lines r) r.grown (is.grown refl).1 in
      (found.0, found.1, [], breaks found.0.puts, refl, none_went (known r is).1, (λ _. refl)))
      (λ e. absurd (other e))
      (λ r is. left-in_part words (Lines r) r.grown grown_then.bytes (known r is).0)
      cause keeps says

  -- standard output failed
  out_failed : HasTold grown.bytes grown_then.told (λ size. IsInReach (size ∷ []))
      → ((r : Read) → IsReadBy (append_meaning words) Before r → IsTold TakesShort words (Lines r) r.grown grown_then.bytes out.bytes out_then.bytes)
      → Rose out.faults out_then.faults → Keeps (λ file held. (place : ℕ) × GrowsFrom words.cut file place held)
      → TakesThen notes notes_then [] (fault_text status.Out) → Ended status.Out
  out_failed (size, within, exact, tells) told rose keeps says =
      cut_off status.Out tt (λ _ _. of_size IsInReach size tells exact within)
      (λ r is.
      let (none, place, holds, (count, less, printed)) = told r is in
      let text : List ℕ = grown_text words r.grown place (Lines r).records in
      let last : List ℕ = take count text in (
        grown_answer words r.grown place (Lines r),
        inr (read_size (λ bytes. bytes ≤ most_file_bytes) size within exact r is, inr (place, holds.taken, holds.kept, refl)),
        puts_to Out last,
        subst (λ (s : Option Stop). Breaks status.Out (puts_to Out last) (grown_puts s text (length (Lines r).records))) (sym none)
            (BreaksOff-last Out [] text count less),
        bytes_to-other Notes Out last refl,
        GoOut-out made.bytes out.bytes out_then.bytes notes.bytes last printed,
        (λ short. absurd short),
      ))
      (λ _ r is.
      let (none, place, holds, printed) = told r is in
      left-grown words (Lines r) r.grown grown_then.bytes (read_size (λ bytes. bytes ≤ most_file_bytes) size within exact r is) (place, holds))
      (λ r is.
      let (none, place, holds, printed) = told r is in
      left-in_part words (Lines r) r.grown grown_then.bytes
      (inr (
        read_size (λ bytes. bytes ≤ most_file_bytes) size within exact r is,
        part-of-whole words.write.options words.cut r.grown (Lines r).records grown_then.bytes (place, holds),
      )))
      (refl, rose) keeps says

  -- P holds of what is read, where that is shown
  if_read : (P : List ℕ → Rest → Type 0) → IfSome grown.bytes (λ file. IfSome input.bytes (λ bytes. P file (lines_taken words bytes)))
      → (r : Read) → IsReadBy (append_meaning words) Before r → P r.grown (Lines r)
  if_read P holds r is =
      MatchOption-at_some _ (λ (bytes : List ℕ). P r.grown (lines_taken words bytes)) r.input (is.input refl)
      (MatchOption-at_some _ (λ (file : List ℕ). IfSome input.bytes (λ bytes. P file (lines_taken words bytes))) r.grown (is.grown refl).0 holds)

  -- by how the work ended
  by_end : {X : Type 0} (result : Result X (Ending Unappended)) (ended : Status) → IsSizedBy result words grown.bytes grown_then.told
      → ((r : Read) → IsReadBy (append_meaning words) Before r
      → HasAppended result words (Lines r) r.grown grown_then.bytes out.bytes out_then.bytes)
      → Keeps (KeepsOldAtEnd result words.cut)
      → (result ≡ Err (end.Cut cut.Input) → Rose input.faults input_then.faults)
      → (result ≡ Err (end.Cut cut.Grown) → Rose grown.faults grown_then.faults)
      → (result ≡ Err (end.Cut cut.Out) → Rose out.faults out_then.faults)
      → OnOk result (IfSome input.bytes (λ _. input_then.bytes ≡ Some []))
      → SaysEnd appending_ends result ended notes notes_then → Ended ended
  by_end (Ok x) ended sized has keeps input_rose grown_rose out_rose read says =
      subst Ended (sym says.0) (done sized has read keeps says.1)
  by_end (Err end.Limit) ended sized has keeps input_rose grown_rose out_rose read says = too_long ended sized has keeps says
  by_end (Err (end.At (Refused fault))) ended sized has keeps input_rose grown_rose out_rose read says = refused ended fault sized has keeps says
  by_end (Err (end.At (Stopped s count))) ended sized has keeps input_rose grown_rose out_rose read says = by_stop ended s count sized has keeps says
  by_end (Err (end.Cut cut.Input)) ended (used, (size, within, exact, tells)) has keeps input_rose grown_rose out_rose read says =
      subst Ended (sym says.0)
      (unprinted_cut status.Input tt (λ e. cc e) (λ puts. (puts, refl)) (λ _ _. of_size IsInReach size tells exact within) has
      (refl, input_rose refl) keeps says.1)
  by_end (Err (end.Cut cut.Grown)) ended sized has keeps input_rose grown_rose out_rose read says =
      subst Ended (sym says.0)
      (unprinted_cut status.Grown tt (λ e. cc e) (λ puts. (puts, refl)) (λ _ other. absurd (other refl)) has (refl, grown_rose refl) keeps says.1)
  by_end (Err (end.Cut cut.Memory)) ended (used, (size, within, exact, tells)) has keeps input_rose grown_rose out_rose read says =
      subst Ended (sym says.0)
      (unprinted_cut status.Memory tt (λ e. cc e) (λ puts. (puts, refl)) (λ _ _. of_size IsInReach size tells exact within) has refl keeps says.1)
  by_end (Err (end.Cut cut.Out)) ended (used, sized) has keeps input_rose grown_rose out_rose read says =
      subst Ended (sym says.0) (out_failed sized has (out_rose refl) keeps says.1)
  by_end (Err (end.Cut cut.File)) ended (used, sized) has keeps input_rose grown_rose out_rose read says = absurd (cc used)
  by_end (Err (end.Cut cut.Made)) ended (used, sized) has keeps input_rose grown_rose out_rose read says = absurd (cc used)
  by_end (Err (end.Cut cut.Notes)) ended ((text, says_it, some), sized) has keeps input_rose grown_rose out_rose read says = absurd (some says_it)

  -- of what the file and the input showed
  pub runs-append : {X : Type 0} (result : Result X (Ending Unappended)) (ended : Status) → IsSizedBy result words grown.bytes grown_then.told
      → IfSome grown.bytes (λ file. IfSome input.bytes (λ bytes.
      HasAppended result words (lines_taken words bytes) file grown_then.bytes out.bytes out_then.bytes))
      → Keeps (KeepsOldAtEnd result words.cut)
      → (result ≡ Err (end.Cut cut.Input) → Rose input.faults input_then.faults)
      → (result ≡ Err (end.Cut cut.Grown) → Rose grown.faults grown_then.faults)
      → (result ≡ Err (end.Cut cut.Out) → Rose out.faults out_then.faults)
      → OnOk result (IfSome input.bytes (λ _. input_then.bytes ≡ Some []))
      → SaysEnd appending_ends result ended notes notes_then → Ended ended
  runs-append result ended sized has =
      by_end result ended sized
      (if_read (λ file rest. HasAppended result words rest file grown_then.bytes out.bytes out_then.bytes) has)
