-- How `show` gets on past damage: the events so far, one more, and how they stand to the answer.
use Rattle.std.proofs.Common.{◌≡◌, ◌∙◌, ℕ, ◌-◌, ◌<◌, ◌≤◌, true, false, Option, None, Ok, Err, List, [], ◌∷◌, ◌++◌, length, take, refl, sym, ap, subst, inr}
use Rattle.std.specs.List.{AllByRecursion, enumerate_from, flat_map}
use Rattle.record_io.proofs.Buffered.{TakesAndHolds-none}
use Rattle.show_command.specs.ShowProgress.{record_lines}
use Rattle.std.proofs.lemmas.List.{append-nil, append_assoc}
use Rattle.std.proofs.lemmas.Grind.{flat_map-append}
use Rattle.record_io.specs.Outside.{Takes, TakesShort}
use Rattle.record_io.specs.Buffers.{TakesAndHolds, GoOutOrAreHeld}
use Rattle.record_io.specs.Puts.{Put, Out, Notes, Taken, taken_by, GoOut, BreaksOff, puts_to, bytes_to}
use Rattle.record_io.proofs.Calls.{Takes-append, TakesShort-append}
use Rattle.record_io.proofs.Puts.{GoOut-append, GoOut-notes, GoOut-out, GoOutOrAreHeld-none, BreaksOff-last, BreaksOff-longer, BreaksOff-behind, bytes_to-append, bytes_to-other, puts_to-append}
use Rattle.chunk_header.specs.Chunks.{ChunkValue}
use Rattle.chunk_header.specs.Views.{value_of_chunk}
use Rattle.meta_chunk.specs.Laid.{end_of_chunk}
use Rattle.damage_skip.proofs.KeptChunks.{kept_region}
use Rattle.damage_skip.specs.Pieces.{Skipped, Piece, IsPieceOf, AreEvents, records_of}
use Rattle.damage_skip.specs.Bounds.{may_skip, walked, refused_in, MaySkip}
use Rattle.damage_skip.specs.Regions.{region_text, regions_in, IsWalkedTo, skipped_text, stopped_text, told_text}
use Rattle.damage_skip.specs.Takings.{IsTakenUpTo}
use Rattle.damage_skip.specs.Walks.{piece_of, GoesOn, event_text}
use Rattle.damage_skip.proofs.BoundedWalks.{MaySkipEach, walked-behind, walked-all, refused-none, walked-to_refused, refused-there}
use Rattle.damage_skip.proofs.RegionsIn.{regions_in-append, each_append, kept_no_region, skipped_text-event}
use Rattle.damage_skip.proofs.WalkedTo.{piece_at, walked-further, walked-on, rest_of, rest_from}
use Rattle.recover_command.proofs.RecoverStreams.{events_notes}
use Rattle.recover_command.proofs.WalkStatuses.{status-more, status-all, status-stopped}
use Rattle.recover_command.specs.RecoverProgress.{event_lines, status_after, PrintsEvent, HasPrintedTo}
use Rattle.recover_command.specs.WalkAnswers.{walk_status}
use Rattle.damage_skip.specs.declared.events.Event.{Event}
use Rattle.damage_skip.specs.declared.regions.Region.{Region}
use Rattle.damage_skip.proofs.Tiles.{goes_on_whole}
use lib.Chars.{codes}
use Rattle.recover_command.specs.declared.recover_words.RecoverWords.{RecoverWords}
use Rattle.command_frame.specs.declared.status.Status.{Status}
use Rattle.command_frame.specs.declared.ending.Ending.{Ending}
use Rattle.command_frame.specs.Answers.{Answer}
use Rattle.command_frame.specs.FileAnswers.{most_file_bytes, OfFile}
use Rattle.command_frame.specs.PutSoFar.{HasPut, HasPutSoFar, HasPutFront, HasBrokenOff}
use Rattle.recover_command.specs.RecoverCommand.{event_puts, IsRecovered, IsRecoveredSoFar}
use Rattle.command_frame.specs.RunLeaves.{FailedToSay, PutsLines}
use Rattle.recover_command.specs.WalkingEnds.{HasToldOf}
use Rattle.command_frame.proofs.TwoStreams.{bytes_to-second}
use Rattle.recover_command.proofs.OneRecovery.{one_recovered}
use Rattle.command_frame.proofs.PutSoFar.{PutsLines-same}
use Rattle.recover_command.proofs.RegionTexts.{PutsLines-regions}
use Rattle.show_command.proofs.ShowSteps.{in_reach}
use Rattle.damage_skip.specs.declared.events.Event.TheVariants as event
use Rattle.command_frame.specs.declared.status.Status.TheVariants as status
use Rattle.record_io.specs.declared.cut.Cut.TheVariants as cut
use Rattle.command_frame.specs.declared.ending.Ending.TheVariants as end

-- what is put of events
abbrev pub puts_of : RecoverWords → List Piece → List Put
puts_of words events = flat_map (event_puts words.show.form) events

-- the answer that events make
abbrev pub answer_of : RecoverWords → List Piece → Answer
answer_of words events = record {
  puts = puts_of words (walked words.most events) ++ puts_to Notes (stopped_text (refused_in words.most events));
  status = walk_status (regions_in (walked words.most events)) (refused_in words.most events);
}

pub answered : (words : RecoverWords) (file : List ℕ) (events : List Piece) → AreEvents false file events → IsRecovered words file (answer_of words events)
answered words file events are = record { events = events; are = are; puts = refl; status = refl }

is_answer : (words : RecoverWords) (file : List ℕ) (events : List Piece) (answer : Answer) → length file ≤ most_file_bytes
    → AreEvents false file events → OfFile (IsRecovered words) (file ∷ []) answer → answer ≡ answer_of words events
is_answer words file events answer short are is =
    one_recovered words file answer (answer_of words events) (in_reach (IsRecovered words) file answer short is) (answered words file events are)

-- what the first events put comes first in the answer
puts-front : (words : RecoverWords) (file : List ℕ) (place : ℕ) (events : List Piece) (answer : Answer) → length file ≤ most_file_bytes
    → IsWalkedTo false (MaySkip words.most) file place events → OfFile (IsRecovered words) (file ∷ []) answer
    → (rest : List Put) × (answer.puts ≡ puts_of words events ++ rest)
puts-front words file place events answer short h is =
    let behind = rest_of false (MaySkip words.most) file place events h in
    let fs : List Piece = behind.0 in
    let last : List Put = puts_to Notes (stopped_text (refused_in words.most (events ++ fs))) in (
      puts_of words (walked words.most fs) ++ last,
      ap (λ (a : Answer). a.puts) (is_answer words file (events ++ fs) answer short behind.1 is)
          ∙ ap (λ (es : List Piece). puts_of words es ++ last) (walked-behind words.most events fs h.each)
          ∙ ap (λ (ps : List Put). ps ++ last) (flat_map-append (event_puts words.show.form) events (walked words.most fs))
          ∙ append_assoc (puts_of words events) (puts_of words (walked words.most fs)) last,
    )

-- what is held is nothing for notes
notes-passed : (puts passed : List Put) (held : List ℕ) → puts ≡ passed ++ puts_to Out held → bytes_to Notes passed ≡ bytes_to Notes puts
notes-passed puts passed held parts =
    sym (append-nil (bytes_to Notes passed))
    ∙ ap (λ (t : List ℕ). bytes_to Notes passed ++ t) (sym (bytes_to-other Notes Out held refl))
    ∙ sym (bytes_to-append Notes passed (puts_to Out held))
    ∙ ap (bytes_to Notes) (sym parts)

-- what events put in notes is whole lines, those of their regions
lines-front : (words : RecoverWords) (es : List Piece) (rest puts : List Put) → puts ≡ puts_of words es ++ rest → PutsLines (puts_of words es) puts
lines-front words es rest puts parts =
    PutsLines-regions (regions_in es) (puts_of words es) puts (bytes_to Notes rest) (events_notes words.show.form es)
    (ap (bytes_to Notes) parts
    ∙ bytes_to-append Notes (puts_of words es) rest
    ∙ ap (λ (t : List ℕ). t ++ bytes_to Notes rest) (events_notes words.show.form es))

-- a front of the answer was put
pub printed-front : (words : RecoverWords) (file : List ℕ) (place : ℕ) (before after : Taken) (held : List ℕ) (ended : Status)
    → length file ≤ most_file_bytes → HasPrintedTo words file place before after held ended
    → (answer : Answer) → OfFile (IsRecovered words) (file ∷ []) answer → HasPutFront before after held answer
printed-front words file place before after held ended short h answer is =
    let front = puts-front words file place h.events answer short h.walked is in
    record {
      part = puts_of words h.events;
      rest = front.0;
      parts = front.1;
      lines = lines-front words h.events front.0 answer.puts front.1;
      went = h.went;
    }

-- which is all that was put so far
pub printed-so_far : (words : RecoverWords) (file : List ℕ) (place : ℕ) (before after : Taken) (held : List ℕ) (ended : Status) (start now : ℕ)
    → HasPrintedTo words file place before after held ended → IsTakenUpTo false file 0 place (now - start)
    → HasPutSoFar (IsRecoveredSoFar words start now file) before after held
printed-so_far words file place before after held ended start now h taken = record {
  part = puts_of words h.events;
  is = record { place = place; events = h.events; walked = h.walked; puts = refl; taken = taken };
  went = h.went;
}

-- all events were given
pub printed-whole : (words : RecoverWords) (file : List ℕ) (before after : Taken) (held : List ℕ) (ended : Status)
    → length file ≤ most_file_bytes → HasPrintedTo words file (length file) before after held ended
    → HasPut (IsRecovered words) file before after held [] ended
printed-whole words file before after held ended short h =
    let whole : (answer_of words h.events).puts ≡ puts_of words h.events ++ [] =
    ap (λ (es : List Piece). puts_of words es ++ puts_to Notes (stopped_text (refused_in words.most h.events))) (walked-all words.most h.events h.walked.each)
    ∙ ap (λ (s : Option Region). puts_of words h.events ++ puts_to Notes (stopped_text s)) (refused-none words.most h.events h.walked.each) in
    record {
      answer = answer_of words h.events;
      is = inr (short, answered words file h.events (goes_on_whole false file h.events h.walked.walked));
      puts = puts_of words h.events;
      whole = whole;
      lines = lines-front words h.events [] (answer_of words h.events).puts whole;
      went = h.went;
      status = h.status ∙ sym (status-all words.most h.events h.walked.each);
    }

-- or those before the one that is refused
pub printed-stopped : (words : RecoverWords) (file : List ℕ) (place : ℕ) (before after : Taken) (held : List ℕ) (ended : Status)
    (region : Region) → length file ≤ most_file_bytes → HasPrintedTo words file place before after held ended
    → region.begin ≡ place → place < length file → IsPieceOf false file place region.end (Skipped region.why) → may_skip words.most region ≡ false
    → HasPut (IsRecovered words) file before after held (region_text (codes "stopped") region) status.Stopped
printed-stopped words file place before after held ended region short h begin below is refused =
    let rest = rest_from false (MaySkip words.most) file place h.events region h.walked begin below is in
    let all : List Piece = h.events ++ piece_at region ∷ rest.0 in
    let last : List Put = puts_to Notes (region_text (codes "stopped") region) in
    let whole : (answer_of words all).puts ≡ puts_of words h.events ++ last =
    ap (λ (es : List Piece). puts_of words es ++ puts_to Notes (stopped_text (refused_in words.most all)))
    (walked-to_refused words.most h.events rest.0 region h.walked.each refused)
    ∙ ap (λ (s : Option Region). puts_of words h.events ++ puts_to Notes (stopped_text s))
    (refused-there words.most h.events rest.0 region h.walked.each refused) in
    record {
      answer = answer_of words all;
      is = inr (short, answered words file all rest.1);
      puts = puts_of words h.events;
      whole = whole;
      lines = lines-front words h.events last (answer_of words all).puts whole;
      went = h.went;
      status = sym (status-stopped words.most h.events rest.0 region h.walked.each refused);
    }

-- what one event more adds
puts-event : (words : RecoverWords) (e : Event) → event_puts words.show.form (piece_of e) ≡ puts_to Out (event_lines words e) ++ puts_to Notes (event_text e)
puts-event words (event.Records begin records chunk) = refl
puts-event words (event.Kept begin chunk unread) =
    let k : ChunkValue = value_of_chunk chunk in
    ap (λ (r : Option Region). puts_to Out (event_lines words (event.Kept begin chunk unread)) ++ puts_to Notes (told_text r))
    (kept_region begin (end_of_chunk begin k) k)
puts-event words (event.Skipped region) = refl

-- behind what is held
puts-on : (words : RecoverWords) (es : List Piece) (e : Event) (passed : List Put) (held : List ℕ) → puts_of words es ≡ passed ++ puts_to Out held
    → puts_of words (es ++ piece_of e ∷ []) ≡ passed ++ (puts_to Out (held ++ event_lines words e) ++ puts_to Notes (event_text e))
puts-on words es e passed held parts =
    let lines : List Put = puts_to Out (event_lines words e) in
    let text : List Put = puts_to Notes (event_text e) in
    flat_map-append (event_puts words.show.form) es (piece_of e ∷ [])
    ∙ ap (λ (ps : List Put). puts_of words es ++ ps) (append-nil (event_puts words.show.form (piece_of e)) ∙ puts-event words e)
    ∙ ap (λ (ps : List Put). ps ++ (lines ++ text)) parts
    ∙ append_assoc passed (puts_to Out held) (lines ++ text)
    ∙ ap (λ (ps : List Put). passed ++ ps) (sym (append_assoc (puts_to Out held) lines text)
    ∙ ap (λ (ps : List Put). ps ++ text) (sym (puts_to-append Out held (event_lines words e))))

pub status-event : (rs : List Region) (ended : Status) (e : Event) → ended ≡ walk_status rs None
    → status_after ended e ≡ walk_status (rs ++ regions_in (piece_of e ∷ [])) None
status-event rs ended (event.Records begin records chunk) is = is ∙ sym (ap (λ (xs : List Region). walk_status xs None) (append-nil rs))
status-event rs ended (event.Kept begin chunk unread) is =
    is
    ∙ sym (ap (λ (xs : List Region). walk_status (rs ++ xs) None) (kept_no_region begin chunk unread)
    ∙ ap (λ (xs : List Region). walk_status xs None) (append-nil rs))
status-event rs ended (event.Skipped region) is = sym (status-more rs region)

-- an event that is no region, or one that may be skipped, is not refused
pub event-passed : (most : Option ℕ) (e : Event) → ((region : Region) → e ≡ event.Skipped region → may_skip most region ≡ true) → MaySkipEach most (piece_of e ∷ [])
event-passed most (event.Records begin records chunk) allowed = tt
event-passed most (event.Kept begin chunk unread) allowed =
    subst (AllByRecursion (MaySkip most)) (sym (kept_no_region begin chunk unread)) tt
event-passed most (event.Skipped region) allowed = (allowed region refl, tt)

-- an event that was given leaves the status as it was, unless it is a region
pub after-ok : (ended : Status) (e : Event) → status_after ended e ≡ status.Ok → (ended ≡ status.Ok) × (event_text e ≡ [])
after-ok ended (event.Records begin records chunk) is = (is, refl)
after-ok ended (event.Kept begin chunk unread) is = (is, refl)
after-ok ended (event.Skipped region) is = absurd (cc is)

-- an event of records is given by its lines
pub prints-lines : {X : Type 0} (x : X) (words : RecoverWords) (e : Event) (made b c notes : Option (List ℕ)) (held held_then : List ℕ) → event_text e ≡ []
    → TakesAndHolds b c (held ++ event_lines words e) held_then
    → PrintsEvent {X = X} (Ok x) (event_lines words e) (event_text e) (taken_by made b notes) (taken_by made c notes) held held_then
prints-lines x words e made b c notes held held_then quiet h = record {
  passed = puts_to Out h.passed;
  parts = ap (λ (t : List ℕ). puts_to Out (held ++ event_lines words e) ++ puts_to Notes t) quiet
      ∙ append-nil (puts_to Out (held ++ event_lines words e))
      ∙ ap (puts_to Out) h.parts
      ∙ puts_to-append Out h.passed held_then;
  went = GoOut-out made b c notes h.passed h.taken;
}

-- and a chunk that is kept and holds none by nothing
pub prints-kept : {X : Type 0} (x : X) (words : RecoverWords) (e : Event) (made b notes : Option (List ℕ)) (held : List ℕ) → event_text e ≡ []
    → records_of (piece_of e).what ≡ []
    → PrintsEvent {X = X} (Ok x) (event_lines words e) (event_text e) (taken_by made b notes) (taken_by made b notes) held held
prints-kept x words e made b notes held quiet none =
    prints-lines x words e made b b notes held held quiet
    (subst (λ (rs : List (List ℕ)). TakesAndHolds b b (held ++ record_lines words.show.form (enumerate_from (piece_of e).begin rs)) held)
    (sym none) (TakesAndHolds-none b held))

pub breaks-lines : (X : Type 0) (lines text : List ℕ) (made b c notes : Option (List ℕ)) (held held_then : List ℕ)
    → TakesShort b c (held ++ lines) → PrintsEvent {X = X} (Err (end.Cut cut.Out)) lines text (taken_by made b notes) (taken_by made c notes) held held_then
breaks-lines X lines text made b c notes held held_then short =
    (short.0, short.1, GoOut-out made b c notes (take short.0 (held ++ lines)) short.2)

-- and a region by its line, behind what was held
module _ (text : List ℕ) (made b c notes notes_then : Option (List ℕ)) (held : List ℕ) (out : Takes b c held) where
  before-text : (last : List ℕ) → Takes notes notes_then last
      → GoOut (taken_by made b notes) (taken_by made c notes_then) (puts_to Out (held ++ []) ++ puts_to Notes last)
  before-text last said =
      GoOut-append (taken_by made b notes) (taken_by made c notes) (taken_by made c notes_then) (puts_to Out (held ++ [])) (puts_to Notes last)
      (GoOut-out made b c notes (held ++ []) (subst (λ (hs : List ℕ). Takes b c hs) (sym (append-nil held)) out))
      (GoOut-notes made c notes notes_then last said)

  pub prints-text : {X : Type 0} (x : X) (held_then : List ℕ) → held_then ≡ [] → Takes notes notes_then text
      → PrintsEvent {X = X} (Ok x) [] text (taken_by made b notes) (taken_by made c notes_then) held held_then
  prints-text x held_then none said =
      subst (λ (hs : List ℕ). GoOutOrAreHeld (taken_by made b notes) (taken_by made c notes_then) Out (puts_to Out (held ++ []) ++ puts_to Notes text) hs) (sym none)
      (GoOutOrAreHeld-none (taken_by made b notes) (taken_by made c notes_then) Out (puts_to Out (held ++ []) ++ puts_to Notes text) (before-text text said))

  pub breaks-text : (X : Type 0) (held_then : List ℕ) → TakesShort notes notes_then text
      → PrintsEvent {X = X} (Err (end.Cut cut.Notes)) [] text (taken_by made b notes) (taken_by made c notes_then) held held_then
  breaks-text X held_then short = (short.0, short.1, before-text (take short.0 text) short.2)

-- what holds of both streams that may fail holds of the one by which an event did
pub by_stream : (X : Type 0) (C : Ending Region → Type 0) (failed : Ending Region) (lines text : List ℕ) (before after : Taken) (held held_then : List ℕ)
    → PrintsEvent {X = X} (Err failed) lines text before after held held_then
    → (PrintsEvent {X = X} (Err (end.Cut cut.Out)) lines text before after held held_then → C (end.Cut cut.Out))
    → (PrintsEvent {X = X} (Err (end.Cut cut.Notes)) lines text before after held held_then → C (end.Cut cut.Notes))
    → C failed
by_stream X C (end.Cut cut.Out) lines text before after held held_then prints out notes = out prints
by_stream X C (end.Cut cut.Notes) lines text before after held held_then prints out notes = notes prints
by_stream X C other lines text before after held held_then prints out notes = absurd prints

-- no event more
pub printed-on : (words : RecoverWords) (file : List ℕ) (place next : ℕ) (before after : Taken) (held : List ℕ) (ended : Status)
    → HasPrintedTo words file place before after held ended → GoesOn false file place next [] → HasPrintedTo words file next before after held ended
printed-on words file place next before after held ended h on = record {
  events = h.events;
  walked = walked-further false (MaySkip words.most) file place next h.events h.walked on;
  went = h.went;
  status = h.status;
}

-- one event more
pub printed-event : {X : Type 0} (words : RecoverWords) (file : List ℕ) (place next : ℕ) (a b c : Taken) (held held_then : List ℕ) (ended : Status)
    (e : Event) (x : X) → HasPrintedTo words file place a b held ended → GoesOn false file place next (piece_of e ∷ []) → MaySkipEach words.most (piece_of e ∷ [])
    → PrintsEvent {X = X} (Ok x) (event_lines words e) (event_text e) b c held held_then
    → HasPrintedTo words file next a c held_then (status_after ended e)
printed-event words file place next a b c held held_then ended e x h on passed gives = record {
  events = h.events ++ piece_of e ∷ [];
  walked = walked-on false (MaySkip words.most) file place next h.events (piece_of e ∷ []) h.walked on passed;
  went = record {
    passed = h.went.passed ++ gives.passed;
    parts = puts-on words h.events e h.went.passed held h.went.parts
        ∙ ap (λ (ps : List Put). h.went.passed ++ ps) gives.parts
        ∙ sym (append_assoc h.went.passed gives.passed (puts_to Out held_then));
    went = GoOut-append a b c h.went.passed gives.passed h.went.went gives.went;
  };
  status = status-event (regions_in h.events) ended e h.status
      ∙ sym (ap (λ (rs : List Region). walk_status rs None) (regions_in-append h.events (piece_of e ∷ [])));
}

-- standard output failed to take its lines
pub event-unprinted : (X : Type 0) (words : RecoverWords) (file : List ℕ) (place next : ℕ) (a b c : Taken) (held held_then : List ℕ) (ended : Status)
    (e : Event) → length file ≤ most_file_bytes → HasPrintedTo words file place a b held ended → GoesOn false file place next (piece_of e ∷ [])
    → MaySkipEach words.most (piece_of e ∷ [])
    → PrintsEvent {X = X} (Err (end.Cut cut.Out)) (event_lines words e) (event_text e) b c held held_then → held_then ≡ []
    → (answer : Answer) → OfFile (IsRecovered words) (file ∷ []) answer → HasBrokenOff Out a c held_then answer
event-unprinted X words file place next a b c held held_then ended e short h on passed (count, within, gives) none answer is =
    let more = puts-front words file next (h.events ++ piece_of e ∷ []) answer short
    (walked-on false (MaySkip words.most) file place next h.events (piece_of e ∷ []) h.walked on passed) is in
    let front = puts-front words file place h.events answer short h.walked is in
    let bytes : List ℕ = held ++ event_lines words e in
    let text : List Put = puts_to Notes (event_text e) in
    let broken : List Put = puts_to Out (take count bytes) in
    record {
      none_held = none;
      part = h.went.passed ++ broken;
      broke = subst (λ (ps : List Put). BreaksOff Out (h.went.passed ++ broken) ps)
          (sym (more.1 ∙ ap (λ (ps : List Put). ps ++ more.0) (puts-on words h.events e h.went.passed held h.went.parts)))
          (BreaksOff-longer Out (h.went.passed ++ broken) (h.went.passed ++ (puts_to Out bytes ++ text)) more.0
          (BreaksOff-behind Out h.went.passed broken (puts_to Out bytes ++ text)
          (BreaksOff-longer Out broken (puts_to Out bytes) text (BreaksOff-last Out [] bytes count within))));
      lines = PutsLines-same (h.went.passed ++ broken) (puts_of words h.events) answer.puts
          (sym (notes-passed (h.went.passed ++ broken) h.went.passed (take count bytes) refl)
          ∙ notes-passed (puts_of words h.events) h.went.passed held h.went.parts)
          (lines-front words h.events front.0 answer.puts front.1);
      went = GoOut-append a b c h.went.passed broken h.went.went gives;
    }

-- notes failed to take its text
pub event-untold : (X : Type 0) (words : RecoverWords) (file : List ℕ) (place next : ℕ) (a b c : Taken) (held held_then : List ℕ) (ended : Status)
    (e : Event) → length file ≤ most_file_bytes → HasPrintedTo words file place a b held ended → GoesOn false file place next (piece_of e ∷ [])
    → MaySkipEach words.most (piece_of e ∷ [])
    → PrintsEvent {X = X} (Err (end.Cut cut.Notes)) (event_lines words e) (event_text e) b c held held_then
    → (answer : Answer) → OfFile (IsRecovered words) (file ∷ []) answer → FailedToSay a c answer
event-untold X words file place next a b c held held_then ended e short h on passed (count, within, gives) answer is =
    let more = puts-front words file next (h.events ++ piece_of e ∷ []) answer short
    (walked-on false (MaySkip words.most) file place next h.events (piece_of e ∷ []) h.walked on passed) is in
    let lines : List Put = puts_to Out (held ++ event_lines words e) in
    let broken : List Put = puts_to Notes (take count (event_text e)) in
    record {
      part = h.went.passed ++ (lines ++ broken);
      broke = subst (λ (ps : List Put). BreaksOff Notes (h.went.passed ++ (lines ++ broken)) ps)
          (sym (more.1 ∙ ap (λ (ps : List Put). ps ++ more.0) (puts-on words h.events e h.went.passed held h.went.parts)))
          (BreaksOff-longer Notes (h.went.passed ++ (lines ++ broken)) (h.went.passed ++ (lines ++ puts_to Notes (event_text e))) more.0
          (BreaksOff-behind Notes h.went.passed (lines ++ broken) (lines ++ puts_to Notes (event_text e))
          (BreaksOff-last Notes lines (event_text e) count within)));
      went = GoOut-append a b c h.went.passed (lines ++ broken) h.went.went gives;
    }

-- what notes took of an event
pub event-said : (b c : Taken) (lines text held : List ℕ) → GoOutOrAreHeld b c Out (puts_to Out lines ++ puts_to Notes text) held → Takes b.notes c.notes text
event-said b c lines text held h =
    subst (λ (t : List ℕ). Takes b.notes c.notes t)
    (notes-passed (puts_to Out lines ++ puts_to Notes text) h.passed held h.parts ∙ bytes_to-second Out Notes lines text refl) h.went.notes

pub event-unsaid : (b c : Taken) (lines : List ℕ) → GoOut b c (puts_to Out lines) → Takes b.notes c.notes []
event-unsaid b c lines h = subst (λ (t : List ℕ). Takes b.notes c.notes t) (bytes_to-other Notes Out lines refl) h.notes

pub event-front : (b c : Taken) (lines text : List ℕ) (count : ℕ) → count < length text
    → GoOut b c (puts_to Out lines ++ puts_to Notes (take count text)) → TakesShort b.notes c.notes text
event-front b c lines text count within h =
    (count, within, subst (λ (t : List ℕ). Takes b.notes c.notes t) (bytes_to-second Out Notes lines (take count text) refl) h.notes)

-- what was told of regions, and of one event more
pub told-event : (most : Option ℕ) (l m n : Option (List ℕ)) (skipped : List Region) (e : Event) → HasToldOf most l m skipped → MaySkipEach most (piece_of e ∷ [])
    → Takes m n (event_text e) → HasToldOf most l n (skipped ++ regions_in (piece_of e ∷ []))
told-event most l m n skipped e h passed more = record {
  may = each_append (MaySkip most) skipped (regions_in (piece_of e ∷ [])) h.may passed;
  says = subst (λ (t : List ℕ). Takes l n t) (sym (skipped_text-event skipped e))
      (Takes-append l m n (skipped_text skipped) (event_text e) h.says more);
}

-- or of none
pub told-still : (most : Option ℕ) (l m n : Option (List ℕ)) (skipped : List Region) → HasToldOf most l m skipped → Takes m n [] → HasToldOf most l n skipped
told-still most l m n skipped h none = record {
  may = h.may;
  says = subst (λ (t : List ℕ). Takes l n t) (append-nil (skipped_text skipped)) (Takes-append l m n (skipped_text skipped) [] h.says none);
}

pub told-front : (most : Option ℕ) (l m n : Option (List ℕ)) (skipped : List Region) (e : Event) → HasToldOf most l m skipped → MaySkipEach most (piece_of e ∷ [])
    → TakesShort m n (event_text e) → (all : List Region) × AllByRecursion (MaySkip most) all × TakesShort l n (skipped_text all)
told-front most l m n skipped e h passed more = (
  skipped ++ regions_in (piece_of e ∷ []),
  each_append (MaySkip most) skipped (regions_in (piece_of e ∷ [])) h.may passed,
  subst (λ (t : List ℕ). TakesShort l n t) (sym (skipped_text-event skipped e))
      (TakesShort-append l m n (skipped_text skipped) (event_text e) h.says more),
)
