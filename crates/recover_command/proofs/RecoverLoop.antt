-- How the loop of `show` gets on past damage, where the file may show its bytes.
use Rattle.std.proofs.Common.{◌≡◌, ◌∙◌, ℕ, ◌-◌, ◌^◌, ◌≤◌, ◌⊎◌, Bool, true, false, Option, Some, None, Result, Ok, Err, IfSome, List, [], ◌∷◌, ◌++◌, length, take, refl, sym, ap, subst, inl, inr, arith}
use Rattle.std.specs.Fn.{Shared, FnReturnsAt}
use denote.Ref.{Bor}
use Rattle.std.specs.Result.{IsErr, IsErrAnd}
use Rattle.chunk_header.specs.Views.{value_of_chunk}
use Rattle.meta_chunk.specs.Laid.{end_of_chunk}
use Rattle.chunk_reader.proofs.ReadingSteps.{totals_with_chunk-room}
use Rattle.record_values.specs.Bytes.{AreBytes}
use Rattle.record_io.specs.Puts.{Out, Taken}
use Rattle.record_io.proofs.Puts.{GoOut-nothing, GoOutOrAreHeld-none}
use Rattle.damage_skip.specs.Bounds.{may_skip, MaySkip}
use Rattle.damage_skip.proofs.WalkedTo.{walked-none, walked-further, walked-on}
use Rattle.damage_skip.proofs.BoundedWalks.{MaySkipEach}
use Rattle.damage_skip.specs.Regions.{regions_in}
use Rattle.damage_skip.specs.Pieces.{Piece, records_of}
use Rattle.damage_skip.specs.Steps.{kept_as}
use Rattle.damage_skip.specs.declared.progress.Progress.{Progress}
use Rattle.damage_skip.proofs.KeptChunks.{kept_none}
use Rattle.damage_skip.specs.Takings.{IsTakenFrom, IsTakenUpTo, IsTakenByWalk}
use Rattle.damage_skip.proofs.Takings.{up_to-none}
use Rattle.damage_skip.proofs.WalkTakings.{by_walk-passed}
use Rattle.damage_skip.specs.Walks.{piece_of, events_of, GoesOn, IsStoppedAt, IsStop, IsEventIn, event_text}
use Rattle.recover_command.proofs.RecoverSteps.{by_stream, printed-front, printed-so_far, printed-whole, printed-stopped, printed-on, printed-event, event-unprinted, event-untold, event-passed, event-said, event-unsaid, event-front, told-event, told-still, told-front, status-event}
use Rattle.recover_command.specs.RecoverProgress.{IsPrintable, end_of_walk, event_lines, status_after, PrintsEvent, HasPrintedTo}
use Rattle.recover_command.specs.WalkAnswers.{walk_status}
use Rattle.damage_skip.specs.declared.events.Event.{Event}
use Rattle.damage_skip.specs.declared.events.WalkEnd.{WalkEnd}
use Rattle.damage_skip.specs.declared.regions.Region.{Region}
use Rattle.recover_command.specs.declared.recover_words.RecoverWords.{RecoverWords}
use Rattle.command_frame.specs.declared.status.Status.{Status}
use Rattle.command_frame.specs.declared.ending.Ending.{Ending}
use Rattle.command_frame.specs.Answers.{Answer}
use Rattle.command_frame.specs.FileAnswers.{OfFile, most_file_bytes}
use Rattle.recover_command.specs.RecoverCommand.{IsRecovered, IsRecoveredSoFar}
use Rattle.command_frame.specs.PutSoFar.{HasPut, HasPutSoFar, HasPutFront}
use Rattle.command_frame.specs.Endings.{CutsReadingOff, HasPutToCut, HasPutAtEnd}
use Rattle.recover_command.specs.WalkingEnds.{walk_ends, IsBound, HasToldOf, TellsOf}
use Rattle.command_frame.proofs.FileEnds.{some-answer}
use Rattle.recover_command.proofs.OneRecovery.{recovered_exists}
use Rattle.damage_skip.specs.declared.events.Event.TheVariants as event
use Rattle.damage_skip.specs.declared.events.WalkEnd.TheVariants as walk
use Rattle.command_frame.specs.declared.status.Status.TheVariants as status
use Rattle.record_io.specs.declared.cut.Cut.TheVariants as cut
use Rattle.command_frame.specs.declared.ending.Ending.TheVariants as end

-- nothing was given yet
pub printed-none : (words : RecoverWords) (bytes : Option (List ℕ)) (place : ℕ) (taken : Taken) (held : List ℕ)
    → place ≡ 0 → held ≡ [] → IfSome bytes (λ f. HasPrintedTo words f place taken taken held status.Ok)
printed-none words None place taken held front none = tt
printed-none words (Some f) place taken held front none =
    subst (λ (p : ℕ). HasPrintedTo words f p taken taken held status.Ok) (sym front)
    (subst (λ (h : List ℕ). HasPrintedTo words f 0 taken taken h status.Ok) (sym none)
    (record {
      events = [];
      walked = walked-none false (MaySkip words.most) f;
      went = GoOutOrAreHeld-none taken taken Out [] (GoOut-nothing taken);
      status = refl;
    }))

pub recovered-none : (words : RecoverWords) (before after : ℕ) → after ≡ before → (f : List ℕ) → IsRecoveredSoFar words before after f []
recovered-none words before after same f = record {
  place = 0;
  events = [];
  walked = walked-none false (MaySkip words.most) f;
  puts = refl;
  taken = up_to-none false f (after - before) (omega (arith, same));
}

-- what is told of the same bytes
pub goes-same : (a b : Option (List ℕ)) (unread_ok : Bool) (place next : ℕ) (result known : Result (Option Event) WalkEnd) → a ≡ b → unread_ok ≡ false → result ≡ known
    → IfSome a (λ f. GoesOn unread_ok f place next (events_of result)) → IfSome b (λ f. GoesOn false f place next (events_of known))
goes-same a b unread_ok place next result known same not_kept is h =
    subst (λ (r : Result (Option Event) WalkEnd). IfSome b (λ f. GoesOn false f place next (events_of r))) is
    (subst (λ (x : Option (List ℕ)). IfSome x (λ f. GoesOn false f place next (events_of result))) same
    (subst (λ (k : Bool). IfSome a (λ f. GoesOn k f place next (events_of result))) not_kept h))

pub stop-same : (a b : Option (List ℕ)) (unread_ok unread_ok_then : Bool) (next : ℕ) (stopped : Option Region) (region : Region) → a ≡ b → unread_ok_then ≡ unread_ok → unread_ok ≡ false → stopped ≡ Some region
    → IfSome a (λ f. IsStoppedAt unread_ok_then f next stopped) → IfSome b (λ f. IsStoppedAt false f next (Some region))
stop-same a b unread_ok unread_ok_then next stopped region same kept not_kept is h =
    subst (λ (s : Option Region). IfSome b (λ f. IsStoppedAt false f next s)) is
    (subst (λ (x : Option (List ℕ)). IfSome x (λ f. IsStoppedAt false f next stopped)) same
    (subst (λ (k : Bool). IfSome a (λ f. IsStoppedAt k f next stopped)) (kept ∙ not_kept) h))

-- an event of a walk that decodes records may be printed
pub event-room : (at : Progress) (to size : ℕ) (e : Event) → IsEventIn at to e → at.decodes ≡ true → to ≤ size → size ≤ 2 ^ 60 → IsPrintable e
event-room at to size (event.Records begin records chunk) h decodes within reach =
    let last = totals_with_chunk-room (record { chunks = 0; records = 0; bytes = begin; unread = 0 }) (end_of_chunk begin (value_of_chunk chunk)) (value_of_chunk chunk) refl in
    record { positions = omega (arith, last, h.intact.1.num_records, h.to_place, within, reach); kept_none = λ kept. absurd kept }
event-room at to size (event.Kept begin chunk unread) h decodes within reach =
    let none : records_of (kept_as (value_of_chunk chunk)) ≡ [] = kept_none (value_of_chunk chunk) (h.intact.2 decodes) in
    record { positions = omega (arith, h.rises, h.to_place, within, reach, ap {B = ℕ} length none); kept_none = λ kept. none }
event-room at to size (event.Skipped region) h decodes within reach =
    record { positions = omega (arith, h.rises, h.to_place, within, reach); kept_none = λ kept. absurd kept }

-- and is not refused
pub event-allowed : {F : Type 0} (g : Shared F (Bor Region × Unit {0}) Bool) (f : F) (most : Option ℕ) (at : Progress) (to size : ℕ) (e : Event)
    → IsEventIn at to e → to ≤ size → size ≤ 2 ^ 60 → ((region : Region) → e ≡ event.Skipped region → FnReturnsAt g f region true)
    → IsBound g f most → MaySkipEach most (piece_of e ∷ [])
event-allowed g f most at to size e h within reach asked bound =
    event-passed most e (λ region is.
    let there : IsEventIn at to (event.Skipped region) = subst (IsEventIn at to) is h in
    sym (bound region true
    (record { ordered = omega (arith, there.rises); in_reach = omega (arith, there.to_place, within, reach) })
    (asked region is)))

-- the bound of the same test
pub bound-same : {F : Type 0} (g : Shared F (Bor Region × Unit {0}) Bool) (f known : F) (most : Option ℕ) → f ≡ known → IsBound g known most → IsBound g f most
bound-same {F} g f known most same bound = subst (λ (t : F). IsBound g t most) (sym same) bound

-- where a walk stops it is refused
pub stop-refused : {F : Type 0} (g : Shared F (Bor Region × Unit {0}) Bool) (f : F) (most : Option ℕ) (size place : ℕ) (region : Region)
    → IsStop size place region → size ≤ 2 ^ 60 → FnReturnsAt g f region false → IsBound g f most → may_skip most region ≡ false
stop-refused g f most size place region h reach asked bound =
    sym (bound region false
    (record { ordered = omega (arith, h.begin, h.onward.past); in_reach = omega (arith, h.onward.within, reach) }) asked)

-- one event more was given
pub step-printed : (words : RecoverWords) (bytes : Option (List ℕ)) (place next : ℕ) (a b c : Taken) (held held_then : List ℕ) (ended : Status)
    (e : Event) (then : Status) → then ≡ status_after ended e
    → IfSome bytes (λ f. HasPrintedTo words f place a b held ended) → IfSome bytes (λ f. GoesOn false f place next (piece_of e ∷ []))
    → MaySkipEach words.most (piece_of e ∷ []) → PrintsEvent {X = Status} (Ok then) (event_lines words e) (event_text e) b c held held_then
    → IfSome bytes (λ f. HasPrintedTo words f next a c held_then then)
step-printed words None place next a b c held held_then ended e then is h on passed gives = tt
step-printed words (Some f) place next a b c held held_then ended e then is h on passed gives =
    subst (λ (s : Status). HasPrintedTo words f next a c held_then s) (sym is)
    (printed-event words f place next a b c held held_then ended e then h on passed gives)

pub step-told : (words : RecoverWords) (l : Option (List ℕ)) (b c : Taken) (held held_then : List ℕ) (ended : Status) (e : Event) (then : Status)
    → then ≡ status_after ended e
    → (skipped : List Region) × HasToldOf words.most l b.notes skipped × (ended ≡ walk_status skipped None)
    → MaySkipEach words.most (piece_of e ∷ []) → PrintsEvent {X = Status} (Ok then) (event_lines words e) (event_text e) b c held held_then
    → (skipped : List Region) × HasToldOf words.most l c.notes skipped × (then ≡ walk_status skipped None)
step-told words l b c held held_then ended e then same (skipped, told, is) passed gives = (
  skipped ++ regions_in (piece_of e ∷ []),
  told-event words.most l b.notes c.notes skipped e told passed (event-said b c (held ++ event_lines words e) (event_text e) held_then gives),
  same ∙ status-event skipped ended e is,
)

-- or it failed to be
pub step-failed : (X : Type 0) (words : RecoverWords) (bytes : Option (List ℕ)) (place next : ℕ) (a b c : Taken) (held held_then : List ℕ) (ended : Status)
    (e : Event) (failed : Ending Region) (result : Result Status (Ending Region)) → IsErr result → IsErrAnd result (λ end. end ≡ failed)
    → IfSome bytes (λ f. length f ≤ most_file_bytes)
    → IfSome bytes (λ f. HasPrintedTo words f place a b held ended) → IfSome bytes (λ f. GoesOn false f place next (piece_of e ∷ []))
    → MaySkipEach words.most (piece_of e ∷ []) → PrintsEvent {X = X} (Err failed) (event_lines words e) (event_text e) b c held held_then
    → held_then ≡ []
    → IfSome bytes (λ f. HasPutAtEnd walk_ends (IsRecovered words) result f a c held_then)
step-failed X words None place next a b c held held_then ended e failed result err is short h on passed gives none = tt
step-failed X words (Some f) place next a b c held held_then ended e failed (Ok x) err is short h on passed gives none = absurd (cc err)
step-failed X words (Some f) place next a b c held held_then ended e failed (Err result) err is short h on passed gives none =
    subst (λ (x : Ending Region). HasPutAtEnd walk_ends (IsRecovered words) (Err x) f a c held_then) (sym is)
    (by_stream X (λ x. HasPutAtEnd walk_ends (IsRecovered words) (Err x) f a c held_then) failed (event_lines words e) (event_text e) b c held held_then gives
    (λ gave.
    some-answer (IsRecovered words) (recovered_exists words) (HasPutToCut cut.Out a c held_then) f
    (event-unprinted X words f place next a b c held held_then ended e short h on passed gave none))
    (λ gave.
    some-answer (IsRecovered words) (recovered_exists words) (HasPutToCut cut.Notes a c held_then) f
    (λ answer is. (none, event-untold X words f place next a b c held held_then ended e short h on passed gave answer is))))

pub step-untold : (X : Type 0) (words : RecoverWords) (l : Option (List ℕ)) (b c : Taken) (held held_then : List ℕ) (ended : Status)
    (e : Event) (failed : Ending Region) (result : Result Status (Ending Region)) → IsErr result → IsErrAnd result (λ end. end ≡ failed)
    → (skipped : List Region) × HasToldOf words.most l b.notes skipped × (ended ≡ walk_status skipped None)
    → MaySkipEach words.most (piece_of e ∷ []) → PrintsEvent {X = X} (Err failed) (event_lines words e) (event_text e) b c held held_then
    → TellsOf words.most result l c.notes
step-untold X words l b c held held_then ended e failed (Ok x) err is told passed gives = absurd (cc err)
step-untold X words l b c held held_then ended e failed (Err result) err is (skipped, told, status) passed gives =
    subst (λ (x : Ending Region). TellsOf words.most (Err x) l c.notes) (sym is)
    (by_stream X (λ x. TellsOf words.most (Err x) l c.notes) failed (event_lines words e) (event_text e) b c held held_then gives
    (λ gave.
    (skipped, told-still words.most l b.notes c.notes skipped told (event-unsaid b c (take gave.0 (held ++ event_lines words e)) gave.2)))
    (λ gave.
    told-front words.most l b.notes c.notes skipped e told passed (event-front b c (held ++ event_lines words e) (event_text e) gave.0 gave.1 gave.2)))

-- which is by a stream
abbrev Ended : Ending Region → Result Status (Ending Region)
Ended why = Err why

abbrev IsByStream : Ending Region → Type 0
IsByStream why = (Ended why ≡ Err (end.Cut cut.Out)) ⊎ (Ended why ≡ Err (end.Cut cut.Notes))

pub step-by : (X : Type 0) (failed : Ending Region) (lines text : List ℕ) (b c : Taken) (held held_then : List ℕ) (result : Result Status (Ending Region))
    → IsErr result → IsErrAnd result (λ end. end ≡ failed) → PrintsEvent {X = X} (Err failed) lines text b c held held_then
    → (result ≡ Err (end.Cut cut.Out)) ⊎ (result ≡ Err (end.Cut cut.Notes))
step-by X failed lines text b c held held_then (Ok x) err is gives = absurd (cc err)
step-by X failed lines text b c held held_then (Err why) err is gives =
    subst (λ (x : Ending Region). IsByStream x) (sym is)
    (by_stream X IsByStream failed lines text b c held held_then gives (λ gave. inl refl) (λ gave. inr refl))

-- and not by what is read
pub step-not_reading_cut_off : (result : Result Status (Ending Region)) → (result ≡ Err (end.Cut cut.Out)) ⊎ (result ≡ Err (end.Cut cut.Notes)) → ¬ IsErrAnd result CutsReadingOff
step-not_reading_cut_off result (inl out) short = subst (λ (r : Result Status (Ending Region)). IsErrAnd r CutsReadingOff) out short
step-not_reading_cut_off result (inr notes) short = subst (λ (r : Result Status (Ending Region)). IsErrAnd r CutsReadingOff) notes short

-- the walk ended before the file
pub step-ended : (words : RecoverWords) (bytes : Option (List ℕ)) (place next size size_then : ℕ) (a b : Taken) (held : List ℕ) (ended : Status)
    (e : WalkEnd) (why : Ending Region) → why ≡ end_of_walk e
    → size ≤ most_file_bytes → IfSome bytes (λ f. size ≡ length f) → size_then ≡ size
    → IfSome bytes (λ f. HasPrintedTo words f place a b held ended) → IfSome bytes (λ f. GoesOn false f place next (events_of (Err e)))
    → ((region : Region) → e ≡ walk.Stopped region → IsStop size_then next region × (may_skip words.most region ≡ false) × IfSome bytes (λ f. IsStoppedAt false f next (Some region)))
    → IfSome bytes (λ f. HasPutAtEnd walk_ends (IsRecovered words) (Err why) f a b held)
step-ended words None place next size size_then a b held ended e why is short exact same h on stops = tt
step-ended words (Some f) place next size size_then a b held ended e why is short exact same h on stops =
    subst (λ (x : Ending Region). HasPutAtEnd walk_ends (IsRecovered words) (Err x) f a b held) (sym is) (by_end e on stops) where
      front : AreBytes f → (answer : Answer) × OfFile (IsRecovered words) (f ∷ []) answer × HasPutFront a b held answer
      front =
          some-answer (IsRecovered words) (recovered_exists words) (HasPutFront a b held) f
          (printed-front words f place a b held ended (omega (arith, short, exact)) h)

      by_end : (e : WalkEnd) → GoesOn false f place next (events_of (Err e))
          → ((region : Region) → e ≡ walk.Stopped region → IsStop size_then next region × (may_skip words.most region ≡ false) × IsStoppedAt false f next (Some region))
          → HasPutAtEnd walk_ends (IsRecovered words) (Err (end_of_walk e)) f a b held
      by_end (walk.Stopped region) on stops =
          let stop = stops region refl in
          printed-stopped words f next a b held ended region (omega (arith, short, exact))
          (printed-on words f place next a b held ended h on)
          stop.2.0 stop.2.1 stop.2.2 stop.1
      by_end walk.Store on stops = front
      by_end walk.Memory on stops = front

pub step-said : (words : RecoverWords) (l m : Option (List ℕ)) (ended : Status) (e : WalkEnd) (why : Ending Region) → why ≡ end_of_walk e
    → (skipped : List Region) × HasToldOf words.most l m skipped × (ended ≡ walk_status skipped None)
    → ((region : Region) → e ≡ walk.Stopped region → may_skip words.most region ≡ false)
    → TellsOf words.most (Err why) l m
step-said words l m ended e why is (skipped, told, status) stops =
    subst (λ (x : Ending Region). TellsOf words.most (Err x) l m) (sym is) (by_end e stops) where
      by_end : (e : WalkEnd) → ((region : Region) → e ≡ walk.Stopped region → may_skip words.most region ≡ false)
          → TellsOf words.most (Err (end_of_walk e)) l m
      by_end (walk.Stopped region) stops = (skipped, told, stops region refl)
      by_end walk.Store stops = (skipped, told)
      by_end walk.Memory stops = (skipped, told)

pub step-so_far : (words : RecoverWords) (bytes : Option (List ℕ)) (place next : ℕ) (a b : Taken) (held : List ℕ) (ended : Status) (e : WalkEnd)
    (start now : ℕ) → IfSome bytes (λ f. HasPrintedTo words f place a b held ended) → IfSome bytes (λ f. GoesOn false f place next (events_of (Err e)))
    → IfSome bytes (λ f. IsTakenUpTo false f 0 next (now - start))
    → IfSome bytes (λ f. HasPutSoFar (IsRecoveredSoFar words start now f) a b held)
step-so_far words None place next a b held ended e start now h on taken = tt
step-so_far words (Some f) place next a b held ended e start now h on taken =
    printed-so_far words f next a b held ended start now (printed-on words f place next a b held ended h on) taken

-- what was taken where the walk ended before the file, and where these events were met
pub step-stood : (words : RecoverWords) (bytes : Option (List ℕ)) (place next : ℕ) (a b : Taken) (held : List ℕ) (ended : Status) (e : WalkEnd) (taken : ℕ)
    → IfSome bytes (λ f. HasPrintedTo words f place a b held ended) → IfSome bytes (λ f. GoesOn false f place next (events_of (Err e)))
    → IfSome bytes (λ f. IsTakenUpTo false f 0 next taken)
    → IfSome bytes (λ f. IsTakenByWalk false (MaySkip words.most) f taken)
step-stood words None place next a b held ended e taken h on account = tt
step-stood words (Some f) place next a b held ended e taken h on account = record {
  place = next;
  events = h.events;
  walked = walked-further false (MaySkip words.most) f place next h.events h.walked on;
  account = account;
}

pub step-passed : (words : RecoverWords) (bytes : Option (List ℕ)) (place next : ℕ) (a b : Taken) (held : List ℕ) (ended : Status) (events : List Piece) (taken : ℕ)
    → MaySkipEach words.most events
    → IfSome bytes (λ f. HasPrintedTo words f place a b held ended) → IfSome bytes (λ f. GoesOn false f place next events)
    → IfSome bytes (λ f. IsTakenFrom false f 0 next taken)
    → IfSome bytes (λ f. IsTakenByWalk false (MaySkip words.most) f taken)
step-passed words None place next a b held ended events taken each h on account = tt
step-passed words (Some f) place next a b held ended events taken each h on account =
    by_walk-passed false (MaySkip words.most) f next (h.events ++ events) taken
    (walked-on false (MaySkip words.most) f place next h.events events h.walked on each) account

-- the file's end was come to
pub step-done : (words : RecoverWords) (bytes : Option (List ℕ)) (place next size : ℕ) (a b : Taken) (held : List ℕ) (ended : Status)
    → size ≤ most_file_bytes → IfSome bytes (λ f. size ≡ length f) → next ≡ size
    → IfSome bytes (λ f. HasPrintedTo words f place a b held ended) → IfSome bytes (λ f. GoesOn false f place next [])
    → IfSome bytes (λ f. HasPut (IsRecovered words) f a b held [] ended)
step-done words None place next size a b held ended short exact end h on = tt
step-done words (Some f) place next size a b held ended short exact end h on =
    printed-whole words f a b held ended (omega (arith, short, exact))
    (subst (λ (p : ℕ). HasPrintedTo words f p a b held ended) (end ∙ exact) (printed-on words f place next a b held ended h on))
