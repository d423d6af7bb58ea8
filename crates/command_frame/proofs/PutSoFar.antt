-- What a command has put of one file, where what it holds goes out or fails to.
use Rattle.std.proofs.Common.{◌≡◌, ◌∙◌, ℕ, Option, Some, None, Result, Ok, Err, List, [], ◌∷◌, ◌++◌, refl, sym, ap, subst, IfSome}
use Rattle.std.specs.Result.{IsErrAnd}
use Rattle.std.proofs.lemmas.List.{append_assoc}
use Rattle.std.proofs.lemmas.Option.{MatchOption-at_some}
use Rattle.record_io.specs.Outside.{Takes, TakesShort}
use Rattle.record_io.specs.Puts.{Stream, Put, Out, Notes, Taken, taken_by, BreaksOff, puts_to, bytes_to}
use Rattle.record_io.proofs.Puts.{GoOut-nothing, GoOutOrAreHeld-none, GoOut-none_held, GoOut-flushed, GoOut-unflushed, BreaksOff-longer, BreaksOff-front}
use Rattle.command_frame.specs.declared.status.Status.{Status}
use Rattle.command_frame.specs.Answers.{Answer, noted}
use Rattle.command_frame.specs.FileAnswers.{OfFile}
use Rattle.command_frame.specs.RunLeaves.{FailedToSay, PutsLines}
use Rattle.command_frame.specs.PutSoFar.{HasPut, HasPutSoFar, HasPutFront, HasBrokenOff}
use Rattle.command_frame.proofs.RunEnds.{GaveButNotes, PutsLines-none}

-- nothing was put yet
pub front-nothing : (taken : Taken) (answer : Answer) → HasPutFront taken taken [] answer
front-nothing taken answer = record {
  part = [];
  rest = answer.puts;
  parts = refl;
  lines = PutsLines-none [] answer.puts refl;
  went = GoOutOrAreHeld-none taken taken Out [] (GoOut-nothing taken);
}

pub noted-nothing : (P : List ℕ → Answer → Type 0) (file : List ℕ) (taken : Taken) (ended : Status) (text : List ℕ)
    → OfFile P (file ∷ []) (noted ended text) → HasPut P file taken taken [] text ended
noted-nothing P file taken ended text is = record {
  answer = noted ended text;
  is = is;
  puts = [];
  whole = refl;
  lines = PutsLines-none [] (puts_to Notes text) refl;
  went = GoOutOrAreHeld-none taken taken Out [] (GoOut-nothing taken);
  status = refl;
}

pub so_far-nothing : (P : List ℕ → List Put → Type 0) (bytes : Option (List ℕ)) (taken : Taken) → ((f : List ℕ) → P f [])
    → IfSome bytes (λ f. HasPutSoFar (P f) taken taken [])
so_far-nothing P None taken none = tt
so_far-nothing P (Some f) taken none =
    record { part = []; is = none f; went = GoOutOrAreHeld-none taken taken Out [] (GoOut-nothing taken) }

-- what holds of the error that was passed on
pub IsErrAnd-same : {X E : Type 0} (P : E → Type 0) (why : E) (result : Result X E) → IsErrAnd result (λ made. made ≡ why) → IsErrAnd result P → P why
IsErrAnd-same P why (Ok x) is h = absurd h
IsErrAnd-same P why (Err made) is h = subst P is h

-- of what is put in notes by what puts the same there
pub PutsLines-same : (part puts all : List Put) → bytes_to Notes part ≡ bytes_to Notes puts → PutsLines puts all → PutsLines part all
PutsLines-same part puts all same h = record { count = h.count; lines = same ∙ h.lines }

module _ (a : Taken) (made b c notes : Option (List ℕ)) (held : List ℕ) where
  -- what the sinks took before what is held goes out, and then
  abbrev Unflushed : Taken
  Unflushed = taken_by made b notes

  abbrev Flushed : Taken
  Flushed = taken_by made c notes

  -- it goes out
  pub whole-flushed : (P : List ℕ → Answer → Type 0) (f last : List ℕ) (ended : Status)
      → HasPut P f a Unflushed held last ended → Takes b c held → HasPut P f a Flushed [] last ended
  whole-flushed P f last ended h out = record {
    answer = h.answer;
    is = h.is;
    puts = h.puts;
    whole = h.whole;
    lines = h.lines;
    went = GoOutOrAreHeld-none a Flushed Out h.puts (GoOut-flushed a made b c notes h.puts held h.went out);
    status = h.status;
  }

  pub front-flushed : (answer : Answer) → HasPutFront a Unflushed held answer → Takes b c held → HasPutFront a Flushed [] answer
  front-flushed answer h out = record {
    part = h.part;
    rest = h.rest;
    parts = h.parts;
    lines = h.lines;
    went = GoOutOrAreHeld-none a Flushed Out h.part (GoOut-flushed a made b c notes h.part held h.went out);
  }

  -- nothing is held of what broke off
  pub broken-flushed : (s : Stream) (answer : Answer) → HasBrokenOff s a Unflushed held answer → Takes b c held → HasBrokenOff s a Flushed [] answer
  broken-flushed s answer h out = record {
    none_held = refl;
    part = h.part;
    broke = h.broke;
    lines = h.lines;
    went = GoOut-flushed a made b c notes h.part []
        (GoOutOrAreHeld-none a Unflushed Out h.part h.went) (subst (λ (xs : List ℕ). Takes b c xs) h.none_held out);
  }

  -- nor of what notes failed to take
  pub untold-flushed : (answer : Answer) → held ≡ [] → FailedToSay a Unflushed answer → Takes b c held → FailedToSay a Flushed answer
  untold-flushed answer none h out = record {
    part = h.part;
    broke = h.broke;
    went = GoOut-flushed a made b c notes h.part []
        (GoOutOrAreHeld-none a Unflushed Out h.part h.went) (subst (λ (xs : List ℕ). Takes b c xs) none out);
  }

  -- or standard output fails
  pub whole-unflushed : (P : List ℕ → Answer → Type 0) (f last : List ℕ) (ended : Status)
      → HasPut P f a Unflushed held last ended → TakesShort b c held
      → (answer : Answer) × OfFile P (f ∷ []) answer × HasBrokenOff Out a Flushed [] answer
  whole-unflushed P f last ended h out =
      let broken = GoOut-unflushed a made b c notes h.puts held h.went out in (
        h.answer,
        h.is,
        record {
          none_held = refl;
          part = broken.0;
          broke = subst (λ (ps : List Put). BreaksOff Out broken.0 ps) (sym h.whole)
              (BreaksOff-longer Out broken.0 h.puts (puts_to Notes last) broken.1);
          lines = PutsLines-same broken.0 h.puts h.answer.puts broken.3 h.lines;
          went = broken.2;
        },
      )

  pub front-unflushed : (answer : Answer) → HasPutFront a Unflushed held answer → TakesShort b c held → HasPutFront a Flushed [] answer
  front-unflushed answer h out =
      let broken = GoOut-unflushed a made b c notes h.part held h.went out in
      let front = BreaksOff-front Out broken.0 h.part broken.1 in
      record {
        part = broken.0;
        rest = front.0 ++ h.rest;
        parts = h.parts ∙ ap (λ (ps : List Put). ps ++ h.rest) front.1 ∙ append_assoc broken.0 front.0 h.rest;
        lines = PutsLines-same broken.0 h.part answer.puts broken.3 h.lines;
        went = GoOutOrAreHeld-none a Flushed Out broken.0 broken.2;
      }

-- what was put so far and is held goes out
pub so_far-flushed : (P : List ℕ → List Put → Type 0) (told bytes : Option (List ℕ)) (a : Taken) (made b c notes : Option (List ℕ)) (held : List ℕ)
    → told ≡ bytes → IfSome told (λ f. HasPutSoFar (P f) a (taken_by made b notes) held) → Takes b c held
    → IfSome bytes (λ f. HasPutSoFar (P f) a (taken_by made c notes) [])
so_far-flushed P told None a made b c notes held same h out = tt
so_far-flushed P told (Some f) a made b c notes held same h out =
    let put = MatchOption-at_some _ (λ (x : List ℕ). HasPutSoFar (P x) a (taken_by made b notes) held) f same h in
    record {
      part = put.part;
      is = put.is;
      went = GoOutOrAreHeld-none a (taken_by made c notes) Out put.part (GoOut-flushed a made b c notes put.part held put.went out);
    }

-- where nothing is held, all but a last text went out
pub gave-put : (P : List ℕ → Answer → Type 0) (file : List ℕ) (before mid : Taken) (text : List ℕ) (ended : Status)
    (h : HasPut P file before mid [] text ended) → GaveButNotes ended before mid text h.answer
gave-put P file before mid text ended h =
    record { same_status = h.status; puts = h.puts; whole = h.whole; went = GoOut-none_held before mid Out h.puts [] refl h.went }
