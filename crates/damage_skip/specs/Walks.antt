-- Inside. How far a file was walked, and what was given of it. Own.
use Rattle.std.specs.Prelude.{◌≡◌, ℕ, ◌≤◌, ◌<◌, ◌^◌, Bool, true, false, Option, Some, None, Result, Ok, Err, IfSome, ⊤, List, [], ◌∷◌, length}
use Rattle.std.specs.Fn.{Shared, FnReturnsAt}
use denote.Ref.{Bor}
use lib.Chars.{codes}
use Rattle.chunk_header.specs.SimpleChunks.{IsSimple}
use Rattle.chunk_header.specs.Views.{value_of_chunk}
use Rattle.meta_chunk.specs.Files.{is_unread}
use Rattle.meta_chunk.specs.Laid.{end_of_chunk}
use Rattle.chunk_reader.specs.declared.reasons.Why.{Why}
use Rattle.damage_skip.specs.declared.events.Event.{Event}
use Rattle.damage_skip.specs.Takings.{IsTakenFrom, IsTakenUpTo}
use Rattle.damage_skip.specs.declared.events.Event.TheVariants as event
use Rattle.damage_skip.specs.declared.events.WalkEnd.{WalkEnd}
use Rattle.damage_skip.specs.declared.events.WalkEnd.TheVariants as walk
use Rattle.damage_skip.specs.declared.pieces.NextPiece.{NextPiece}
use Rattle.damage_skip.specs.declared.pieces.Found.{Found}
use Rattle.damage_skip.specs.declared.pieces.Found.TheVariants as what
use Rattle.damage_skip.specs.declared.progress.Progress.{Progress}
use Rattle.damage_skip.specs.declared.regions.Region.{Region}
use Rattle.damage_skip.specs.Pieces.{Piece, Records, Skipped, IsPieceOf, AreTiles}
use Rattle.damage_skip.specs.Policies.{IsTest}
use Rattle.damage_skip.specs.Regions.{region_text}
pub use Rattle.damage_skip.specs.Pieces.{GoesOn}
use Rattle.damage_skip.specs.Steps.{IsIntact, IsOnward, KeepsNone, kept_as}

-- the piece that an event tells of
abbrev pub piece_of : Event → Piece
piece_of (event.Records begin records chunk) = record {
  begin = begin;
  end = end_of_chunk begin (value_of_chunk chunk);
  what = Records records (value_of_chunk chunk);
}
piece_of (event.Kept begin chunk unread) = record {
  begin = begin;
  end = end_of_chunk begin (value_of_chunk chunk);
  what = kept_as (value_of_chunk chunk);
}
piece_of (event.Skipped region) = record { begin = region.begin; end = region.end; what = Skipped region.why }

-- the line of an event that is a region; other events have none
abbrev pub event_text : Event → List ℕ
event_text (event.Skipped region) = region_text (codes "skipped") region
event_text other = []

-- the place is the begin of a piece of the file, or its end
abbrev pub IsMet : (unread_ok : Bool) → List ℕ → ℕ → Type 0
IsMet unread_ok file place = (pieces : List Piece) × AreTiles unread_ok file 0 place pieces

-- what a walk has stopped at, if it has, is the piece at its place
abbrev pub IsStoppedAt : (unread_ok : Bool) → List ℕ → ℕ → Option Region → Type 0
IsStoppedAt unread_ok file place stopped =
    IfSome stopped
    (λ region. (region.begin ≡ place) × (place < length file)
    × IsPieceOf unread_ok file place region.end (Skipped region.why))

-- a walk is at the front of a file of so many bytes
pub record IsAtFront (size : ℕ) (unread_ok decodes : Bool) (at : Progress) : Type 0 where
  pub size_is : at.size ≡ size
  pub unread_ok_is : at.unread_ok ≡ unread_ok
  pub decodes_is : at.decodes ≡ decodes
  pub at_front : at.place ≡ 0
  pub going : at.stopped ≡ None

-- a walk stands in a file of the size that was told: at a piece of it or at its end, and where it has stopped, at that region
pub record StandsIn (file : Option (List ℕ)) (told : Option ℕ) (at : Progress) : Type 0 where
  pub size : told ≡ Some at.size
  pub in_reach : at.size ≤ 2 ^ 60
  pub met : IfSome file (λ bytes. IsMet at.unread_ok bytes at.place)
  pub stopped_there : IfSome file (λ bytes. IsStoppedAt at.unread_ok bytes at.place at.stopped)

-- and may go on there, past regions that a test allows
pub record MayGoOn {F : Type 0} (test : Shared F (Bor Region × Unit {0}) Bool) (f : F) (file : Option (List ℕ)) (told : Option ℕ) (at : Progress) : Type 0 where
  pub stands : StandsIn file told at
  pub is_test : IsTest test f

-- the chunk of an event is intact, and holds the records that are given or is known to be left unread
abbrev pub IsIntactIn : (decodes : Bool) → Event → Type 0
IsIntactIn decodes (event.Records begin records chunk) = IsIntact chunk × IsSimple (value_of_chunk chunk) records
IsIntactIn decodes (event.Kept begin chunk unread) =
    IsIntact chunk × (unread ≡ is_unread (value_of_chunk chunk)) × KeepsNone decodes chunk
IsIntactIn decodes (event.Skipped region) = ⊤

-- an event of a walk that it takes up to a place
pub record IsEventIn (at : Progress) (to : ℕ) (e : Event) : Type 0 where
  pub from_place : at.place ≤ (piece_of e).begin
  pub rises : (piece_of e).begin < (piece_of e).end
  pub to_place : (piece_of e).end ≡ to
  pub intact : IsIntactIn at.decodes e

-- an event that a test lets pass, where it is a region
pub record IsAllowedEvent {F : Type 0} (test : Shared F (Bor Region × Unit {0}) Bool) (f : F) (at : Progress) (to : ℕ) (e : Event) : Type 0 where
  pub bounds : IsEventIn at to e
  pub allowed : (region : Region) → e ≡ event.Skipped region → FnReturnsAt test f region true

-- what is told of what a piece from a place up to another is, if it is an event
abbrev pub what_event : (begin end : ℕ) → Found → Option Event
what_event begin end (what.Records records chunk) = Some (event.Records begin records chunk)
what_event begin end (what.Kept chunk unread) = Some (event.Kept begin chunk unread)
what_event begin end what.SignatureOrPadding = None
what_event begin end (what.Skipped why) = Some (event.Skipped (record { begin = begin; end = end; why = why }))

-- what is told of a piece
abbrev pub event_of : ℕ → NextPiece → Option Event
event_of begin piece = what_event begin piece.end piece.what

-- a region that a walk stops at: it begins at the walk's place
pub record IsStop (size place : ℕ) (region : Region) : Type 0 where
  pub begin : region.begin ≡ place
  pub onward : IsOnward size place region.end

-- the same where it is one that a test refuses
pub record IsRefusedStop {F : Type 0} (test : Shared F (Bor Region × Unit {0}) Bool) (f : F) (size place : ℕ) (region : Region) : Type 0 where
  pub stop : IsStop size place region
  pub refused : FnReturnsAt test f region false

-- what a call of a walk gives
abbrev pub events_of : Result (Option Event) WalkEnd → List Piece
events_of (Ok (Some e)) = piece_of e ∷ []
events_of other = []

-- and where it stops, if it does
abbrev pub stop_of : Result (Option Event) WalkEnd → Option Region
stop_of (Err (walk.Stopped region)) = Some region
stop_of other = None

-- a walk went on in its file, past these events, and stops where the call does
pub record WalksOn (file : Option (List ℕ)) (before after : Progress) (result : Result (Option Event) WalkEnd) : Type 0 where
  pub same_size : after.size ≡ before.size
  pub same_unread_ok : after.unread_ok ≡ before.unread_ok
  pub same_decodes : after.decodes ≡ before.decodes
  pub rises : before.place ≤ after.place
  pub past : IfSome file (λ bytes. GoesOn before.unread_ok bytes before.place after.place (events_of result))
  pub stopped : after.stopped ≡ stop_of result

-- the region that a piece is at a place, where a test refuses it, or none where the test allows it or the piece is none
abbrev pub Refuses : {F : Type 0} → Shared F (Bor Region × Unit {0}) Bool → F → ℕ → NextPiece → Option Region → Type 0
Refuses test f place piece None =
    (why : Why) → piece.what ≡ what.Skipped why → FnReturnsAt test f (record { begin = place; end = piece.end; why = why }) true
Refuses test f place piece (Some region) =
    (region.begin ≡ place) × (region.end ≡ piece.end) × (piece.what ≡ what.Skipped region.why) × FnReturnsAt test f region false

-- what a call of a walk takes from a place up to another: with an event or the file's end what it passed, and else also at the
-- place where it stands
abbrev pub TakesByCall : Bool → List ℕ → (from to : ℕ) → Result (Option Event) WalkEnd → (taken : ℕ) → Type 0
TakesByCall unread_ok file from to (Ok _) taken = IsTakenFrom unread_ok file from to taken
TakesByCall unread_ok file from to (Err _) taken = IsTakenUpTo unread_ok file from to taken
