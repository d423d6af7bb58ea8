-- The steps of a walk, where the bytes of the file may be shown.
use Rattle.std.proofs.Common.{◌≡◌, ◌∙◌, ℕ, ◌<◌, Bool, Option, Some, None, IfSome, List, [], ◌∷◌, ◌++◌, length, refl, sym, ap, subst, arith}
use Rattle.std.proofs.lemmas.List.Elements.{filter-append}
use Rattle.chunk_header.specs.Chunks.{ChunkValue}
use Rattle.chunk_header.specs.Views.{value_of_chunk}
use Rattle.chunk_reader.specs.declared.judging.LoadEnd.{LoadEnd}
use Rattle.chunk_reader.specs.declared.judging.LoadEnd.TheVariants as load
use Rattle.chunk_reader.proofs.Rooms.{IsSized}
use Rattle.damage_skip.specs.Ends.{walk_end_of}
use Rattle.damage_skip.specs.Pieces.{Piece, Records, SignatureOrPadding, Skipped, IsPieceOf, AreTiles, is_event, events_in}
use Rattle.damage_skip.specs.Steps.{HasIntact, IsPieceThere, kept_as, value_of_found}
use Rattle.damage_skip.specs.Walks.{piece_of, what_event, event_of, GoesOn, IsMet, IsStoppedAt}
use Rattle.damage_skip.specs.declared.events.Event.{Event}
use Rattle.damage_skip.specs.declared.events.WalkEnd.TheVariants as walk
use Rattle.damage_skip.specs.declared.pieces.NextPiece.{NextPiece}
use Rattle.damage_skip.specs.declared.pieces.Found.{Found}
use Rattle.damage_skip.specs.declared.pieces.Found.TheVariants as what
use Rattle.damage_skip.specs.declared.regions.Region.{Region}
use Rattle.damage_skip.proofs.KeptChunks.{kept_event}

-- pieces behind pieces
pub tiles_joined : (unread_ok : Bool) (file : List ℕ) (from middle to : ℕ) (front rest : List Piece) → AreTiles unread_ok file from middle front
    → AreTiles unread_ok file middle to rest → AreTiles unread_ok file from to (front ++ rest)
tiles_joined unread_ok file from middle to [] rest same behind = subst (λ (p : ℕ). AreTiles unread_ok file p to rest) (sym same) behind
tiles_joined unread_ok file from middle to (piece ∷ front) rest h behind =
    (h.0, h.1, h.2, tiles_joined unread_ok file piece.end middle to front rest h.3 behind)

-- the events of both
events_joined : (front rest : List Piece) → events_in (front ++ rest) ≡ events_in front ++ events_in rest
events_joined front rest = filter-append (λ (piece : Piece). is_event piece.what) front rest

-- where it has come is met
pub met_on : (bytes : Option (List ℕ)) (unread_ok kept : Bool) (from to : ℕ) (events : List Piece) → kept ≡ unread_ok
    → IfSome bytes (λ file. IsMet unread_ok file from) → IfSome bytes (λ file. GoesOn unread_ok file from to events)
    → IfSome bytes (λ file. IsMet kept file to)
met_on None unread_ok kept from to events same met on = tt
met_on (Some file) unread_ok kept from to events same (front, tiles) (rest, more, are) =
    subst (λ (k : Bool). IsMet k file to) (sym same) (front ++ rest, tiles_joined unread_ok file 0 from to front rest tiles more)

-- the piece that begins at a place, as the definition has it
abbrev pub piece_value : ℕ → NextPiece → Piece
piece_value at piece = record { begin = at; end = piece.end; what = value_of_found piece.what }

-- one piece more
one_more : (unread_ok : Bool) (file : List ℕ) (from at : ℕ) (piece : NextPiece) (events : List Piece) → GoesOn unread_ok file from at []
    → at < length file → IsPieceThere unread_ok at piece file → events_in (piece_value at piece ∷ []) ≡ events
    → GoesOn unread_ok file from piece.end events
one_more unread_ok file from at piece events (front, tiles, none) below there are = (
  front ++ piece_value at piece ∷ [],
  tiles_joined unread_ok file from at piece.end front (piece_value at piece ∷ []) tiles (refl, below, there, refl),
  events_joined front (piece_value at piece ∷ []) ∙ ap (λ (xs : List Piece). xs ++ events_in (piece_value at piece ∷ [])) none ∙ are,
)

-- an event that is told, if one is
abbrev pub events_told : Option Event → List Piece
events_told None = []
events_told (Some e) = piece_of e ∷ []

-- what is told of it
told_of : (decodes : Bool) (at end : ℕ) (w : Found) (o : Option Event) → what_event at end w ≡ o → HasIntact decodes at end w
    → events_in (record { begin = at; end = end; what = value_of_found w } ∷ []) ≡ events_told o
told_of decodes at end (what.Records records chunk) o is intact =
    subst (λ (x : Option Event). events_in (record { begin = at; end = end; what = Records records (value_of_chunk chunk) } ∷ []) ≡ events_told x) is
    (ap (λ (e : ℕ). record { begin = at; end = e; what = Records records (value_of_chunk chunk) } ∷ []) intact.0)
told_of decodes at end (what.Kept chunk unread) o is intact =
    let k : ChunkValue = value_of_chunk chunk in
    subst (λ (x : Option Event). events_in (record { begin = at; end = end; what = kept_as k } ∷ []) ≡ events_told x) is
    (kept_event at end k ∙ ap (λ (e : ℕ). record { begin = at; end = e; what = kept_as k } ∷ []) intact.0)
told_of decodes at end what.SignatureOrPadding o is intact =
    subst (λ (x : Option Event). events_in (record { begin = at; end = end; what = SignatureOrPadding } ∷ []) ≡ events_told x) is refl
told_of decodes at end (what.Skipped why) o is intact =
    subst (λ (x : Option Event). events_in (record { begin = at; end = end; what = Skipped why } ∷ []) ≡ events_told x) is refl

-- so the walk goes on past it
pub passes : (bytes now : Option (List ℕ)) (unread_ok kept : Bool) (size from at : ℕ) (decodes : Bool) (piece : NextPiece) (o : Option Event) → now ≡ bytes → kept ≡ unread_ok
    → IsSized bytes (Some size) → at < size → IfSome bytes (λ file. GoesOn unread_ok file from at []) → IfSome now (IsPieceThere kept at piece)
    → HasIntact decodes at piece.end piece.what → event_of at piece ≡ o → IfSome bytes (λ file. GoesOn unread_ok file from piece.end (events_told o))
passes None now unread_ok kept size from at decodes piece o same same_unread_ok sized below on there intact told = tt
passes (Some file) None unread_ok kept size from at decodes piece o same same_unread_ok sized below on there intact told = cc
passes (Some file) (Some other) unread_ok kept size from at decodes piece o same same_unread_ok sized below on there intact told =
    let is : other ≡ file = cc in
    let here : IsPieceThere unread_ok at piece file = subst (λ (k : Bool). IsPieceThere k at piece file) same_unread_ok (subst (IsPieceThere kept at piece) is there) in
    one_more unread_ok file from at piece (events_told o) on (omega (arith, sized, below)) here (told_of decodes at piece.end piece.what o told intact)

-- where there was no memory to walk on, there was none to load a chunk
pub memory_before : (end : LoadEnd) → walk.Memory ≡ walk_end_of end → end ≡ load.Memory
memory_before load.Memory same = refl
memory_before load.Store same = cc

-- a region that stops the walk is the piece at its place
pub stops_there : (bytes now : Option (List ℕ)) (unread_ok kept : Bool) (size place : ℕ) (piece : NextPiece) (region : Region) → now ≡ bytes → kept ≡ unread_ok
    → IsSized bytes (Some size) → place < size → IfSome now (IsPieceThere kept place piece) → region.begin ≡ place → region.end ≡ piece.end
    → piece.what ≡ what.Skipped region.why → IfSome bytes (λ file. IsStoppedAt unread_ok file place (Some region))
stops_there None now unread_ok kept size place piece region same same_unread_ok sized below there begins ends is = tt
stops_there (Some file) None unread_ok kept size place piece region same same_unread_ok sized below there begins ends is = cc
stops_there (Some file) (Some other) unread_ok kept size place piece region same same_unread_ok sized below there begins ends is =
    let is_file : other ≡ file = cc in
    let here : IsPieceThere unread_ok place piece file = subst (λ (k : Bool). IsPieceThere k place piece file) same_unread_ok (subst (IsPieceThere kept place piece) is_file there) in
    let skipped : IsPieceOf unread_ok file place piece.end (Skipped region.why) = subst (λ (w : Found). IsPieceOf unread_ok file place piece.end (value_of_found w)) is here in
    (begins, omega (arith, sized, below), subst (λ (e : ℕ). IsPieceOf unread_ok file place e (Skipped region.why)) (sym ends) skipped)
