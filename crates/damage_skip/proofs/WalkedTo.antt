-- The events of a walk that went on to a place, among all events of the file.
use Rattle.std.proofs.Common.{◌≡◌, ℕ, ◌<◌, ◌≤◌, Bool, List, [], ◌∷◌, ◌++◌, length, refl, sym, subst, arith}
use Rattle.std.proofs.lemmas.List.{append-nil}
use Rattle.std.specs.List.{AllByRecursion}
use Rattle.damage_skip.specs.Pieces.{Skipped, Piece, IsPieceOf, AreEvents, events_in, GoesOn}
use Rattle.damage_skip.specs.Regions.{regions_in, IsWalkedTo}
use Rattle.damage_skip.specs.declared.regions.Region.{Region}
use Rattle.damage_skip.proofs.OnePiece.{piece_past}
use Rattle.damage_skip.proofs.RegionsIn.{each_append, each_so, regions_in-append}
use Rattle.damage_skip.proofs.Tiles.{tiles_within, tiles_to_end, goes_on_append, goes_on_whole}

-- the piece that a region is
abbrev pub piece_at : Region → Piece
piece_at region = record { begin = region.begin; end = region.end; what = Skipped region.why }

-- what holds of each region of some events and of others holds of those of both
pub each_region : (P : Region → Type 0) (es fs : List Piece) → AllByRecursion P (regions_in es) → AllByRecursion P (regions_in fs)
    → AllByRecursion P (regions_in (es ++ fs))
each_region P es fs h g =
    subst (AllByRecursion P) (sym (regions_in-append es fs)) (each_append P (regions_in es) (regions_in fs) h g)

module _ (unread_ok : Bool) (P : Region → Type 0) (file : List ℕ) where
  -- before the first event
  pub walked-none : IsWalkedTo unread_ok P file 0 []
  walked-none = record { walked = ([], refl, refl); each = tt }

  -- what follows of each region
  pub walked-so : (Q : Region → Type 0) (place : ℕ) (events : List Piece) → ((region : Region) → P region → Q region) → IsWalkedTo unread_ok P file place events
      → IsWalkedTo unread_ok Q file place events
  walked-so Q place events so h = record { walked = h.walked; each = each_so P Q so (regions_in events) h.each }

  -- no event more
  pub walked-further : (place next : ℕ) (events : List Piece) → IsWalkedTo unread_ok P file place events → GoesOn unread_ok file place next []
      → IsWalkedTo unread_ok P file next events
  walked-further place next events h on = record {
    walked = subst (λ (es : List Piece). GoesOn unread_ok file 0 next es) (append-nil events) (goes_on_append unread_ok file 0 place next events [] h.walked on);
    each = h.each;
  }

  -- some more
  pub walked-on : (place next : ℕ) (events more : List Piece) → IsWalkedTo unread_ok P file place events → GoesOn unread_ok file place next more
      → AllByRecursion P (regions_in more) → IsWalkedTo unread_ok P file next (events ++ more)
  walked-on place next events more h on each = record {
    walked = goes_on_append unread_ok file 0 place next events more h.walked on;
    each = each_region P events more h.each each;
  }

  -- the events from the place on are behind those before it
  pub rest_of : (place : ℕ) (events : List Piece) → IsWalkedTo unread_ok P file place events → (fs : List Piece) × AreEvents unread_ok file (events ++ fs)
  rest_of place events h =
      let within : place ≤ length file = (tiles_within unread_ok file 0 place h.walked.0 (omega arith) h.walked.1).1 in
      let rest = tiles_to_end unread_ok file place within in (
        events_in rest.0,
        goes_on_whole unread_ok file (events ++ events_in rest.0)
            (goes_on_append unread_ok file 0 place (length file) events (events_in rest.0) h.walked (rest.0, rest.1, refl)),
      )

  -- where a region stands at the place, they begin with it
  pub rest_from : (place : ℕ) (events : List Piece) (region : Region) → IsWalkedTo unread_ok P file place events
      → region.begin ≡ place → place < length file → IsPieceOf unread_ok file place region.end (Skipped region.why)
      → (fs : List Piece) × AreEvents unread_ok file (events ++ piece_at region ∷ fs)
  rest_from place events region h begin below is =
      let past = piece_past unread_ok file place region.end (Skipped region.why) below is in
      let rest = tiles_to_end unread_ok file region.end past.within in (
        events_in rest.0,
        goes_on_whole unread_ok file (events ++ piece_at region ∷ events_in rest.0)
            (goes_on_append unread_ok file 0 place (length file) events (piece_at region ∷ events_in rest.0) h.walked
            (piece_at region ∷ rest.0, (begin, below, is, rest.1), refl)),
      )
