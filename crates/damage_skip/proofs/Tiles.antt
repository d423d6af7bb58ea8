-- The pieces of a file tile it: there is one list of them from each place to the end.
use Rattle.std.proofs.Common.{◌≡◌, ◌∙◌, ◌⊎◌, ℕ, zero, suc, ◌+◌, ◌<◌, ◌≤◌, Bool, List, [], ◌∷◌, ◌++◌, Some, length, get_or, refl, sym, ap, subst, inl, inr, add-one, arith}
use Rattle.std.specs.Prelude.{map, slice_get}
use Rattle.std.specs.List.{AllByRecursion}
use Rattle.std.specs.List.Sorted.{IsStrictlyIncreasing}
use Rattle.std.proofs.lemmas.Bool.{cases_lt}
use Rattle.std.proofs.lemmas.List.Elements.{filter-append}
use Rattle.block_layout.specs.Layout.{IsBoundary}
use Rattle.damage_skip.specs.Pieces.{PieceKind, Piece, IsPieceOf, AreTiles, is_event, events_in, AreEvents}
use Rattle.damage_skip.specs.FilePieces.{ArePieces}
use Rattle.damage_skip.specs.Walks.{GoesOn, IsMet}
use Rattle.damage_skip.proofs.OnePiece.{piece_one, piece_past, piece_of_place}

-- pieces end in the file, and past the place where they begin
pub tiles_within : (unread_ok : Bool) (file : List ℕ) (from to : ℕ) (pieces : List Piece) → from ≤ length file → AreTiles unread_ok file from to pieces
    → (from ≤ to) × (to ≤ length file)
tiles_within unread_ok file from to [] inside h = (omega (arith, h), omega (arith, h))
tiles_within unread_ok file from to (piece ∷ pieces) inside (begin, below, is, rest) =
    let step = piece_past unread_ok file from piece.end piece.what below is in
    let on = tiles_within unread_ok file piece.end to pieces step.within rest in
    (omega (arith, on.0, step.past), on.1)

pub tiles_past : (unread_ok : Bool) (file : List ℕ) (from to : ℕ) (piece : Piece) (pieces : List Piece) → AreTiles unread_ok file from to (piece ∷ pieces)
    → from < to
tiles_past unread_ok file from to piece pieces (begin, below, is, rest) =
    let step = piece_past unread_ok file from piece.end piece.what below is in
    omega (arith, step.past, (tiles_within unread_ok file piece.end to pieces step.within rest).0)

-- pieces of the same begin, end and kind are one
pub same_piece : (a b : Piece) → a.begin ≡ b.begin → a.end ≡ b.end → a.what ≡ b.what → a ≡ b
same_piece a b begin end what =
    ap (λ (x : ℕ). record { begin = x; end = a.end; what = a.what }) begin
    ∙ ap (λ (x : ℕ). record { begin = b.begin; end = x; what = a.what }) end
    ∙ ap (λ (x : PieceKind). record { begin = b.begin; end = b.end; what = x }) what

-- of two lists of pieces from a place, that which reaches further begins with the other
pub tiles_front : (unread_ok : Bool) (file : List ℕ) (from a b : ℕ) (ps qs : List Piece) → a ≤ b
    → AreTiles unread_ok file from a ps → AreTiles unread_ok file from b qs
    → (rest : List Piece) × (qs ≡ ps ++ rest) × AreTiles unread_ok file a b rest
tiles_front unread_ok file from a b [] qs further h g = (qs, refl, subst (λ (x : ℕ). AreTiles unread_ok file x b qs) h g)
tiles_front unread_ok file from a b (p ∷ ps) [] further h g =
    absurd (omega (arith, g, tiles_past unread_ok file from a p ps h))
tiles_front unread_ok file from a b (p ∷ ps) (q ∷ qs) further (begin, below, is, rest) (at, under, also, on) =
    let one = piece_one unread_ok file from p.end q.end p.what q.what is also in
    let same : p ≡ q = same_piece p q (begin ∙ sym at) one.0 one.1 in
    let tail = tiles_front unread_ok file p.end a b ps qs further rest (subst (λ (x : ℕ). AreTiles unread_ok file x b qs) (sym one.0) on) in
    (tail.0, ap (λ (x : Piece). x ∷ qs) (sym same) ∙ ap (λ (xs : List Piece). p ∷ xs) tail.1, tail.2)

-- so up to a place there is one list at most
pub tiles_one : (unread_ok : Bool) (file : List ℕ) (from to : ℕ) (ps qs : List Piece)
    → AreTiles unread_ok file from to ps → AreTiles unread_ok file from to qs → ps ≡ qs
tiles_one unread_ok file from to [] [] h g = refl
tiles_one unread_ok file from to [] (q ∷ qs) h g = absurd (omega (arith, h, tiles_past unread_ok file from to q qs g))
tiles_one unread_ok file from to (p ∷ ps) [] h g = absurd (omega (arith, g, tiles_past unread_ok file from to p ps h))
tiles_one unread_ok file from to (p ∷ ps) (q ∷ qs) (begin, below, is, rest) (at, under, also, on) =
    let one = piece_one unread_ok file from p.end q.end p.what q.what is also in
    ap (λ (x : Piece). x ∷ ps) (same_piece p q (begin ∙ sym at) one.0 one.1)
    ∙ ap (λ (xs : List Piece). q ∷ xs)
    (tiles_one unread_ok file p.end to ps qs rest (subst (λ (x : ℕ). AreTiles unread_ok file x to qs) (sym one.0) on))

-- from each place of the file there is one to its end
tiles_of : (unread_ok : Bool) (file : List ℕ) (most from : ℕ) → length file ≤ from + most → from ≤ length file
    → (pieces : List Piece) × AreTiles unread_ok file from (length file) pieces
tiles_of unread_ok file zero from far inside = ([], omega arith)
tiles_of unread_ok file (suc most) from far inside =
    elim (cases_lt from (length file)) [
      | inl below ↦
          let one = piece_of_place unread_ok file from in
          let step = piece_past unread_ok file from one.0 one.1 below one.2 in
          let rest = tiles_of unread_ok file most one.0 (omega (arith, step.past)) step.within in
          let piece : Piece = record { begin = from; end = one.0; what = one.1 } in
          (piece ∷ rest.0, (refl, below, one.2, rest.1))
      | inr end ↦ ([], omega arith)
    ]

pub tiles_to_end : (unread_ok : Bool) (file : List ℕ) (from : ℕ) → from ≤ length file
    → (pieces : List Piece) × AreTiles unread_ok file from (length file) pieces
tiles_to_end unread_ok file from inside = tiles_of unread_ok file (length file) from (omega arith) inside

-- pieces behind others are pieces from where those begin
pub tiles_append : (unread_ok : Bool) (file : List ℕ) (a b c : ℕ) (ps qs : List Piece)
    → AreTiles unread_ok file a b ps → AreTiles unread_ok file b c qs → AreTiles unread_ok file a c (ps ++ qs)
tiles_append unread_ok file a b c [] qs h g = subst (λ (x : ℕ). AreTiles unread_ok file x c qs) (sym h) g
tiles_append unread_ok file a b c (p ∷ ps) qs (begin, below, is, rest) g =
    (begin, below, is, tiles_append unread_ok file p.end b c ps qs rest g)

-- and come apart between any two
pub tiles_parted : (unread_ok : Bool) (file : List ℕ) (a c : ℕ) (ps qs : List Piece) → AreTiles unread_ok file a c (ps ++ qs)
    → (b : ℕ) × AreTiles unread_ok file a b ps × AreTiles unread_ok file b c qs
tiles_parted unread_ok file a c [] qs h = (a, refl, h)
tiles_parted unread_ok file a c (p ∷ ps) qs (begin, below, is, rest) =
    let parts = tiles_parted unread_ok file p.end c ps qs rest in
    (parts.0, (begin, below, is, parts.1), parts.2)

-- the last of them ends where they do
pub tiles_last : (unread_ok : Bool) (file : List ℕ) (from to : ℕ) (pieces : List Piece) (piece : Piece)
    → AreTiles unread_ok file from to (pieces ++ piece ∷ []) → piece.end ≡ to
tiles_last unread_ok file from to [] piece (begin, below, is, rest) = rest
tiles_last unread_ok file from to (p ∷ pieces) piece (begin, below, is, rest) = tiles_last unread_ok file p.end to pieces piece rest

-- each begins at a boundary, and ends past that in the file
pub record IsTile (size : ℕ) (piece : Piece) : Type 0 where
  pub boundary : IsBoundary piece.begin
  pub after : piece.begin < piece.end
  pub within : piece.end ≤ size

pub tiles_each : (unread_ok : Bool) (file : List ℕ) (from to : ℕ) (pieces : List Piece) → IsBoundary from ⊎ (from ≡ length file)
    → AreTiles unread_ok file from to pieces → AllByRecursion (IsTile (length file)) pieces
tiles_each unread_ok file from to [] boundary h = tt
tiles_each unread_ok file from to (piece ∷ pieces) boundary (begin, below, is, rest) =
    let step = piece_past unread_ok file from piece.end piece.what below is in
    let here : IsBoundary from = elim boundary [ inl on ↦ on | inr end ↦ absurd (omega arith) ] in (
      record {
        boundary = subst IsBoundary (sym begin) here;
        after = omega (arith, step.past);
        within = step.within;
      },
      tiles_each unread_ok file piece.end to pieces step.boundary rest,
    )

-- what is weaker holds of each piece too
each_weaker : (P Q : Piece → Type 0) → ((piece : Piece) → P piece → Q piece) → (pieces : List Piece) → AllByRecursion P pieces → AllByRecursion Q pieces
each_weaker P Q less [] h = tt
each_weaker P Q less (piece ∷ pieces) h = (less piece h.0, each_weaker P Q less pieces h.1)

pub pieces_at_boundaries : (unread_ok : Bool) (file : List ℕ) (pieces : List Piece) → ArePieces unread_ok file pieces
    → AllByRecursion (λ piece. IsBoundary piece.begin) pieces
pieces_at_boundaries unread_ok file pieces h =
    each_weaker (IsTile (length file)) (λ piece. IsBoundary piece.begin) (λ piece is. is.boundary) pieces
    (tiles_each unread_ok file 0 (length file) pieces (inl (inl refl)) h)

pub pieces_within : (unread_ok : Bool) (file : List ℕ) (pieces : List Piece) → ArePieces unread_ok file pieces
    → AllByRecursion (λ piece. (piece.begin < piece.end) × (piece.end ≤ length file)) pieces
pieces_within unread_ok file pieces h =
    each_weaker (IsTile (length file)) (λ piece. (piece.begin < piece.end) × (piece.end ≤ length file)) (λ piece is. (is.after, is.within)) pieces
    (tiles_each unread_ok file 0 (length file) pieces (inl (inl refl)) h)

-- they end at a boundary, or where the file does
pub tiles_boundary : (unread_ok : Bool) (file : List ℕ) (from to : ℕ) (pieces : List Piece) → IsBoundary from ⊎ (from ≡ length file)
    → AreTiles unread_ok file from to pieces → IsBoundary to ⊎ (to ≡ length file)
tiles_boundary unread_ok file from to [] boundary h = subst (λ (x : ℕ). IsBoundary x ⊎ (x ≡ length file)) h boundary
tiles_boundary unread_ok file from to (piece ∷ pieces) boundary (begin, below, is, rest) =
    tiles_boundary unread_ok file piece.end to pieces (piece_past unread_ok file from piece.end piece.what below is).boundary rest

-- their begins rise
begins : List Piece → List ℕ
begins pieces = map (λ p. p.begin) pieces

begins_next : (unread_ok : Bool) (file : List ℕ) (from to : ℕ) (pieces : List Piece) (i : ℕ) → AreTiles unread_ok file from to pieces
    → suc i < length (begins pieces) → get_or (begins pieces) i 0 < get_or (begins pieces) (suc i) 0
unfolding begins
begins_next unread_ok file from to [] i h within = absurd (omega arith)
begins_next unread_ok file from to (p ∷ []) i h within = absurd (omega arith)
begins_next unread_ok file from to (p ∷ q ∷ pieces) zero (begin, below, is, rest) within =
    omega (arith, begin, rest.0, (piece_past unread_ok file from p.end p.what below is).past)
begins_next unread_ok file from to (p ∷ q ∷ pieces) (suc i) (begin, below, is, rest) within =
    begins_next unread_ok file p.end to (q ∷ pieces) i rest (omega arith)

pub tiles_rise : (unread_ok : Bool) (file : List ℕ) (from to : ℕ) (pieces : List Piece) → AreTiles unread_ok file from to pieces
    → IsStrictlyIncreasing (map (λ p. p.begin) pieces)
unfolding begins
tiles_rise unread_ok file from to pieces h i within =
    subst (λ (n : ℕ). get_or (begins pieces) i 0 < get_or (begins pieces) n 0) (sym (add-one i))
    (begins_next unread_ok file from to pieces i h (omega arith))

-- each position between their ends lies in one of them
pub tiles_hold : (unread_ok : Bool) (file : List ℕ) (from to position : ℕ) (pieces : List Piece) → AreTiles unread_ok file from to pieces
    → from ≤ position → position < to
    → (j : ℕ) × (piece : Piece) × (slice_get pieces j ≡ Some piece) × (piece.begin ≤ position) × (position < piece.end)
tiles_hold unread_ok file from to position [] h low high = absurd (omega (arith, h))
tiles_hold unread_ok file from to position (p ∷ pieces) (begin, below, is, rest) low high =
    elim (cases_lt position p.end) [
      | inl inside ↦ (zero, p, refl, omega (arith, begin), inside)
      | inr behind ↦
          let there = tiles_hold unread_ok file p.end to position pieces rest behind high in
          (suc there.0, there.1, there.2, there.3, there.4)
    ]

-- the events of pieces behind others
pub events-append : (ps qs : List Piece) → events_in (ps ++ qs) ≡ events_in ps ++ events_in qs
events-append ps qs = filter-append (λ (p : Piece). is_event p.what) ps qs

-- a walk goes on
pub goes_on_append : (unread_ok : Bool) (file : List ℕ) (a b c : ℕ) (es fs : List Piece)
    → GoesOn unread_ok file a b es → GoesOn unread_ok file b c fs → GoesOn unread_ok file a c (es ++ fs)
goes_on_append unread_ok file a b c es fs (ps, h, are) (qs, g, there) = (
  ps ++ qs,
  tiles_append unread_ok file a b c ps qs h g,
  events-append ps qs ∙ ap (λ (xs : List Piece). xs ++ events_in qs) are ∙ ap (λ (xs : List Piece). es ++ xs) there,
)

pub goes_on_one : (unread_ok : Bool) (file : List ℕ) (a b : ℕ) (es fs : List Piece)
    → GoesOn unread_ok file a b es → GoesOn unread_ok file a b fs → es ≡ fs
goes_on_one unread_ok file a b es fs (ps, h, are) (qs, g, there) =
    sym are ∙ ap events_in (tiles_one unread_ok file a b ps qs h g) ∙ there

-- by the piece at a place
pub goes_on_piece : (unread_ok : Bool) (file : List ℕ) (place end : ℕ) (what : PieceKind) → place < length file → IsPieceOf unread_ok file place end what
    → GoesOn unread_ok file place end (events_in (record { begin = place; end = end; what = what } ∷ []))
goes_on_piece unread_ok file place end what below is =
    (record { begin = place; end = end; what = what } ∷ [], (refl, below, is, refl), refl)

-- from the front of the file
pub met_front : (unread_ok : Bool) (file : List ℕ) → IsMet unread_ok file 0
met_front unread_ok file = ([], refl)

pub met_on : (unread_ok : Bool) (file : List ℕ) (a b : ℕ) (es : List Piece) → IsMet unread_ok file a → GoesOn unread_ok file a b es → IsMet unread_ok file b
met_on unread_ok file a b es (ps, h) (qs, g, are) = (ps ++ qs, tiles_append unread_ok file 0 a b ps qs h g)

pub met_within : (unread_ok : Bool) (file : List ℕ) (place : ℕ) → IsMet unread_ok file place
    → (place ≤ length file) × (IsBoundary place ⊎ (place ≡ length file))
met_within unread_ok file place (ps, h) =
    ((tiles_within unread_ok file 0 place ps (omega arith) h).1, tiles_boundary unread_ok file 0 place ps (inl (inl refl)) h)

-- to its end, with all events
pub goes_on_whole : (unread_ok : Bool) (file : List ℕ) (es : List Piece) → GoesOn unread_ok file 0 (length file) es → AreEvents unread_ok file es
goes_on_whole unread_ok file es h = h

-- of which it gave the first ones before
pub goes_on_front : (unread_ok : Bool) (file : List ℕ) (place : ℕ) (es fs : List Piece) → GoesOn unread_ok file 0 place es → AreEvents unread_ok file fs
    → (rest : List Piece) × (fs ≡ es ++ rest) × GoesOn unread_ok file place (length file) rest
goes_on_front unread_ok file place es fs (ps, h, are) (qs, g, there) =
    let further : place ≤ length file = (tiles_within unread_ok file 0 place ps (omega arith) h).1 in
    let front = tiles_front unread_ok file 0 place (length file) ps qs further h g in (
      events_in front.0,
      sym there ∙ ap events_in front.1 ∙ events-append ps front.0 ∙ ap (λ (xs : List Piece). xs ++ events_in front.0) are,
      (front.0, front.2, refl),
    )

-- which are one list
pub events_one : (unread_ok : Bool) (file : List ℕ) (es fs : List Piece) → AreEvents unread_ok file es → AreEvents unread_ok file fs → es ≡ fs
events_one unread_ok file = goes_on_one unread_ok file 0 (length file)

pub events_of : (unread_ok : Bool) (file : List ℕ) → (events : List Piece) × AreEvents unread_ok file events
events_of unread_ok file =
    let pieces = tiles_to_end unread_ok file 0 (omega arith) in
    (events_in pieces.0, (pieces.0, pieces.1, refl))
