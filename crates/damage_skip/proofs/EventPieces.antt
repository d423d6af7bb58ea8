-- The events of pieces are the pieces that are events, in order.
use Rattle.std.proofs.Common.{◌≡◌, ℕ, zero, suc, ◌+◌, ◌<◌, ◌≤◌, Bool, true, false, List, [], ◌∷◌, Some, cond, length, get_or, refl, sym, subst, add-one, arith}
use Rattle.std.specs.Prelude.{map, slice_get, ⊤}
use Rattle.std.specs.List.Sorted.{IsStrictlyIncreasing}
use Rattle.damage_skip.specs.Pieces.{Piece, AreTiles, is_event, events_in}
use Rattle.damage_skip.proofs.OnePiece.{piece_past}

-- an event among pieces of which the first may be left out
AmongEvents : List Piece → Piece → Type 0
AmongEvents es piece = (i : ℕ) × (slice_get es i ≡ Some piece)

first_stands : (b : Bool) (p : Piece) (es : List Piece) → b ≡ true → slice_get (cond b (p ∷ es) es) 0 ≡ Some p
first_stands true p es is = refl
first_stands false p es is = absurd (cc)

later_stands : (b : Bool) (p : Piece) (es : List Piece) (piece : Piece) → AmongEvents es piece → AmongEvents (cond b (p ∷ es) es) piece
unfolding AmongEvents
later_stands true p es piece (i, at) = (suc i, at)
later_stands false p es piece (i, at) = (i, at)

pub events_hold : (ps : List Piece) (j : ℕ) (piece : Piece) → slice_get ps j ≡ Some piece → is_event piece.what ≡ true
    → (i : ℕ) × (slice_get (events_in ps) i ≡ Some piece)
unfolding AmongEvents
events_hold [] j piece at event = absurd (cc)
events_hold (p ∷ ps) zero piece at event =
    let same : p ≡ piece = cc in (
      0,
      subst (λ (q : Piece). slice_get (events_in (p ∷ ps)) 0 ≡ Some q) same
          (first_stands (is_event p.what) p (events_in ps) (subst (λ (q : Piece). is_event q.what ≡ true) (sym same) event)),
    )
events_hold (p ∷ ps) (suc j) piece at event =
    later_stands (is_event p.what) p (events_in ps) piece (events_hold ps j piece at event)

-- and each of them is one of the pieces
one_of : (b : Bool) (p : Piece) (es ps : List Piece) (i : ℕ) (event : Piece)
    → ((k : ℕ) → slice_get es k ≡ Some event → (j : ℕ) × (slice_get ps j ≡ Some event))
    → slice_get (cond b (p ∷ es) es) i ≡ Some event → (j : ℕ) × (slice_get (p ∷ ps) j ≡ Some event)
one_of true p es ps zero event within at = (zero, at)
one_of true p es ps (suc i) event within at =
    let there = within i at in
    (suc there.0, there.1)
one_of false p es ps i event within at =
    let there = within i at in
    (suc there.0, there.1)

pub events_are : (ps : List Piece) (i : ℕ) (event : Piece) → slice_get (events_in ps) i ≡ Some event
    → (j : ℕ) × (slice_get ps j ≡ Some event)
events_are [] i event at = absurd (cc)
events_are (p ∷ ps) i event at =
    one_of (is_event p.what) p (events_in ps) ps i event (λ k there. events_are ps k event there) at

-- their begins rise
AreRising : ℕ → List Piece → Type 0
AreRising from [] = ⊤
AreRising from (e ∷ es) = (from ≤ e.begin) × AreRising (e.begin + 1) es

rising_before : (a b : ℕ) (es : List Piece) → a ≤ b → AreRising b es → AreRising a es
unfolding AreRising
rising_before a b [] less h = tt
rising_before a b (e ∷ es) less (from, rest) = (omega (arith, less, from), rest)

rising_one : (b : Bool) (from : ℕ) (p : Piece) (es : List Piece) → p.begin ≡ from → AreRising (from + 1) es
    → AreRising from (cond b (p ∷ es) es)
unfolding AreRising
rising_one true from p es is h = (omega (arith, is), subst (λ (x : ℕ). AreRising (x + 1) es) (sym is) h)
rising_one false from p es is h = rising_before from (from + 1) es (omega arith) h

rising_events : (unread_ok : Bool) (file : List ℕ) (from to : ℕ) (ps : List Piece) → AreTiles unread_ok file from to ps → AreRising from (events_in ps)
unfolding AreRising
rising_events unread_ok file from to [] h = tt
rising_events unread_ok file from to (p ∷ ps) (begin, below, is, rest) =
    rising_one (is_event p.what) from p (events_in ps) begin
    (rising_before (from + 1) p.end (events_in ps) (omega (arith, (piece_past unread_ok file from p.end p.what below is).past))
    (rising_events unread_ok file p.end to ps rest))

begins : List Piece → List ℕ
begins pieces = map (λ p. p.begin) pieces

rising_next : (from : ℕ) (es : List Piece) (i : ℕ) → AreRising from es → suc i < length (begins es)
    → get_or (begins es) i 0 < get_or (begins es) (suc i) 0
unfolding begins AreRising
rising_next from [] i h within = absurd (omega arith)
rising_next from (e ∷ []) i h within = absurd (omega arith)
rising_next from (e ∷ f ∷ es) zero (at, rest) within = omega (arith, rest.0)
rising_next from (e ∷ f ∷ es) (suc i) (at, rest) within = rising_next (e.begin + 1) (f ∷ es) i rest (omega arith)

pub events_rise : (unread_ok : Bool) (file : List ℕ) (from to : ℕ) (ps : List Piece) → AreTiles unread_ok file from to ps
    → IsStrictlyIncreasing (map (λ p. p.begin) (events_in ps))
unfolding begins
events_rise unread_ok file from to ps h i within =
    subst (λ (n : ℕ). get_or (begins (events_in ps)) i 0 < get_or (begins (events_in ps)) n 0) (sym (add-one i))
    (rising_next from (events_in ps) i (rising_events unread_ok file from to ps h) (omega arith))
