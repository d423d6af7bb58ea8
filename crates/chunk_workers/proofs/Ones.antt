-- Pieces that have one number each, as seats draw them.
use Rattle.std.proofs.Common.{◌≡◌, ◌≢◌, ◌∙◌, ℕ, zero, suc, ◌+◌, ◌<◌, ◌≤◌, List, [], ◌∷◌, ◌++◌, All, length, refl, ap, subst, arith}
use Rattle.std.specs.List.{AllByRecursion, flat_map, range_with_len}
use Rattle.std.proofs.lemmas.List.{map-append}
use Rattle.number_shares.specs.declared.table.Piece.{Piece}
use Rattle.number_shares.specs.Once.{HasEachBelow}
use Rattle.number_shares.specs.Machine.{AreTakes, Hand, IsMine, Machine, all_mine, all_past, numbers_in, start_of, with_mine}
use Rattle.number_shares.proofs.Runs.{counted_after_run, ended_by_ones, own_pieces, seats_after_run}
use Rattle.chunk_workers.specs.Seats.{BelongsTo, DrawsValue, SeatValue, numbers_at, one, ones}

-- what a seat has of numbers, with one more
pub one_more : (old : SeatValue) (m : ℕ) (new : SeatValue) → new ≡ record old { hand = with_mine (one m) old.hand }
    → numbers_at new.hand.mine ≡ numbers_at old.hand.mine ++ m ∷ []
one_more old m new is = ap (λ (s : SeatValue). numbers_at s.hand.mine) is ∙ map-append (λ (x : Piece). x.at) old.hand.mine (one m ∷ [])

-- numbers past all pieces are past the numbers of these
pub numbers_before : (n m : ℕ) (xs : List Piece) → AllByRecursion (IsMine (ones n)) xs → AllByRecursion (λ x. x.at + x.cost ≤ m) xs → AllByRecursion (λ p. p < m) (numbers_at xs)
numbers_before n m [] own all = tt
numbers_before n m (x ∷ xs) own all = (omega (arith, own.0.some, all.0), numbers_before n m xs own.1 all.1)

-- such pieces hold these numbers alone
one_number : (at n : ℕ) → n ≡ 1 → range_with_len at n ≡ at ∷ []
one_number at zero is = absurd (omega arith)
one_number at (suc zero) is = refl
one_number at (suc (suc n)) is = absurd (omega arith)

pub numbers_of_ones : (n : ℕ) (xs : List Piece) → AllByRecursion (IsMine (ones n)) xs → numbers_in xs ≡ numbers_at xs
numbers_of_ones n [] own = refl
numbers_of_ones n (x ∷ xs) own =
    ap (λ (ns : List ℕ). ns ++ numbers_in xs) (one_number x.at x.cost (omega (arith, own.0.some, own.0.few)))
    ∙ ap (λ (ns : List ℕ). x.at ∷ ns) (numbers_of_ones n xs own.1)

pub numbers_of_all : {X : Type 0} (f : X → List Piece) (xs : List X) → numbers_at (flat_map f xs) ≡ flat_map (λ x. numbers_at (f x)) xs
numbers_of_all f [] = refl
numbers_of_all f (x ∷ xs) =
    map-append (λ (y : Piece). y.at) (f x) (flat_map f xs)
    ∙ ap (λ (ns : List ℕ). numbers_at (f x) ++ ns) (numbers_of_all f xs)

-- where one of several has some, all have
front_nil : {X : Type 0} (xs ys : List X) → xs ++ ys ≡ [] → xs ≡ []
front_nil [] ys e = refl
front_nil (x ∷ xs) ys e = cc

some_first : {X : Type 0} (f : X → List Piece) (x : X) (xs : List X) → f x ≢ [] → ¬ (flat_map f (x ∷ xs) ≡ [])
some_first f x xs some nothing = some (front_nil (f x) (flat_map f xs) nothing)

pub some_past : (draws : DrawsValue) (seats : List SeatValue) → 1 ≤ length seats
    → All (λ seat. BelongsTo draws seat × (seat.hand.past ≢ [])) seats → ¬ (flat_map (λ seat. seat.hand.past) seats ≡ [])
some_past draws [] stands all = absurd (omega arith)
some_past draws (seat ∷ seats) stands all = some_first (λ s. s.hand.past) seat seats (all 0 seat (omega arith)).1

some_ended : (hands : List Hand) → 1 ≤ length hands → AllByRecursion (λ hand. hand.past ≢ []) hands → ¬ (all_past hands ≡ [])
some_ended [] stands all = absurd (omega arith)
some_ended (hand ∷ hands) stands all = some_first (λ h. h.past) hand hands all.0

-- what is drawn in a run, once each seat has ended
pub drawn_after_run : (n seats : ℕ) (run : List (ℕ × ℕ)) (state : Machine) → AreTakes (ones n) (start_of seats) run state → 1 ≤ seats
    → AllByRecursion (λ hand. hand.past ≢ []) state.hands → HasEachBelow n (flat_map (λ hand. numbers_at hand.mine) state.hands)
drawn_after_run n seats run state takes stands ended =
    let some : 1 ≤ length state.hands = omega (arith, seats_after_run (ones n) seats run state takes) in
    let own : AllByRecursion (IsMine (ones n)) (all_mine state.hands) = own_pieces (ones n) state.hands (counted_after_run (ones n) seats run state takes).hands in
    subst (HasEachBelow n) (numbers_of_ones n (all_mine state.hands) own ∙ numbers_of_all (λ (hand : Hand). hand.mine) state.hands)
    (ended_by_ones (ones n) seats run state takes (omega arith) (omega arith) (some_ended state.hands some ended))
