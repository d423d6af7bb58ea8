-- Runs of the machine, and what all seats have after them.
use Rattle.std.proofs.Common.{◌≡◌, ◌∙◌, ℕ, zero, suc, ◌+◌, ◌≤◌, List, [], ◌∷◌, length, map, replicate, refl, sym, ap, subst, arith}
use Rattle.std.specs.List.{AllByRecursion, flat_map}
use Rattle.std.proofs.lemmas.List.{length-append, length-replicate, length-set}
use Rattle.number_shares.specs.Once.{HasEachBelow, times}
use Rattle.number_shares.proofs.Counting.{once_below, times-append, times-each_below, each_below_from_times}
use Rattle.number_shares.proofs.Lists.{all_append, all_set}
use Rattle.number_shares.specs.Least.{IsLeast}
use Rattle.number_shares.specs.declared.table.Piece.{Piece}
use Rattle.number_shares.specs.declared.table.Bounds.{Bounds}
use Rattle.number_shares.specs.Machine.{numbers_in, numbers_taken, Hand, Machine, IsHand, IsMine, IsPast, IsCounted, IsTake, AreTakes, all_mine, all_past, empty_hand, start_of, taken}
use Rattle.number_shares.proofs.Pieces.{held, held-append}
use Rattle.number_shares.proofs.PastPieces.{mine_to_least, mine_to_limit}
use Rattle.number_shares.proofs.Machines.{taken-both, counted_after_take}

-- what holds of a state and of each that an event makes of it holds after any run
after_run : (P : Machine → Type 0) (b : Bounds) (run : List (ℕ × ℕ)) (old new : Machine)
    → ((x : Machine) (seat cost : ℕ) (y : Machine) → P x → IsTake b x seat cost y → P y) → P old → AreTakes b old run new → P new
after_run P b [] old new keeps here takes = subst P (sym takes) here
after_run P b (take ∷ run) old new keeps here takes = after_run P b run takes.0 new keeps (keeps old take.0 take.1 takes.0 here takes.1) takes.2

-- at the start nothing is taken
start_hands : (b : Bounds) (seats : ℕ) → AllByRecursion (IsHand b) (replicate seats empty_hand)
start_hands b zero = tt
start_hands b (suc seats) = (record { mine = tt; past = tt }, start_hands b seats)

start_empty : (seats : ℕ) → flat_map numbers_taken (replicate seats empty_hand) ≡ []
start_empty zero = refl
start_empty (suc seats) = start_empty seats

counted_at_start : (b : Bounds) (seats : ℕ) → IsCounted b (start_of seats)
counted_at_start b seats =
    let none : HasEachBelow 0 [] = record { once = λ p below. absurd (omega arith); no_other = tt } in
    record {
      each_once = subst (HasEachBelow 0) (sym (start_empty seats)) none;
      hands = start_hands b seats;
    }

pub counted_after_run : (b : Bounds) (seats : ℕ) (run : List (ℕ × ℕ)) (state : Machine) → AreTakes b (start_of seats) run state → IsCounted b state
counted_after_run b seats run state = after_run (IsCounted b) b run (start_of seats) state (counted_after_take b) (counted_at_start b seats)

-- no seat takes once it has ended
abbrev HaveOnePast : Machine → Type 0
HaveOnePast state = AllByRecursion (λ hand. length hand.past ≤ 1) state.hands

one_past_at_start : (seats : ℕ) → HaveOnePast (start_of seats)
one_past_at_start zero = tt
one_past_at_start (suc seats) = (omega arith, one_past_at_start seats)

one_past_after_take : (b : Bounds) (old : Machine) (seat cost : ℕ) (new : Machine) → HaveOnePast old → IsTake b old seat cost new → HaveOnePast new
one_past_after_take b old seat cost new h take =
    let x : Piece = record { at = old.word; cost = cost } in
    let one : length (taken b.limit x take.hand).past ≤ 1 =
    taken-both (λ hand. length hand.past ≤ 1) b.limit x take.hand
    (λ _. omega (arith, ap length take.possible))
    (λ _. omega (arith, ap length take.possible, length-append take.hand.past (x ∷ []))) in
    subst (AllByRecursion (λ hand. length hand.past ≤ 1)) (sym take.hands)
    (all_set (λ hand. length hand.past ≤ 1) old.hands seat (taken b.limit x take.hand) one h)

pub one_past_after_run : (b : Bounds) (seats : ℕ) (run : List (ℕ × ℕ)) (state : Machine) → AreTakes b (start_of seats) run state → HaveOnePast state
one_past_after_run b seats run state = after_run HaveOnePast b run (start_of seats) state (one_past_after_take b) (one_past_at_start seats)

-- the seats stay
pub seats_after_run : (b : Bounds) (seats : ℕ) (run : List (ℕ × ℕ)) (state : Machine) → AreTakes b (start_of seats) run state → length state.hands ≡ seats
seats_after_run b seats run state takes =
    after_run (λ x. length x.hands ≡ seats) b run (start_of seats) state
    (λ x seat cost y same take. ap length take.hands ∙ length-set x.hands seat (taken b.limit (record { at = x.word; cost = cost }) take.hand) ∙ same)
    (length-replicate seats empty_hand)
    takes

-- the pieces of all hands, apart
held-hands : (p : ℕ) (hands : List Hand) → held p (all_mine hands) + held p (all_past hands) ≡ times p (flat_map numbers_taken hands)
held-hands p [] = refl
held-hands p (hand ∷ hands) =
    omega (
      arith,
      held-append p hand.mine (all_mine hands),
      held-append p hand.past (all_past hands),
      times-append p (numbers_taken hand) (flat_map numbers_taken hands),
      held-append p hand.mine hand.past,
      held-hands p hands,
    )

pub own_pieces : (b : Bounds) (hands : List Hand) → AllByRecursion (IsHand b) hands → AllByRecursion (IsMine b) (all_mine hands)
own_pieces b [] all = tt
own_pieces b (hand ∷ hands) all = all_append (IsMine b) hand.mine (all_mine hands) all.0.mine (own_pieces b hands all.1)

past_pieces : (b : Bounds) (hands : List Hand) → AllByRecursion (IsHand b) hands → AllByRecursion (IsPast b) (all_past hands)
past_pieces b [] all = tt
past_pieces b (hand ∷ hands) all = all_append (IsPast b) hand.past (all_past hands) all.0.past (past_pieces b hands all.1)

each_in_hands : (b : Bounds) (state : Machine) → IsCounted b state → (p : ℕ) → held p (all_mine state.hands) + held p (all_past state.hands) ≡ once_below state.word p
each_in_hands b state h p = held-hands p state.hands ∙ times-each_below state.word p (flat_map numbers_taken state.hands) h.each_once

pub going_after_run : (b : Bounds) (seats : ℕ) (run : List (ℕ × ℕ)) (state : Machine) → AreTakes b (start_of seats) run state → all_past state.hands ≡ []
    → HasEachBelow state.word (numbers_in (all_mine state.hands))
going_after_run b seats run state takes going =
    each_below_from_times state.word (numbers_in (all_mine state.hands))
    (λ p. omega (arith, each_in_hands b state (counted_after_run b seats run state takes) p, ap (held p) going))

pub ended_after_run : (b : Bounds) (seats : ℕ) (run : List (ℕ × ℕ)) (state : Machine) → AreTakes b (start_of seats) run state
    → 1 ≤ b.least → (m : ℕ) → IsLeast m (map (λ x. x.at) (all_past state.hands)) → HasEachBelow m (numbers_in (all_mine state.hands))
ended_after_run b seats run state takes some m least =
    let h : IsCounted b state = counted_after_run b seats run state takes in
    mine_to_least b m state.word (all_mine state.hands) (all_past state.hands) some (own_pieces b state.hands h.hands) (past_pieces b state.hands h.hands) (each_in_hands b state h) least

-- and where each piece has one number
pub ended_by_ones : (b : Bounds) (seats : ℕ) (run : List (ℕ × ℕ)) (state : Machine) → AreTakes b (start_of seats) run state
    → 1 ≤ b.least → b.most ≤ 1 → ¬ (all_past state.hands ≡ []) → HasEachBelow b.limit (numbers_in (all_mine state.hands))
ended_by_ones b seats run state takes some ones ended =
    let h : IsCounted b state = counted_after_run b seats run state takes in
    mine_to_limit b state.word (all_mine state.hands) (all_past state.hands) some ones (own_pieces b state.hands h.hands) (past_pieces b state.hands h.hands) (each_in_hands b state h) ended
