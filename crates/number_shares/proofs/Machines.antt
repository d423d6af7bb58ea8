-- What holds of the machine after any run.
use Rattle.std.proofs.Common.{◌≡◌, ◌∙◌, ℕ, ◌+◌, ◌*◌, ◌<◌, ◌≤◌, List, [], ◌∷◌, ◌++◌, length, set, leb, sym, ap, subst, arith}
use Rattle.std.specs.List.{AllByRecursion, flat_map}
use Rattle.std.proofs.lemmas.Bool.{cond_both, cond-true, cond-false, leb-true, leb-false, le-leb, lt-leb}
use Rattle.number_shares.specs.Once.{HasEachBelow}
use Rattle.number_shares.proofs.Counting.{times-flat_map, times-each_below, each_below_from_times, among, among-append, among-below, among-le-length}
use Rattle.number_shares.proofs.Lists.{all_at, all_set, all_push, sum_by-set_at, all_map}
use Rattle.number_shares.specs.declared.table.Piece.{Piece}
use Rattle.number_shares.specs.declared.table.Bounds.{Bounds}
use Rattle.number_shares.specs.Machine.{numbers_in, numbers_taken, pieces_of, Hand, Machine, IsHand, IsMine, IsPast, IsCounted, IsTake, with_mine, with_past, taken}
use Rattle.number_shares.proofs.Pieces.{covers, held, held-cons, held-append, numbers-append, numbers_below, length-numbers-le, times-range-more}

-- what holds of both holds of the hand with one more piece
pub taken-both : (P : Hand → Type 0) (limit : ℕ) (x : Piece) (hand : Hand)
    → (x.at + x.cost ≤ limit → P (with_mine x hand)) → (limit < x.at + x.cost → P (with_past x hand)) → P (taken limit x hand)
taken-both P limit x hand mine past =
    cond_both (leb (x.at + x.cost) limit) (with_mine x hand) (with_past x hand) P
    (λ e. mine (leb-true (x.at + x.cost) limit e))
    (λ e. past (leb-false (x.at + x.cost) limit e))

pub taken-mine : (limit : ℕ) (x : Piece) (hand : Hand) → x.at + x.cost ≤ limit → taken limit x hand ≡ with_mine x hand
taken-mine limit x hand within = cond-true (leb (x.at + x.cost) limit) _ _ (le-leb (x.at + x.cost) limit within)

pub taken-past : (limit : ℕ) (x : Piece) (hand : Hand) → limit < x.at + x.cost → taken limit x hand ≡ with_past x hand
taken-past limit x hand over = cond-false (leb (x.at + x.cost) limit) _ _ (lt-leb (x.at + x.cost) limit over)

pub IsHand-taken : (b : Bounds) (x : Piece) (hand : Hand) → b.least ≤ x.cost → x.cost ≤ b.most → IsHand b hand → IsHand b (taken b.limit x hand)
IsHand-taken b x hand enough few h =
    taken-both (IsHand b) b.limit x hand
    (λ within. record { mine = all_push (IsMine b) hand.mine x (record { some = enough; few = few; ends = within }) h.mine; past = h.past })
    (λ over. record { mine = h.mine; past = all_push (IsPast b) hand.past x (record { some = enough; few = few; ends = over }) h.past })

-- how often a hand with one more piece holds a number
pub held-taken : (p limit : ℕ) (x : Piece) (hand : Hand) → held p (pieces_of (taken limit x hand)) ≡ held p (pieces_of hand) + covers p x
held-taken p limit x hand =
    let one : held p (x ∷ []) ≡ covers p x = omega (arith, held-cons p x []) in
    let all : held p (pieces_of hand) ≡ held p hand.mine + held p hand.past = held-append p hand.mine hand.past in
    taken-both (λ g. held p (pieces_of g) ≡ held p (pieces_of hand) + covers p x) limit x hand
    (λ _. omega (arith, held-append p (hand.mine ++ x ∷ []) hand.past, held-append p hand.mine (x ∷ [])))
    (λ _. omega (arith, held-append p hand.mine (hand.past ++ x ∷ []), held-append p hand.past (x ∷ [])))

-- so many numbers past the limit does a hand hold, at most
pub among-hand : (b : Bounds) (k : ℕ) (hand : Hand) → IsHand b hand → among b.limit k (numbers_taken hand) ≤ b.most * length hand.past
among-hand b k hand h =
    let cut : among b.limit k (numbers_taken hand) ≡ among b.limit k (numbers_in hand.mine) + among b.limit k (numbers_in hand.past) =
    ap (among b.limit k) (numbers-append hand.mine hand.past) ∙ among-append b.limit k (numbers_in hand.mine) (numbers_in hand.past) in
    let mine : among b.limit k (numbers_in hand.mine) ≡ 0 = among-below b.limit k (numbers_in hand.mine) (numbers_below b.limit hand.mine (all_map (IsMine b) (λ x. x.at + x.cost ≤ b.limit) hand.mine (λ x g. g.ends) h.mine)) in
    omega (arith, among-le-length b.limit k (numbers_in hand.past), length-numbers-le b.most hand.past (all_map (IsPast b) (λ x. x.cost ≤ b.most) hand.past (λ x g. g.few) h.past))

-- an event leaves all counted
pub counted_after_take : (b : Bounds) (old : Machine) (seat cost : ℕ) (new : Machine) → IsCounted b old → IsTake b old seat cost new → IsCounted b new
counted_after_take b old seat cost new h take =
    let hand : Hand = take.hand in
    let x : Piece = record { at = old.word; cost = cost } in
    let after : Hand = taken b.limit x hand in
    let hands : AllByRecursion (IsHand b) (set old.hands seat after) =
    all_set (IsHand b) old.hands seat after (IsHand-taken b x hand take.some take.few (all_at (IsHand b) old.hands seat hand take.sits h.hands)) h.hands in
    let counted : HasEachBelow (old.word + cost) (flat_map numbers_taken (set old.hands seat after)) =
    each_below_from_times (old.word + cost) (flat_map numbers_taken (set old.hands seat after))
    (λ p. omega (
      arith,
      times-flat_map p numbers_taken (set old.hands seat after),
      times-flat_map p numbers_taken old.hands,
      sum_by-set_at (λ (g : Hand). held p (pieces_of g)) old.hands seat hand after take.sits,
      held-taken p b.limit x hand,
      times-each_below old.word p (flat_map numbers_taken old.hands) h.each_once,
      times-range-more p old.word cost,
    )) in
    record {
      each_once = subst (λ (w : ℕ). HasEachBelow w (flat_map numbers_taken new.hands)) (sym take.word) (subst (λ (hs : List Hand). HasEachBelow (old.word + cost) (flat_map numbers_taken hs)) (sym take.hands) counted);
      hands = subst (AllByRecursion (IsHand b)) (sym take.hands) hands;
    }
