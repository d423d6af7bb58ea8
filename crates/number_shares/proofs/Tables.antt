-- Each step keeps the rule of the table that numbers are taken from.
use Rattle.std.proofs.Common.{◌≡◌, ◌∙◌, ℕ, ◌+◌, ◌*◌, ◌-◌, ◌^◌, ◌%◌, ◌<◌, ◌≤◌, Some, List, [], ◌∷◌, ◌++◌, length, set, refl, sym, ap, subst, inl, inr, arith}
use Rattle.std.specs.List.{AllByRecursion, flat_map, sum_by, slice_get, slice_index}
use Rattle.std.proofs.Math.Nat.{mul-le-mul_left}
use Rattle.std.proofs.lemmas.Bool.{cases_lt}
use Rattle.std.proofs.lemmas.List.{length-append, length-set}
use Rattle.std.proofs.lemmas.List.Sums.{sum_by-cons}
use mathlib.Core.Option.{some, none}
use lib.ListN.{get_elem?}
use Rattle.atomic_table.specs.Table.{State, Me, step, stepped, opening, keeps, Allows, Splits, Joins}
use Rattle.number_shares.specs.Once.{HasEachBelow}
use Rattle.number_shares.specs.Shared.{IsEither, IsShared}
use Rattle.number_shares.proofs.Counting.{times-each_below, among, among-append, among-below, among-each}
use Rattle.number_shares.proofs.Lists.{all_append, all_front, all_map, slice_get_at, word_set}
use Rattle.number_shares.proofs.Shares.{IsFit, works_at, works_apart, shared_take, shared_split, shared_join, shared_alone, numbers_below as numbers_below_word}
use Rattle.number_shares.specs.declared.table.Piece.{Piece}
use Rattle.number_shares.specs.declared.table.Bounds.{Bounds}
use Rattle.number_shares.specs.declared.table.SeatView.{SeatView}
use Rattle.number_shares.specs.declared.table.Terms.{Terms}
use Rattle.number_shares.specs.Machine.{numbers_in, numbers_taken, pieces_of, IsHand, IsMine, IsPast, empty_hand, taken}
use Rattle.number_shares.specs.Rule.{AreTerms, first_view, word_limit, view_less_one, view_of_one, joined_view, joined_before, joined_behind, spent_view, hand_of, with_piece, TellsTake, IsAtWork, sharing, IsKept}
use Rattle.number_shares.proofs.Machines.{IsHand-taken, held-taken, taken-both, among-hand}
use Rattle.number_shares.proofs.PastPieces.{mine_to_limit}
use Rattle.number_shares.proofs.Pieces.{held, held-append, numbers-append, pieces_below, times-range-more}

fit : (b : Bounds) → IsFit (sharing b)
fit b = record { some = λ v h. h.weight; none = refl; empty = refl }

-- how often a view's pieces hold a number
abbrev in_view : ℕ → SeatView → ℕ
in_view p v = held p (pieces_of (hand_of v))

-- so many numbers are past the limit, at most
among-view : (b : Bounds) (k : ℕ) (v : SeatView) → IsEither (sharing b) v → among b.limit k (numbers_taken (hand_of v)) ≤ b.most * v.weight
among-view b k v (inl spent) =
    let nothing : among b.limit k (numbers_taken (hand_of v)) ≡ among b.limit k [] = ap (λ (u : SeatView). among b.limit k (numbers_taken (hand_of u))) spent in
    omega (arith, among-below b.limit k [] tt)
among-view b k v (inr h) =
    let few : b.most * length v.past ≤ b.most * v.weight = mul-le-mul_left b.most h.ends in
    omega (arith, among-hand b k (hand_of v) h.hand)

times_sum : (m x y : ℕ) → m * (x + y) ≡ m * x + m * y
times_sum m x y = grind arith

among-views : (b : Bounds) (k : ℕ) (views : List SeatView) → AllByRecursion (IsEither (sharing b)) views
    → among b.limit k (flat_map (sharing b).numbers views) ≤ b.most * sum_by (λ v. v.weight) views
among-views b k [] all = omega (arith, among-below b.limit k [] tt)
among-views b k (v ∷ views) all =
    let cut : b.most * sum_by (λ (u : SeatView). u.weight) (v ∷ views) ≡ b.most * v.weight + b.most * sum_by (λ (u : SeatView). u.weight) views =
    ap (λ (n : ℕ). b.most * n) (sum_by-cons (λ (u : SeatView). u.weight) v views) ∙ times_sum b.most v.weight (sum_by (λ (u : SeatView). u.weight) views) in
    omega (arith, among-append b.limit k (numbers_taken (hand_of v)) (flat_map (sharing b).numbers views), among-view b k v all.0, among-views b k views all.1)

-- so the word never wraps
pub word_small : (terms : Terms) (s : State (Unit {0}) SeatView) → IsKept terms s → slice_index s.words 0 ≤ word_limit terms.bounds
word_small terms s h =
    let b : Bounds = terms.bounds in
    let word : ℕ = slice_index s.words 0 in
    elim (cases_lt b.limit word) [
      | inl past ↦
          let k : ℕ = word - b.limit in
          let all : b.most * sum_by (λ (v : SeatView). v.weight) s.views ≤ b.most * 16 = mul-le-mul_left b.most (omega (arith, h.shared.weights, h.fit.seats_at_most)) in
          omega (arith, among-each b.limit k word (flat_map (sharing b).numbers s.views) h.shared.each_once (omega arith), among-views b k s.views h.shared.either)
      | inr within ↦ omega arith
    ]

-- the table as it is made
pub opens : (terms : Terms) → AreTerms terms → IsKept terms (opening (0 ∷ []) [] (first_view terms))
opens terms h =
    let nothing : IsHand terms.bounds empty_hand = record { mine = tt; past = tt } in
    record {
      one_word = refl;
      shared = record {
        each_once = record { once = λ p below. absurd (omega arith); no_other = tt };
        either = (inr (record { hand = nothing; bounds = refl; weight = h.some_seat; ends = omega arith }), tt);
        weights = omega arith;
      };
      fit = h;
    }

at_work_after : (b : Bounds) (x : Piece) (v : SeatView) → b.least ≤ x.cost → x.cost ≤ b.most → IsAtWork b v → v.past ≡ [] → IsAtWork b (with_piece x v)
at_work_after b x v enough few h going =
    record {
      hand = subst (λ (c : Bounds). IsHand b (taken c.limit x (hand_of v))) (sym h.bounds) (IsHand-taken b x (hand_of v) enough few h.hand);
      bounds = h.bounds;
      weight = h.weight;
      ends = taken-both (λ hand. length hand.past ≤ v.weight) v.bounds.limit x (hand_of v)
          (λ _. h.ends)
          (λ _. omega (arith, h.weight, ap length going, length-append v.past (x ∷ [])));
    }

-- the view at a number has the table's bounds
pub bounds_at : (terms : Terms) (s : State (Unit {0}) SeatView) (id : ℕ) (v : SeatView) → IsKept terms s → get_elem? s.views id ≡ some v → 1 ≤ v.weight → v.bounds ≡ terms.bounds
bounds_at terms s id v h at stands =
    (works_at (sharing terms.bounds) (fit terms.bounds) (slice_index s.words 0) terms.seats s.views id v h.shared (slice_get_at s.views id v at) stands).bounds

-- a piece is taken
pub takes : (terms : Terms) (slots id cost : ℕ) (me : Me (Unit {0}) SeatView) → 1 ≤ me.0.weight → me.0.past ≡ []
    → terms.bounds.least ≤ cost → cost ≤ terms.bounds.most
    → Allows (IsKept terms) slots id me 0 (λ n. (n + cost) % 2 ^ 64) (TellsTake (step slots 0 cost 0 none) me)
takes terms slots id cost me stands going enough few s h long at small =
    let b : Bounds = terms.bounds in
    let v : SeatView = me.0 in
    let word : ℕ = slice_index s.words 0 in
    let x : Piece = record { at = word; cost = cost } in
    let after : SeatView = with_piece x v in
    let sits : slice_get s.views id ≡ Some v = slice_get_at s.views id v at in
    let mine : IsAtWork b v = works_at (sharing b) (fit b) word terms.seats s.views id v h.shared sits stands in
    let low : word ≤ word_limit b = word_small terms s h in
    let new : slice_index (set s.words 0 ((word + cost) % 2 ^ 64)) 0 ≡ word + cost = word_set s.words ((word + cost) % 2 ^ 64) h.one_word ∙ omega (arith, h.fit.few, h.fit.limit) in
    let weight : after.weight ≡ v.weight = refl in
    let shared : IsShared (sharing b) (word + cost) terms.seats (set s.views id after) =
    shared_take (sharing b) word terms.seats cost s.views id v after h.shared sits (at_work_after b x v enough few mine going) weight
    (λ p. omega (arith, held-taken p v.bounds.limit x (hand_of v), times-range-more p word cost)) in
    let kept : IsKept terms (stepped s 0 ((word + cost) % 2 ^ 64) id [] after keeps) = record {
      one_word = length-set s.words 0 ((word + cost) % 2 ^ 64) ∙ h.one_word;
      shared = subst (λ (w : ℕ). IsShared (sharing b) w terms.seats (set s.views id after)) (sym new) shared;
      fit = h.fit;
    } in
    let below : AllByRecursion (λ y. y.at + y.cost ≤ word) v.mine =
    pieces_below word v.mine (all_map (IsMine b) (λ y. 1 ≤ y.cost) v.mine (λ y g. omega (arith, g.some, h.fit.some)) mine.hand.mine)
    (all_front (λ p. p < word) (numbers_in v.mine) (numbers_in v.past)
    (subst (AllByRecursion (λ p. p < word)) (numbers-append v.mine v.past) (numbers_below_word (sharing b) word terms.seats s.views id v h.shared sits))) in
    (after, keeps, tt, kept, record { small = subst (λ (c : Bounds). word ≤ word_limit c) (sym mine.bounds) low; above = below; view = refl; slots = refl })

-- a seat of its own, split off before any piece is taken
pub splits : (terms : Terms) (id : ℕ) (v : SeatView) → 2 ≤ v.weight → v.past ≡ [] → Splits (IsKept terms) id v (view_less_one v) (view_of_one v)
splits terms id v stands going s h at =
    let b : Bounds = terms.bounds in
    let word : ℕ = slice_index s.words 0 in
    let sits : slice_get s.views id ≡ Some v = slice_get_at s.views id v at in
    let mine : IsAtWork b v = works_at (sharing b) (fit b) word terms.seats s.views id v h.shared sits (omega arith) in
    let nothing : IsHand b (hand_of (view_of_one v)) = record { mine = tt; past = tt } in
    record {
      one_word = h.one_word;
      shared = shared_split (sharing b) word terms.seats s.views id v (view_less_one v) (view_of_one v) h.shared sits
          (record { hand = mine.hand; bounds = mine.bounds; weight = omega arith; ends = omega (arith, ap length going) })
          (record { hand = nothing; bounds = mine.bounds; weight = omega arith; ends = omega arith })
          (omega arith)
          (λ p. omega arith);
      fit = h.fit;
    }

-- a seat that takes in another, whose pieces go somewhere beside its own
joins : (terms : Terms) (id : ℕ) (v : SeatView) (other : ℕ) (w : SeatView) (all : List Piece) → 1 ≤ v.weight → 1 ≤ w.weight
    → (AllByRecursion (IsMine terms.bounds) v.mine → AllByRecursion (IsMine terms.bounds) w.mine → AllByRecursion (IsMine terms.bounds) all)
    → ((p : ℕ) → held p all ≡ held p v.mine + held p w.mine)
    → Joins (IsKept terms) id v other w (joined_view all v w) spent_view
joins terms id v other w all stands stands' each holds s h at apart at' =
    let b : Bounds = terms.bounds in
    let word : ℕ = slice_index s.words 0 in
    let both : SeatView = joined_view all v w in
    let sits : slice_get s.views id ≡ Some v = slice_get_at s.views id v at in
    let sits' : slice_get (set s.views id both) other ≡ Some w = slice_get_at (set s.views id both) other w at' in
    let mine : IsAtWork b v = works_at (sharing b) (fit b) word terms.seats s.views id v h.shared sits stands in
    let theirs : IsAtWork b w = works_apart (sharing b) (fit b) word terms.seats s.views id other w both h.shared apart sits' stands' in
    let works : IsAtWork b both = record {
      hand = record {
        mine = each mine.hand.mine theirs.hand.mine;
        past = all_append (IsPast b) w.past v.past theirs.hand.past mine.hand.past;
      };
      bounds = mine.bounds;
      weight = omega (arith, mine.weight);
      ends = omega (arith, mine.ends, theirs.ends, length-append w.past v.past);
    } in
    let in_both : (p : ℕ) → in_view p both ≡ in_view p v + in_view p w =
    λ p. omega (arith, holds p, held-append p all (w.past ++ v.past), held-append p w.past v.past, held-append p v.mine v.past, held-append p w.mine w.past) in
    record {
      one_word = h.one_word;
      shared = shared_join (sharing b) (fit b) word terms.seats s.views id other v w both h.shared sits apart sits' works refl in_both;
      fit = h.fit;
    }

pub joins_before : (terms : Terms) (id : ℕ) (v : SeatView) (other : ℕ) (w : SeatView) → 1 ≤ v.weight → 1 ≤ w.weight
    → Joins (IsKept terms) id v other w (joined_before v w) spent_view
joins_before terms id v other w stands stands' =
    joins terms id v other w (w.mine ++ v.mine) stands stands'
    (λ here there. all_append (IsMine terms.bounds) w.mine v.mine there here)
    (λ p. omega (arith, held-append p w.mine v.mine))

pub joins_behind : (terms : Terms) (id : ℕ) (v : SeatView) (other : ℕ) (w : SeatView) → 1 ≤ v.weight → 1 ≤ w.weight
    → Joins (IsKept terms) id v other w (joined_behind v w) spent_view
joins_behind terms id v other w stands stands' =
    joins terms id v other w (v.mine ++ w.mine) stands stands'
    (all_append (IsMine terms.bounds) v.mine w.mine)
    (held-both v.mine w.mine)
  where
    held-both : (xs ys : List Piece) (p : ℕ) → held p (xs ++ ys) ≡ held p xs + held p ys
    held-both xs ys p = held-append p xs ys

-- the table as it is closed with the seat that took in all others
pub closed : (terms : Terms) (s : State (Unit {0}) SeatView) (id : ℕ) (v : SeatView)
    → IsKept terms s → get_elem? s.views id ≡ some v → v.weight ≡ terms.seats
    → IsHand terms.bounds (hand_of v) × HasEachBelow (slice_index s.words 0) (numbers_taken (hand_of v))
closed terms s id v h at whole =
    let b : Bounds = terms.bounds in
    let word : ℕ = slice_index s.words 0 in
    let sits : slice_get s.views id ≡ Some v = slice_get_at s.views id v at in (
      (works_at (sharing b) (fit b) word terms.seats s.views id v h.shared sits (omega (arith, h.fit.some_seat))).hand,
      shared_alone (sharing b) (fit b) word terms.seats s.views id v h.shared sits whole,
    )

-- and where each piece has one number, and some seat has ended
pub closed_by_ones : (terms : Terms) (s : State (Unit {0}) SeatView) (id : ℕ) (v : SeatView)
    → IsKept terms s → get_elem? s.views id ≡ some v → v.weight ≡ terms.seats → terms.bounds.most ≤ 1 → ¬ (v.past ≡ [])
    → HasEachBelow terms.bounds.limit (numbers_in v.mine)
closed_by_ones terms s id v h at whole ones ended =
    let word : ℕ = slice_index s.words 0 in
    let end : IsHand terms.bounds (hand_of v) × HasEachBelow word (numbers_taken (hand_of v)) = closed terms s id v h at whole in
    mine_to_limit terms.bounds word v.mine v.past h.fit.some ones end.0.mine end.0.past
    (λ p. sym (held-append p v.mine v.past) ∙ times-each_below word p (numbers_taken (hand_of v)) end.1)
    ended
