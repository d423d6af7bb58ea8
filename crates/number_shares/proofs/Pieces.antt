-- Pieces, and the numbers that they hold.
use Rattle.std.proofs.Common.{◌≡◌, ◌∙◌, ℕ, zero, suc, ◌+◌, ◌*◌, ◌<◌, ◌≤◌, List, [], ◌∷◌, ◌++◌, length, refl, sym, ap, inl, inr, arith}
use Rattle.std.specs.List.{AllByRecursion, sum_by, range_with_len}
use Rattle.std.proofs.lemmas.Bool.{cases_eq, cases_lt}
use Rattle.std.proofs.lemmas.List.{append_assoc, length-append}
use Rattle.std.proofs.lemmas.List.FromFn.{length-range_with_len}
use Rattle.std.proofs.lemmas.List.Sums.{sum_by-cons}
use Rattle.number_shares.specs.Once.{times}
use Rattle.number_shares.proofs.Counting.{one_if, one_if-same, one_if-other, once_below, once_below-yes, once_below-no, times-cons, times-append}
use Rattle.number_shares.proofs.Lists.{all_append, all_back, all_front}
use Rattle.number_shares.specs.declared.table.Piece.{Piece}
use Rattle.number_shares.specs.Machine.{piece_numbers, numbers_in}

-- neighbouring numbers
pub times-range-below : (p at n : ℕ) → p < at → times p (range_with_len at n) ≡ 0
times-range-below p at zero below = refl
times-range-below p at (suc n) below =
    let here : one_if p at ≡ 0 = one_if-other p at (λ e. absurd (omega arith)) in
    omega (arith, times-cons p at (range_with_len (at + 1) n), times-range-below p (at + 1) n (omega arith))

pub times-range-above : (p at n : ℕ) → at + n ≤ p → times p (range_with_len at n) ≡ 0
times-range-above p at zero above = refl
times-range-above p at (suc n) above =
    let here : one_if p at ≡ 0 = one_if-other p at (λ e. absurd (omega arith)) in
    omega (arith, times-cons p at (range_with_len (at + 1) n), times-range-above p (at + 1) n (omega arith))

pub times-range-inside : (p at n : ℕ) → at ≤ p → p < at + n → times p (range_with_len at n) ≡ 1
times-range-inside p at zero from to = absurd (omega arith)
times-range-inside p at (suc n) from to =
    elim (cases_eq at p) [
      | inl same ↦
          let here : one_if p at ≡ 1 = one_if-same p at same in
          omega (arith, times-cons p at (range_with_len (at + 1) n), times-range-below p (at + 1) n (omega arith))
      | inr other ↦
          let here : one_if p at ≡ 0 = one_if-other p at other in
          omega (arith, times-cons p at (range_with_len (at + 1) n), times-range-inside p (at + 1) n (omega arith) (omega arith))
    ]

pub times-range-more : (p at n : ℕ) → once_below at p + times p (range_with_len at n) ≡ once_below (at + n) p
times-range-more p at n =
    elim (cases_lt p at) [
      | inl below ↦ omega (arith, once_below-yes at p below, once_below-yes (at + n) p (omega arith), times-range-below p at n below)
      | inr past ↦
          elim (cases_lt p (at + n)) [
            | inl within ↦ omega (arith, once_below-no at p past, once_below-yes (at + n) p within, times-range-inside p at n past within)
            | inr after ↦ omega (arith, once_below-no at p past, once_below-no (at + n) p after, times-range-above p at n after)
          ]
    ]

pub all-range : (at n m : ℕ) → at + n ≤ m → AllByRecursion (λ p. p < m) (range_with_len at n)
all-range at zero m within = tt
all-range at (suc n) m within = (omega arith, all-range (at + 1) n m (omega arith))

pub range-ends : (at n m : ℕ) → 1 ≤ n → AllByRecursion (λ p. p < m) (range_with_len at n) → at + n ≤ m
range-ends at zero m some all = absurd (omega arith)
range-ends at (suc zero) m some all = omega (arith, all.0)
range-ends at (suc (suc n)) m some all = omega (arith, range-ends (at + 1) (suc n) m (omega arith) all.1)

-- how often a piece holds a number, and how often pieces do
abbrev pub covers : ℕ → Piece → ℕ
covers p x = times p (piece_numbers x)

abbrev pub held : ℕ → List Piece → ℕ
held p xs = times p (numbers_in xs)

pub held-cons : (p : ℕ) (x : Piece) (xs : List Piece) → held p (x ∷ xs) ≡ covers p x + held p xs
held-cons p x xs = times-append p (piece_numbers x) (numbers_in xs)

pub numbers-append : (xs ys : List Piece) → numbers_in (xs ++ ys) ≡ numbers_in xs ++ numbers_in ys
numbers-append [] ys = refl
numbers-append (x ∷ xs) ys = ap (λ (l : List ℕ). piece_numbers x ++ l) (numbers-append xs ys) ∙ sym (append_assoc (piece_numbers x) (numbers_in xs) (numbers_in ys))

pub held-append : (p : ℕ) (xs ys : List Piece) → held p (xs ++ ys) ≡ held p xs + held p ys
held-append p xs ys = ap (times p) (numbers-append xs ys) ∙ times-append p (numbers_in xs) (numbers_in ys)

pub held-sum : (p : ℕ) (xs : List Piece) → held p xs ≡ sum_by (covers p) xs
held-sum p [] = refl
held-sum p (x ∷ xs) = omega (arith, held-cons p x xs, held-sum p xs, sum_by-cons (covers p) x xs)

-- how far pieces come
pub numbers_below : (m : ℕ) (xs : List Piece) → AllByRecursion (λ x. x.at + x.cost ≤ m) xs → AllByRecursion (λ p. p < m) (numbers_in xs)
numbers_below m [] all = tt
numbers_below m (x ∷ xs) all = all_append (λ p. p < m) (piece_numbers x) (numbers_in xs) (all-range x.at x.cost m all.0) (numbers_below m xs all.1)

pub pieces_below : (m : ℕ) (xs : List Piece) → AllByRecursion (λ x. 1 ≤ x.cost) xs → AllByRecursion (λ p. p < m) (numbers_in xs) → AllByRecursion (λ x. x.at + x.cost ≤ m) xs
pieces_below m [] some all = tt
pieces_below m (x ∷ xs) some all =
    (range-ends x.at x.cost m some.0 (all_front (λ p. p < m) (piece_numbers x) (numbers_in xs) all), pieces_below m xs some.1 (all_back (λ p. p < m) (piece_numbers x) (numbers_in xs) all))

-- so many numbers do so many pieces hold, at most
pub length-numbers-le : (most : ℕ) (xs : List Piece) → AllByRecursion (λ x. x.cost ≤ most) xs → length (numbers_in xs) ≤ most * length xs
length-numbers-le most [] all = omega arith
length-numbers-le most (x ∷ xs) all =
    let rest : length (numbers_in xs) ≤ most * length xs = length-numbers-le most xs all.1 in
    let here : length (numbers_in (x ∷ xs)) ≡ x.cost + length (numbers_in xs) = omega (arith, length-append (piece_numbers x) (numbers_in xs), length-range_with_len x.at x.cost) in
    let more : most * length (x ∷ xs) ≡ most * length xs + most = grind arith in
    omega (arith, all.0)
