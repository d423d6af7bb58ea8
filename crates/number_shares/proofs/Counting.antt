-- How often numbers stand in lists.
use Rattle.std.proofs.Common.{◌≡◌, ◌∙◌, ℕ, zero, suc, ◌+◌, ◌<◌, ◌≤◌, ◌⊎◌, cond, List, [], ◌∷◌, ◌++◌, length, ltb, refl, sym, ap, subst, inl, inr, arith}
use Rattle.std.proofs.Math.Dec.{eqb}
use Rattle.std.specs.List.{AllByRecursion, flat_map, sum_by}
use Rattle.std.proofs.lemmas.Bool.{cond-true, cond-false, cases_eq, cases_lt, eq-eqb, ne_eqb, lt-ltb, le-ltb}
use Rattle.std.proofs.lemmas.List.Sums.{sum_by-append, sum_by-cons}
use Rattle.number_shares.specs.Once.{times, HasEachBelow}

-- how often a number stands in a list of this one alone
abbrev pub one_if : ℕ → ℕ → ℕ
one_if p q = cond (eqb q p) 1 0

pub one_if-same : (p q : ℕ) → q ≡ p → one_if p q ≡ 1
one_if-same p q is = cond-true (eqb q p) 1 0 (eq-eqb q p is)

pub one_if-other : (p q : ℕ) → ¬ (q ≡ p) → one_if p q ≡ 0
one_if-other p q not = cond-false (eqb q p) 1 0 (ne_eqb q p not)

pub times-cons : (p q : ℕ) (xs : List ℕ) → times p (q ∷ xs) ≡ one_if p q + times p xs
times-cons p q xs = sum_by-cons (λ q. cond (eqb q p) 1 0) q xs

pub times-append : (p : ℕ) (xs ys : List ℕ) → times p (xs ++ ys) ≡ times p xs + times p ys
times-append p xs ys = sum_by-append (λ q. cond (eqb q p) 1 0) xs ys

pub times-flat_map : {X : Type 0} (p : ℕ) (f : X → List ℕ) (xs : List X) → times p (flat_map f xs) ≡ sum_by (λ x. times p (f x)) xs
times-flat_map p f [] = refl
times-flat_map p f (x ∷ xs) =
    times-append p (f x) (flat_map f xs)
    ∙ ap (λ n. times p (f x) + n) (times-flat_map p f xs)
    ∙ sym (sum_by-cons (λ x. times p (f x)) x xs)

-- a number that stands below none of the list's stands there not at all
pub times-none : (P : ℕ → Type 0) (p : ℕ) (xs : List ℕ) → ¬ (P p) → AllByRecursion P xs → times p xs ≡ 0
times-none P p [] not all = refl
times-none P p (q ∷ xs) not all =
    let head : one_if p q ≡ 0 = one_if-other p q (λ e. not (subst P e all.0)) in
    let tail : times p xs ≡ 0 = times-none P p xs not all.1 in
    omega (arith, times-cons p q xs)

-- where no other number stands in a list, all meet what these do
pub all_from_times : (P : ℕ → Type 0) (xs : List ℕ) → ((p : ℕ) → P p ⊎ (times p xs ≡ 0)) → AllByRecursion P xs
all_from_times P [] each = tt
all_from_times P (q ∷ xs) each =
    let same : one_if q q ≡ 1 = one_if-same q q refl in (
      elim (each q) [ inl here ↦ here | inr none ↦ absurd (omega (arith, times-cons q q xs)) ],
      all_from_times P xs (λ p. elim (each p) [ inl here ↦ inl here | inr none ↦ inr (omega (arith, times-cons p q xs)) ]),
    )

-- once for each number below n, and else never
abbrev pub once_below : ℕ → ℕ → ℕ
once_below n p = cond (ltb p n) 1 0

pub once_below-yes : (n p : ℕ) → p < n → once_below n p ≡ 1
once_below-yes n p below = cond-true (ltb p n) 1 0 (lt-ltb p n below)

pub once_below-no : (n p : ℕ) → n ≤ p → once_below n p ≡ 0
once_below-no n p past = cond-false (ltb p n) 1 0 (le-ltb p n past)

pub once_below-more : (n p : ℕ) → once_below (n + 1) p ≡ once_below n p + one_if p n
once_below-more n p =
    elim (cases_lt p n) [
      | inl below ↦
          let a : once_below (n + 1) p ≡ 1 = once_below-yes (n + 1) p (omega arith) in
          let b : once_below n p ≡ 1 = once_below-yes n p below in
          let c : one_if p n ≡ 0 = one_if-other p n (λ e. absurd (omega arith)) in
          omega arith
      | inr past ↦
          let b : once_below n p ≡ 0 = once_below-no n p past in
          elim (cases_eq n p) [
            | inl same ↦
                let a : once_below (n + 1) p ≡ 1 = once_below-yes (n + 1) p (omega arith) in
                let c : one_if p n ≡ 1 = one_if-same p n same in
                omega arith
            | inr other ↦
                let a : once_below (n + 1) p ≡ 0 = once_below-no (n + 1) p (omega arith) in
                let c : one_if p n ≡ 0 = one_if-other p n other in
                omega arith
          ]
    ]

-- so often does each number stand in a list that has each below n once
pub times-each_below : (n p : ℕ) (xs : List ℕ) → HasEachBelow n xs → times p xs ≡ once_below n p
times-each_below n p xs h =
    elim (cases_lt p n) [
      | inl below ↦ h.once p below ∙ sym (once_below-yes n p below)
      | inr past ↦ times-none (λ q. q < n) p xs (λ below. absurd (omega arith)) h.no_other ∙ sym (once_below-no n p past)
    ]

pub each_below_from_times : (n : ℕ) (xs : List ℕ) → ((p : ℕ) → times p xs ≡ once_below n p) → HasEachBelow n xs
each_below_from_times n xs each =
    record {
      once = λ p below. each p ∙ once_below-yes n p below;
      no_other = all_from_times (λ q. q < n) xs (λ p. elim (cases_lt p n) [ inl below ↦ inl below | inr past ↦ inr (each p ∙ once_below-no n p past) ]);
    }

-- how many of a list's numbers are among the k from n on
abbrev pub among : ℕ → ℕ → List ℕ → ℕ
among n zero xs = 0
among n (suc k) xs = among n k xs + times (n + k) xs

pub among-append : (n k : ℕ) (xs ys : List ℕ) → among n k (xs ++ ys) ≡ among n k xs + among n k ys
among-append n zero xs ys = refl
among-append n (suc k) xs ys = omega (arith, among-append n k xs ys, times-append (n + k) xs ys)

-- one number is there once at most
record IsOnce (n k q : ℕ) : Type 0 where
  once : among n k (q ∷ []) ≤ 1
  past : n + k ≤ q → among n k (q ∷ []) ≡ 0
  within : n ≤ q → q < n + k → among n k (q ∷ []) ≡ 1

among-one : (n k q : ℕ) → IsOnce n k q
among-one n zero q = record { once = omega arith; past = λ _. refl; within = λ from to. absurd (omega arith) }
among-one n (suc k) q =
    let h : IsOnce n k q = among-one n k q in
    elim (cases_eq q (n + k)) [
      | inl same ↦
          let here : one_if (n + k) q ≡ 1 = one_if-same (n + k) q same in
          let before : among n k (q ∷ []) ≡ 0 = h.past (omega arith) in
          record { once = omega (arith, times-cons (n + k) q []); past = λ past. absurd (omega arith); within = λ from to. omega (arith, times-cons (n + k) q []) }
      | inr other ↦
          let here : one_if (n + k) q ≡ 0 = one_if-other (n + k) q other in
          record { once = omega (arith, h.once, times-cons (n + k) q []); past = λ past. omega (arith, h.past (omega arith), times-cons (n + k) q []); within = λ from to. omega (arith, h.within from (omega arith), times-cons (n + k) q []) }
    ]

among-nil : (n k : ℕ) → among n k [] ≡ 0
among-nil n zero = refl
among-nil n (suc k) = omega (arith, among-nil n k)

pub among-le-length : (n k : ℕ) (xs : List ℕ) → among n k xs ≤ length xs
among-le-length n k [] = omega (arith, among-nil n k)
among-le-length n k (q ∷ xs) = omega (arith, among-append n k (q ∷ []) xs, (among-one n k q).once, among-le-length n k xs)

pub among-below : (n k : ℕ) (xs : List ℕ) → AllByRecursion (λ p. p < n) xs → among n k xs ≡ 0
among-below n zero xs all = refl
among-below n (suc k) xs all =
    omega (arith, among-below n k xs all, times-none (λ p. p < n) (n + k) xs (λ below. absurd (omega arith)) all)

pub among-each : (n k w : ℕ) (xs : List ℕ) → HasEachBelow w xs → n + k ≤ w → among n k xs ≡ k
among-each n zero w xs h within = refl
among-each n (suc k) w xs h within = omega (arith, among-each n k w xs h (omega arith), h.once (n + k) (omega arith))

-- numbers below n are all among the n from 0 on
among-all : (n : ℕ) (xs : List ℕ) → AllByRecursion (λ p. p < n) xs → among 0 n xs ≡ length xs
among-all n [] all = among-nil 0 n
among-all n (q ∷ xs) all = omega (arith, among-append 0 n (q ∷ []) xs, (among-one 0 n q).within (omega arith) (omega (arith, all.0)), among-all n xs all.1)

pub length-each_below : (n : ℕ) (xs : List ℕ) → HasEachBelow n xs → length xs ≡ n
length-each_below n xs h = sym (among-all n xs h.no_other) ∙ among-each 0 n n xs h (omega arith)

pub times-each_below-le : (n p : ℕ) (xs : List ℕ) → HasEachBelow n xs → times p xs ≤ 1
times-each_below-le n p xs h =
    elim (cases_lt p n) [
      | inl below ↦ omega (arith, h.once p below)
      | inr past ↦ omega (arith, times-none (λ q. q < n) p xs (λ below. absurd (omega arith)) h.no_other)
    ]
