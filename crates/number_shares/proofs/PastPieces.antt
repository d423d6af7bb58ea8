-- Pieces that end above the limit, beside those that end at or below it.
use Rattle.std.proofs.Common.{◌≡◌, ◌∙◌, ℕ, zero, suc, ◌+◌, ◌<◌, ◌≤◌, Some, List, [], ◌∷◌, map, refl, sym, ap, subst, inl, inr, arith}
use Rattle.std.specs.List.{AllByRecursion, range_with_len, slice_get}
use Rattle.std.proofs.lemmas.Bool.{cases_lt}
use Rattle.number_shares.specs.Once.{HasEachBelow}
use Rattle.number_shares.proofs.Counting.{once_below, once_below-yes, once_below-no, times-none, each_below_from_times}
use Rattle.number_shares.proofs.Lists.{all_append, all_map}
use Rattle.number_shares.specs.declared.table.Piece.{Piece}
use Rattle.number_shares.specs.declared.table.Bounds.{Bounds}
use Rattle.number_shares.specs.Machine.{piece_numbers, numbers_in, IsMine, IsPast}
use Rattle.number_shares.specs.Least.{IsLeast}
use Rattle.number_shares.proofs.Pieces.{covers, held, held-cons, numbers_below, times-range-below, times-range-inside}

-- once_below, read
pub once-le : (n p : ℕ) → once_below n p ≤ 1
once-le n p = elim (cases_lt p n) [ inl below ↦ omega (arith, once_below-yes n p below) | inr past ↦ omega (arith, once_below-no n p past) ]

pub once-below : (n p : ℕ) → 1 ≤ once_below n p → p < n
once-below n p one = elim (cases_lt p n) [ inl below ↦ below | inr past ↦ absurd (omega (arith, once_below-no n p past)) ]

pub once-past : (n p : ℕ) → once_below n p ≡ 0 → n ≤ p
once-past n p none = elim (cases_lt p n) [ inl below ↦ absurd (omega (arith, once_below-yes n p below)) | inr past ↦ past ]

-- up to the limit, a later number is held by no fewer of the pieces that end above it
covers-grows : (b : Bounds) (p q : ℕ) (x : Piece) → p ≤ q → q ≤ b.limit → IsPast b x → covers p x ≤ covers q x
covers-grows b p q x up within over =
    elim (cases_lt p x.at) [
      | inl before ↦ omega (arith, times-range-below p x.at x.cost before)
      | inr from ↦ omega (arith, times-range-inside q x.at x.cost (omega arith) (omega (arith, over.ends)), times-range-inside p x.at x.cost from (omega (arith, over.ends)))
    ]

pub held-grows : (b : Bounds) (p q : ℕ) (xs : List Piece) → p ≤ q → q ≤ b.limit → AllByRecursion (IsPast b) xs → held p xs ≤ held q xs
held-grows b p q [] up within all = omega arith
held-grows b p q (x ∷ xs) up within all = omega (arith, held-cons p x xs, held-cons q x xs, covers-grows b p q x up within all.0, held-grows b p q xs up within all.1)

-- a number before all places is held by no piece
held-before_all : (p m : ℕ) (xs : List Piece) → p < m → AllByRecursion (λ n. m ≤ n) (map (λ x. x.at) xs) → held p xs ≡ 0
held-before_all p m [] before all = refl
held-before_all p m (x ∷ xs) before all =
    omega (arith, held-cons p x xs, times-range-below p x.at x.cost (omega (arith, all.0)), held-before_all p m xs before all.1)

-- where a piece begins, one holds the number
covers-at : (b : Bounds) (x : Piece) → 1 ≤ b.least → IsPast b x → covers x.at x ≡ 1
covers-at b x some over = times-range-inside x.at x.at x.cost (omega arith) (omega (arith, some, over.some))

held-at : (b : Bounds) (m k : ℕ) (xs : List Piece) → 1 ≤ b.least → AllByRecursion (IsPast b) xs → slice_get (map (λ x. x.at) xs) k ≡ Some m → 1 ≤ held m xs
held-at b m k [] some over at = cc
held-at b m zero (x ∷ xs) some over at =
    let same : x.at ≡ m = cc in
    omega (arith, held-cons m x xs, subst (λ (n : ℕ). covers n x ≡ 1) same (covers-at b x some over.0))
held-at b m (suc k) (x ∷ xs) some over at = omega (arith, held-cons m x xs, held-at b m k xs some over.1 at)

-- the pieces that end at or below the limit hold numbers below it
mine_below : (b : Bounds) (mine : List Piece) → AllByRecursion (IsMine b) mine → AllByRecursion (λ p. p < b.limit) (numbers_in mine)
mine_below b mine own = numbers_below b.limit mine (all_map (IsMine b) (λ x. x.at + x.cost ≤ b.limit) mine (λ x g. g.ends) own)

-- where some begin above the limit's reach, the others hold each number below the least of these once, and no other
pub mine_to_least : (b : Bounds) (m word : ℕ) (mine past : List Piece) → 1 ≤ b.least → AllByRecursion (IsMine b) mine → AllByRecursion (IsPast b) past
    → ((p : ℕ) → held p mine + held p past ≡ once_below word p) → IsLeast m (map (λ x. x.at) past) → HasEachBelow m (numbers_in mine)
mine_to_least b m word mine past some own over each least =
    let here : 1 ≤ held m past = held-at b m least.one.0 past some over least.one.1 in
    let stops : m < word = once-below word m (omega (arith, each m)) in
    let low : AllByRecursion (λ p. p < b.limit) (numbers_in mine) = mine_below b mine own in
    each_below_from_times m (numbers_in mine)
    (λ p. elim (cases_lt p m) [
      | inl below ↦ omega (arith, each p, held-before_all p m past below least.all, once_below-yes word p (omega arith), once_below-yes m p below)
      | inr from ↦ elim (cases_lt b.limit p) [
        | inl far ↦ omega (arith, times-none (λ q. q < b.limit) p (numbers_in mine) (λ within. absurd (omega arith)) low, once_below-no m p from)
        | inr near ↦ omega (arith, held-grows b m p past from near over, each p, once-le word p, once_below-no m p from)
      ]
    ])

-- the pieces that end above the limit: none is before the number that the others end at, and where there is one, one is there
past_from : (b : Bounds) (m to : ℕ) (past xs : List Piece) → 1 ≤ b.least → AllByRecursion (IsPast b) xs → ((p : ℕ) → held p xs ≤ held p past)
    → ((p : ℕ) → held p past + once_below m p ≡ once_below to p) → AllByRecursion (λ n. m ≤ n) (map (λ x. x.at) xs)
past_from b m to past [] some over part rest = tt
past_from b m to past (x ∷ xs) some over part rest = (
  once-past m x.at (omega (arith, rest x.at, part x.at, held-cons x.at x xs, covers-at b x some over.0, once-le to x.at)),
  past_from b m to past xs some over.1 (λ p. omega (arith, part p, held-cons p x xs)) rest,
)

-- some piece that holds a number begins at it or before
record Holds (p : ℕ) (xs : List Piece) : Type 0 where
  place : ℕ
  at : ℕ
  is : slice_get (map (λ (x : Piece). x.at) xs) place ≡ Some at
  begins : at ≤ p

some_holds : (p : ℕ) (xs : List Piece) → 1 ≤ held p xs → Holds p xs
some_holds p [] one = absurd (omega arith)
some_holds p (x ∷ xs) one =
    elim (cases_lt p x.at) [
      | inl before ↦
          let h : Holds p xs = some_holds p xs (omega (arith, held-cons p x xs, times-range-below p x.at x.cost before)) in
          record { place = suc h.place; at = h.at; is = h.is; begins = h.begins }
      | inr from ↦ record { place = 0; at = x.at; is = refl; begins = from }
    ]

all_get : (P : ℕ → Type 0) (xs : List ℕ) (k n : ℕ) → slice_get xs k ≡ Some n → AllByRecursion P xs → P n
all_get P [] k n at all = cc
all_get P (x ∷ xs) zero n at all = let same : x ≡ n = cc in subst P same all.0
all_get P (x ∷ xs) (suc k) n at all = all_get P xs k n at all.1

pub least_past : (b : Bounds) (m to : ℕ) (past : List Piece) → 1 ≤ b.least → AllByRecursion (IsPast b) past
    → ((p : ℕ) → held p past + once_below m p ≡ once_below to p) → ¬ (past ≡ []) → IsLeast m (map (λ x. x.at) past)
least_past b m to [] some over rest ended = absurd (ended refl)
least_past b m to (x ∷ xs) some over rest ended =
    let all : AllByRecursion (λ n. m ≤ n) (map (λ (y : Piece). y.at) (x ∷ xs)) = past_from b m to (x ∷ xs) (x ∷ xs) some over (λ p. omega arith) rest in
    let stops : x.at < to = once-below to x.at (omega (arith, rest x.at, held-cons x.at x xs, covers-at b x some over.0)) in
    let h : Holds m (x ∷ xs) = some_holds m (x ∷ xs) (omega (arith, rest m, once_below-no m m (omega arith), once_below-yes to m (omega (arith, all.0)))) in
    let low : m ≤ h.at = all_get (λ n. m ≤ n) (map (λ (y : Piece). y.at) (x ∷ xs)) h.place h.at h.is all in
    let same : h.at ≡ m = omega (arith, h.begins) in
    record { all = all; one = (h.place, h.is ∙ ap Some same) }

-- where pieces have one number at most, those that end above the limit begin at it or above
past_above : (b : Bounds) (xs : List Piece) → b.most ≤ 1 → AllByRecursion (IsPast b) xs → AllByRecursion (λ p. b.limit ≤ p) (numbers_in xs)
past_above b [] ones over = tt
past_above b (x ∷ xs) ones over =
    all_append (λ p. b.limit ≤ p) (piece_numbers x) (numbers_in xs) (from_one x.at x.cost (omega (arith, ones, over.0.few)) (omega (arith, ones, over.0.few, over.0.ends))) (past_above b xs ones over.1)
  where
    from_one : (at n : ℕ) → n ≤ 1 → b.limit ≤ at → AllByRecursion (λ p. b.limit ≤ p) (range_with_len at n)
    from_one at zero few from = tt
    from_one at (suc n) few from = (from, (let none : n ≡ 0 = omega (arith, few) in subst (λ (k : ℕ). AllByRecursion (λ p. b.limit ≤ p) (range_with_len (at + 1) k)) (sym none) tt))

-- so where some end above it, the others hold each number below the limit once, and no other
pub mine_to_limit : (b : Bounds) (word : ℕ) (mine past : List Piece) → 1 ≤ b.least → b.most ≤ 1 → AllByRecursion (IsMine b) mine → AllByRecursion (IsPast b) past
    → ((p : ℕ) → held p mine + held p past ≡ once_below word p) → ¬ (past ≡ []) → HasEachBelow b.limit (numbers_in mine)
mine_to_limit b word mine [] some ones own over each ended = absurd (ended refl)
mine_to_limit b word mine (x ∷ xs) some ones own over each ended =
    let past : List Piece = x ∷ xs in
    let stops : x.at < word = once-below word x.at (omega (arith, each x.at, held-cons x.at x xs, covers-at b x some over.0)) in
    let from : b.limit ≤ x.at = omega (arith, ones, over.0.few, over.0.ends) in
    record {
      once = λ p below. omega (arith, each p, once_below-yes word p (omega arith), times-none (λ q. b.limit ≤ q) p (numbers_in past) (λ above. absurd (omega arith)) (past_above b past ones over));
      no_other = mine_below b mine own;
    }
