-- What leaves the numbers shared out.
use Rattle.std.proofs.Common.{◌≡◌, ◌∙◌, ℕ, zero, suc, ◌+◌, ◌<◌, ◌≤◌, Some, List, [], ◌∷◌, ◌++◌, set, refl, sym, ap, inl, inr, arith}
use Rattle.std.specs.List.{AllByRecursion, flat_map, sum_by, slice_get}
use Rattle.std.proofs.lemmas.Bool.{cases_lt}
use Rattle.std.proofs.lemmas.List.Sums.{sum_by-append, sum_by-cons}
use Rattle.number_shares.specs.Once.{HasEachBelow, times}
use Rattle.number_shares.specs.Shared.{ViewKind, IsEither, IsShared}
use Rattle.number_shares.proofs.Counting.{once_below, once_below-no, times-flat_map, times-each_below, each_below_from_times, all_from_times}
use Rattle.number_shares.proofs.Lists.{all_at, all_set, all_push, sum_by-set_at, slice_get-set_other}

-- what is needed of a kind
pub record IsFit {V : Type 0} (kind : ViewKind V) : Type 0 where
  pub some : (v : V) → kind.Works v → 1 ≤ kind.weight v
  pub none : kind.weight kind.spent ≡ 0
  pub empty : kind.numbers kind.spent ≡ []

-- how often a number stands in a view
abbrev pub in_view : {V : Type 0} → ViewKind V → ℕ → V → ℕ
in_view kind p v = times p (kind.numbers v)

pub in_views : {V : Type 0} (kind : ViewKind V) (word all p : ℕ) (views : List V) → IsShared kind word all views → sum_by (in_view kind p) views ≡ once_below word p
in_views kind word all p views h = sym (times-flat_map p kind.numbers views) ∙ times-each_below word p (flat_map kind.numbers views) h.each_once

pub each_in_views : {V : Type 0} (kind : ViewKind V) (word : ℕ) (views : List V) → ((p : ℕ) → sum_by (in_view kind p) views ≡ once_below word p) → HasEachBelow word (flat_map kind.numbers views)
each_in_views kind word views each = each_below_from_times word (flat_map kind.numbers views) (λ p. times-flat_map p kind.numbers views ∙ each p)

pub at_work : {V : Type 0} (kind : ViewKind V) → IsFit kind → (v : V) → 1 ≤ kind.weight v → IsEither kind v → kind.Works v
at_work kind fit v stands (inl spent) = absurd (omega (arith, ap kind.weight spent, fit.none))
at_work kind fit v stands (inr h) = h

pub works_at : {V : Type 0} (kind : ViewKind V) → IsFit kind → (word all : ℕ) (views : List V) (id : ℕ) (v : V) → IsShared kind word all views → slice_get views id ≡ Some v → 1 ≤ kind.weight v → kind.Works v
works_at kind fit word all views id v h sits stands = at_work kind fit v stands (all_at (IsEither kind) views id v sits h.either)

-- a view takes the next so many numbers
pub shared_take : {V : Type 0} (kind : ViewKind V) (word all more : ℕ) (views : List V) (id : ℕ) (v w : V) → IsShared kind word all views → slice_get views id ≡ Some v
    → kind.Works w → kind.weight w ≡ kind.weight v → ((p : ℕ) → in_view kind p w + once_below word p ≡ in_view kind p v + once_below (word + more) p)
    → IsShared kind (word + more) all (set views id w)
shared_take kind word all more views id v w h sits works weight takes =
    record {
      each_once = each_in_views kind (word + more) (set views id w) (λ p. omega (arith, in_views kind word all p views h, sum_by-set_at (in_view kind p) views id v w sits, takes p));
      either = all_set (IsEither kind) views id w (inr works) h.either;
      weights = omega (arith, sum_by-set_at kind.weight views id v w sits, weight, h.weights);
    }

-- a view is cut in two
pub shared_split : {V : Type 0} (kind : ViewKind V) (word all : ℕ) (views : List V) (id : ℕ) (v left right : V) → IsShared kind word all views → slice_get views id ≡ Some v
    → kind.Works left → kind.Works right → kind.weight left + kind.weight right ≡ kind.weight v → ((p : ℕ) → in_view kind p left + in_view kind p right ≡ in_view kind p v)
    → IsShared kind word all (set views id left ++ right ∷ [])
shared_split kind word all views id v left right h sits works works' weight cut =
    record {
      each_once = each_in_views kind word (set views id left ++ right ∷ []) (λ p. omega (
        arith,
        in_views kind word all p views h,
        sum_by-set_at (in_view kind p) views id v left sits,
        sum_by-append (in_view kind p) (set views id left) (right ∷ []),
        sum_by-cons (in_view kind p) right [],
        cut p,
      ));
      either = all_push (IsEither kind) (set views id left) right (inr works') (all_set (IsEither kind) views id left (inr works) h.either);
      weights = omega (arith, sum_by-set_at kind.weight views id v left sits, sum_by-append kind.weight (set views id left) (right ∷ []), sum_by-cons kind.weight right [], weight, h.weights);
    }

-- a view takes in another
pub shared_join : {V : Type 0} (kind : ViewKind V) → IsFit kind → (word all : ℕ) (views : List V) (id other : ℕ) (v w both : V) → IsShared kind word all views → slice_get views id ≡ Some v
    → ¬ (other ≡ id) → slice_get (set views id both) other ≡ Some w
    → kind.Works both → kind.weight both ≡ kind.weight v + kind.weight w → ((p : ℕ) → in_view kind p both ≡ in_view kind p v + in_view kind p w)
    → IsShared kind word all (set (set views id both) other kind.spent)
shared_join kind fit word all views id other v w both h sits apart sits' works weight cut =
    let none : (p : ℕ) → in_view kind p kind.spent ≡ 0 = λ p. ap (times p) fit.empty in
    record {
      each_once = each_in_views kind word (set (set views id both) other kind.spent) (λ p. omega (
        arith,
        in_views kind word all p views h,
        sum_by-set_at (in_view kind p) views id v both sits,
        sum_by-set_at (in_view kind p) (set views id both) other w kind.spent sits',
        cut p,
        none p,
      ));
      either = all_set (IsEither kind) (set views id both) other kind.spent (inl refl) (all_set (IsEither kind) views id both (inr works) h.either);
      weights = omega (arith, sum_by-set_at kind.weight views id v both sits, sum_by-set_at kind.weight (set views id both) other w kind.spent sits', weight, fit.none, h.weights);
    }

-- the other view, where two seats differ
pub works_apart : {V : Type 0} (kind : ViewKind V) → IsFit kind → (word all : ℕ) (views : List V) (id other : ℕ) (w both : V) → IsShared kind word all views
    → ¬ (other ≡ id) → slice_get (set views id both) other ≡ Some w → 1 ≤ kind.weight w → kind.Works w
works_apart kind fit word all views id other w both h apart sits' stands =
    works_at kind fit word all views other w h (sym (slice_get-set_other views id other both apart) ∙ sits') stands

-- where a view stands for all, all others are spent
spent_alone : {V : Type 0} (kind : ViewKind V) → IsFit kind → (p : ℕ) (v : V) → IsEither kind v → kind.weight v ≡ 0 → in_view kind p v ≡ 0
spent_alone kind fit p v (inl spent) nobody = ap (in_view kind p) spent ∙ ap (times p) fit.empty
spent_alone kind fit p v (inr h) nobody = absurd (omega (arith, fit.some v h))

none_left : {V : Type 0} (kind : ViewKind V) → IsFit kind → (p : ℕ) (views : List V) → AllByRecursion (IsEither kind) views → sum_by kind.weight views ≡ 0 → sum_by (in_view kind p) views ≡ 0
none_left kind fit p [] all nobody = refl
none_left kind fit p (v ∷ views) all nobody =
    let cut = sum_by-cons kind.weight v views in
    omega (arith, sum_by-cons (in_view kind p) v views, spent_alone kind fit p v all.0 (omega (arith, cut)), none_left kind fit p views all.1 (omega (arith, cut)))

in_sum : {V : Type 0} (f : V → ℕ) (views : List V) (id : ℕ) (v : V) → slice_get views id ≡ Some v → f v ≤ sum_by f views
in_sum f [] id v sits = cc
in_sum f (u ∷ views) zero v sits =
    let is : u ≡ v = cc in
    omega (arith, ap f is, sum_by-cons f u views)
in_sum f (u ∷ views) (suc id) v sits = omega (arith, in_sum f views id v sits, sum_by-cons f u views)

all_in_one : {V : Type 0} (kind : ViewKind V) → IsFit kind → (p : ℕ) (views : List V) (id : ℕ) (v : V) → AllByRecursion (IsEither kind) views → slice_get views id ≡ Some v
    → sum_by kind.weight views ≡ kind.weight v → sum_by (in_view kind p) views ≡ in_view kind p v
all_in_one kind fit p [] id v all sits whole = cc
all_in_one kind fit p (u ∷ views) zero v all sits whole =
    let is : u ≡ v = cc in
    let cut = sum_by-cons kind.weight u views in
    omega (arith, ap (in_view kind p) is, ap kind.weight is, sum_by-cons (in_view kind p) u views, none_left kind fit p views all.1 (omega (arith, cut, ap kind.weight is)))
all_in_one kind fit p (u ∷ views) (suc id) v all sits whole =
    let cut = sum_by-cons kind.weight u views in
    let part : kind.weight v ≤ sum_by kind.weight views = in_sum kind.weight views id v sits in
    omega (arith, sum_by-cons (in_view kind p) u views, spent_alone kind fit p u all.0 (omega (arith, cut, part)), all_in_one kind fit p views id v all.1 sits (omega (arith, cut, part)))

pub shared_alone : {V : Type 0} (kind : ViewKind V) → IsFit kind → (word all : ℕ) (views : List V) (id : ℕ) (v : V) → IsShared kind word all views → slice_get views id ≡ Some v → kind.weight v ≡ all
    → HasEachBelow word (kind.numbers v)
shared_alone kind fit word all views id v h sits whole =
    each_below_from_times word (kind.numbers v) (λ p. sym (all_in_one kind fit p views id v h.either sits (h.weights ∙ sym whole)) ∙ in_views kind word all p views h)

-- no number of a view is at or above the word
pub numbers_below : {V : Type 0} (kind : ViewKind V) (word all : ℕ) (views : List V) (id : ℕ) (v : V) → IsShared kind word all views → slice_get views id ≡ Some v → AllByRecursion (λ p. p < word) (kind.numbers v)
numbers_below kind word all views id v h sits =
    all_from_times (λ p. p < word) (kind.numbers v)
    (λ p. elim (cases_lt p word) [
      | inl below ↦ inl below
      | inr past ↦ inr (omega (arith, in_sum (in_view kind p) views id v sits, in_views kind word all p views h, once_below-no word p past))
    ])
