-- Lists of records, one behind another.
use Rattle.std.proofs.Common.{◌≡◌, ◌∙◌, ℕ, suc, ◌+◌, ◌^◌, ◌<◌, ◌≤◌, ◌⊎◌, Option, Some, List, [], ◌∷◌, ◌++◌, length, map, get_or, refl, sym, ap, subst, inl, inr, arith}
use Rattle.std.specs.Prelude.{slice_get}
use Rattle.std.specs.List.{AllByRecursion, range_with_len, sum_by}
use Rattle.std.proofs.lemmas.Bool.{cases_lt}
use Rattle.std.proofs.lemmas.List.{append_assoc, get_or-append-add, length-append}
use Rattle.std.proofs.lemmas.List.Sums.{sum_by-append, sum_by-cons}
use Rattle.std.proofs.lemmas.Option.{slice_get-get_or}
use Rattle.simple_chunk.specs.Costs.{cost, cost_of}
use Rattle.record_collect.specs.Batches.{in_turn}
use Rattle.record_collect.specs.Gatherings.{HasTooLong}

-- the element behind others stands at their number
stands_at : (before : List (List ℕ)) (r : List ℕ) (rest : List (List ℕ)) → slice_get (before ++ r ∷ rest) (length before) ≡ Some r
stands_at before r rest =
    let here : length before + 0 ≡ length before = omega arith in
    slice_get-get_or (before ++ r ∷ rest) (length before) r (omega (arith, length-append before (r ∷ rest)))
    ∙ ap Some (ap (λ (n : ℕ). get_or (before ++ r ∷ rest) n r) (sym here) ∙ get_or-append-add before (r ∷ rest) 0 r)

-- a list within others stands at its numbers
pub stand : (before list rest : List (List ℕ)) (at : ℕ) → length before ≡ at
    → map (λ n. slice_get (before ++ (list ++ rest)) n) (range_with_len at (length list)) ≡ map (λ r. Some r) list
stand before [] rest at is = refl
stand before (r ∷ list) rest at is =
    let all : List (List ℕ) = before ++ (r ∷ (list ++ rest)) in
    let here : slice_get all at ≡ Some r = subst (λ (n : ℕ). slice_get all n ≡ Some r) is (stands_at before r (list ++ rest)) in
    let apart : (before ++ r ∷ []) ++ (list ++ rest) ≡ all = append_assoc before (r ∷ []) (list ++ rest) in
    let others : map (λ n. slice_get all n) (range_with_len (at + 1) (length list)) ≡ map (λ x. Some x) list =
    subst (λ (xs : List (List ℕ)). map (λ n. slice_get xs n) (range_with_len (at + 1) (length list)) ≡ map (λ x. Some x) list) apart
    (stand (before ++ r ∷ []) list rest (at + 1) (omega (arith, is, length-append before (r ∷ [])))) in
    ap (λ (o : Option (List ℕ)). o ∷ map (λ n. slice_get all n) (range_with_len (at + 1) (length list))) here
    ∙ ap (λ (os : List (Option (List ℕ))). Some r ∷ os) others

-- they cost what the lists cost
pub cost-in_turn : (lists : List (List (List ℕ))) → cost_of (in_turn lists) ≡ sum_by cost_of lists
cost-in_turn [] = refl
cost-in_turn (list ∷ lists) =
    omega (arith, sum_by-append cost list (in_turn lists), sum_by-cons cost_of list lists, cost-in_turn lists)

-- one of the records of lists is too long, or none is
one_too_long : (list : List (List ℕ))
    → ((number : ℕ) × (long : List ℕ) × (slice_get list number ≡ Some long) × (2 ^ 24 < length long)) ⊎ AllByRecursion (λ r. length r ≤ 2 ^ 24) list
one_too_long [] = inr tt
one_too_long (r ∷ list) = elim (cases_lt (2 ^ 24) (length r)) [
  | inl more ↦ inl (0, r, refl, more)
  | inr fits ↦ elim (one_too_long list) [
    | inl (number, long, there, more) ↦ inl (suc number, long, there, more)
    | inr others ↦ inr (fits, others)
  ]
]

pub too_long_or_short : (lists : List (List (List ℕ))) → HasTooLong lists ⊎ AllByRecursion (AllByRecursion (λ r. length r ≤ 2 ^ 24)) lists
too_long_or_short [] = inr tt
too_long_or_short (list ∷ lists) = elim (one_too_long list) [
  | inl (number, long, there, more) ↦
      inl (record { list_number = 0; number = number; list = list; long = long; one_list = refl; one_record = there; too_long = more })
  | inr short ↦ elim (too_long_or_short lists) [
    | inl h ↦ inl (record {
      list_number = suc h.list_number;
      number = h.number;
      list = h.list;
      long = h.long;
      one_list = h.one_list;
      one_record = h.one_record;
      too_long = h.too_long;
    })
    | inr others ↦ inr (short, others)
  ]
]
