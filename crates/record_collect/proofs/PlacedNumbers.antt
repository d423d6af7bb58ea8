-- At which numbers the records of a pass stand.
use Rattle.std.proofs.Common.{◌≡◌, ◌∙◌, ℕ, zero, suc, ◌+◌, ◌*◌, ◌<◌, ◌≤◌, cond, Option, Some, List, [], ◌∷◌, ◌++◌, length, map, take, drop, slice_index_or, refl, sym, ap, subst, inl, inr, arith}
use Rattle.std.proofs.Math.Dec.{eqb}
use Rattle.std.proofs.Math.Seq.{take-append_seam}
use Rattle.std.specs.List.{AllByRecursion, flat_map, sum_by, slice_get, slice_index, range_with_len}
use Rattle.std.specs.List.Sorted.{IsStrictlyIncreasing}
use Rattle.std.proofs.lemmas.Bool.{cond_both, cond-true, cond-false, cases_eq, eq-eqb, ne_eqb}
use Rattle.std.proofs.lemmas.List.{append_assoc, append-nil, length-append, take-append-drop, take_more}
use Rattle.std.proofs.lemmas.List.Sums.{sum_by-append, sum_by-cons}
use Rattle.simple_chunk.specs.Costs.{cost, cost_of}
use Rattle.number_shares.specs.Once.{HasEachBelow, times}
use Rattle.number_shares.proofs.Counting.{once_below, once_below-no, times-append, times-flat_map, each_below_from_times}
use Rattle.number_shares.proofs.Lists.{all_append, all_map}
use Rattle.number_shares.proofs.Pieces.{all-range, times-range-more}
use Rattle.record_collect.specs.declared.placed.Placed.{Placed}
use Rattle.record_collect.specs.Orders.{ReceiptsAddUp, cost_of_placed, of_pass, places_of, records_in}
use Rattle.record_collect.specs.Passes.{receipts_from}
use Rattle.record_collect.proofs.InTurn.{few_records}
use Rattle.record_collect.proofs.PassLemmas.{map-append}
use Rattle.record_collect.proofs.Weaves.{stand}

-- one more batch
places-yes : (i at : ℕ) (e : Placed) (es : List Placed) → e.pass ≡ i
    → places_of i at (e ∷ es) ≡ range_with_len at (length e.records) ++ places_of i (at + length e.records) es
places-yes i at e es is = cond-true (eqb e.pass i) _ _ (eq-eqb e.pass i is)

places-no : (i at : ℕ) (e : Placed) (es : List Placed) → ¬ (e.pass ≡ i) → places_of i at (e ∷ es) ≡ places_of i (at + length e.records) es
places-no i at e es not = cond-false (eqb e.pass i) _ _ (ne_eqb e.pass i not)

times-places : (p i at : ℕ) (e : Placed) (es : List Placed)
    → times p (places_of i at (e ∷ es)) ≡ cond (eqb e.pass i) (times p (range_with_len at (length e.records))) 0 + times p (places_of i (at + length e.records) es)
times-places p i at e es =
    let own : ℕ = times p (range_with_len at (length e.records)) in
    elim (cases_eq e.pass i) [
      | inl is ↦
          let k : cond (eqb e.pass i) own 0 ≡ own = cond-true (eqb e.pass i) own 0 (eq-eqb e.pass i is) in
          omega (arith, ap (times p) (places-yes i at e es is), times-append p (range_with_len at (length e.records)) (places_of i (at + length e.records) es))
      | inr not ↦
          let k : cond (eqb e.pass i) own 0 ≡ 0 = cond-false (eqb e.pass i) own 0 (ne_eqb e.pass i not) in
          omega (arith, ap (times p) (places-no i at e es not))
    ]

-- one of neighbouring numbers is this one
one_of-none : (q n a m : ℕ) → q < a → sum_by (λ i. cond (eqb q i) n 0) (range_with_len a m) ≡ 0
one_of-none q n a zero before = refl
one_of-none q n a (suc m) before =
    let k : cond (eqb q a) n 0 ≡ 0 = cond-false (eqb q a) n 0 (ne_eqb q a (λ e. absurd (omega arith))) in
    omega (arith, sum_by-cons (λ (i : ℕ). cond (eqb q i) n 0) a (range_with_len (a + 1) m), one_of-none q n (a + 1) m (omega arith))

one_of : (q n a m : ℕ) → a ≤ q → q < a + m → sum_by (λ i. cond (eqb q i) n 0) (range_with_len a m) ≡ n
one_of q n a zero from to = absurd (omega arith)
one_of q n a (suc m) from to =
    elim (cases_eq q a) [
      | inl is ↦
          let k : cond (eqb q a) n 0 ≡ n = cond-true (eqb q a) n 0 (eq-eqb q a is) in
          omega (arith, sum_by-cons (λ (i : ℕ). cond (eqb q i) n 0) a (range_with_len (a + 1) m), one_of-none q n (a + 1) m (omega arith))
      | inr not ↦
          let k : cond (eqb q a) n 0 ≡ 0 = cond-false (eqb q a) n 0 (ne_eqb q a not) in
          omega (arith, sum_by-cons (λ (i : ℕ). cond (eqb q i) n 0) a (range_with_len (a + 1) m), one_of q n (a + 1) m (omega arith) (omega arith))
    ]

sum_by-both : (f g h : ℕ → ℕ) (xs : List ℕ) → ((x : ℕ) → f x ≡ g x + h x) → sum_by f xs ≡ sum_by g xs + sum_by h xs
sum_by-both f g h [] both = refl
sum_by-both f g h (x ∷ xs) both = omega (arith, sum_by-cons f x xs, sum_by-cons g x xs, sum_by-cons h x xs, both x, sum_by-both f g h xs both)

sum_by-none : (xs : List ℕ) → sum_by (λ (_ : ℕ). 0) xs ≡ 0
sum_by-none [] = refl
sum_by-none (x ∷ xs) = omega (arith, sum_by-cons (λ (_ : ℕ). 0) x xs, sum_by-none xs)

length-records : (e : Placed) (es : List Placed) → length (records_in (e ∷ es)) ≡ length e.records + length (records_in es)
length-records e es = length-append e.records (records_in es)

times-all : (p passes at : ℕ) (es : List Placed) → AllByRecursion (λ e. e.pass < passes) es
    → sum_by (λ i. times p (places_of i at es)) (range_with_len 0 passes) + once_below at p ≡ once_below (at + length (records_in es)) p
times-all p passes at [] all =
    let same : at ≡ at + length (records_in []) = omega arith in
    omega (arith, sum_by-none (range_with_len 0 passes), ap (λ n. once_below n p) same)
times-all p passes at (e ∷ es) all =
    let many : ℕ = length e.records in
    let own : ℕ = times p (range_with_len at many) in
    let cut = sum_by-both (λ i. times p (places_of i at (e ∷ es))) (λ i. cond (eqb e.pass i) own 0) (λ i. times p (places_of i (at + many) es)) (range_with_len 0 passes) (λ i. times-places p i at e es) in
    let same : at + many + length (records_in es) ≡ at + length (records_in (e ∷ es)) = omega (arith, length-records e es) in
    omega (arith, cut, one_of e.pass own 0 passes (omega arith) (omega (arith, all.0)), times-range-more p at many, times-all p passes (at + many) es all.1, ap (λ n. once_below n p) same)

pub places_once : (passes : ℕ) (all : List Placed) → AllByRecursion (λ e. e.pass < passes) all
    → HasEachBelow (length (records_in all)) (flat_map (λ i. places_of i 0 all) (range_with_len 0 passes))
places_once passes all within =
    each_below_from_times (length (records_in all)) (flat_map (λ i. places_of i 0 all) (range_with_len 0 passes))
    (λ p.
    let same : 0 + length (records_in all) ≡ length (records_in all) = omega arith in
    omega (arith, times-flat_map p (λ i. places_of i 0 all) (range_with_len 0 passes), times-all p passes 0 all within, once_below-no 0 p (omega arith), ap (λ n. once_below n p) same))

-- the numbers rise
record Rise (at : ℕ) (ns : List ℕ) : Type 0 where
  from : AllByRecursion (λ n. at ≤ n) ns
  up : (k : ℕ) → k + 1 < length ns → slice_index ns k < slice_index ns (k + 1)

later : (at many : ℕ) (ns : List ℕ) → AllByRecursion (λ n. at + many ≤ n) ns → AllByRecursion (λ n. at ≤ n) ns
later at many ns all = all_map (λ n. at + many ≤ n) (λ n. at ≤ n) ns (λ n above. omega (arith, above)) all

rise_more : (at : ℕ) (ns : List ℕ) → Rise (at + 1) ns → Rise at (at ∷ ns)
rise_more at [] h = record { from = (omega arith, tt); up = λ k within. absurd (omega arith) }
rise_more at (n ∷ ns) h = record { from = (omega arith, later at 1 (n ∷ ns) h.from); up = up }
  where
    up : (k : ℕ) → k + 1 < length (at ∷ n ∷ ns) → slice_index (at ∷ n ∷ ns) k < slice_index (at ∷ n ∷ ns) (k + 1)
    up zero within = omega (arith, h.from.0)
    up (suc k) within =
        let on : suc (k + 1) ≡ suc k + 1 = omega arith in
        subst (λ (m : ℕ). slice_index (n ∷ ns) k < slice_index (at ∷ n ∷ ns) m) on (h.up k (omega arith))

rise_range : (at many : ℕ) (ns : List ℕ) → Rise (at + many) ns → Rise at (range_with_len at many ++ ns)
rise_range at zero ns h = let same : at + 0 ≡ at = omega arith in subst (λ (n : ℕ). Rise n ns) same h
rise_range at (suc many) ns h =
    let on : at + suc many ≡ at + 1 + many = omega arith in
    rise_more at (range_with_len (at + 1) many ++ ns) (rise_range (at + 1) many ns (subst (λ (n : ℕ). Rise n ns) on h))

rise_of : (i at : ℕ) (es : List Placed) → Rise at (places_of i at es)
rise_of i at [] = record { from = tt; up = λ k within. absurd (omega arith) }
rise_of i at (e ∷ es) =
    let many : ℕ = length e.records in
    let rest : List ℕ = places_of i (at + many) es in
    let h : Rise (at + many) rest = rise_of i (at + many) es in
    cond_both (eqb e.pass i) (range_with_len at many ++ rest) rest (Rise at)
    (λ _. rise_range at many rest h)
    (λ _. record { from = later at many rest h.from; up = h.up })

pub places_rise : (i : ℕ) (all : List Placed) → IsStrictlyIncreasing (places_of i 0 all)
places_rise i all = (rise_of i 0 all).up

-- the records of a pass, in the list of all
of_pass-yes : (i : ℕ) (e : Placed) (es : List Placed) → e.pass ≡ i → of_pass i (e ∷ es) ≡ e ∷ of_pass i es
of_pass-yes i e es is = cond-true (eqb e.pass i) (e ∷ of_pass i es) (of_pass i es) (eq-eqb e.pass i is)

of_pass-no : (i : ℕ) (e : Placed) (es : List Placed) → ¬ (e.pass ≡ i) → of_pass i (e ∷ es) ≡ of_pass i es
of_pass-no i e es not = cond-false (eqb e.pass i) (e ∷ of_pass i es) (of_pass i es) (ne_eqb e.pass i not)

-- the records stand at their numbers
stand_behind : (i : ℕ) (front : List (List ℕ)) (es : List Placed)
    → map (λ n. slice_get (front ++ records_in es) n) (places_of i (length front) es) ≡ map (λ r. Some r) (records_in (of_pass i es))
stand_behind i front [] = refl
stand_behind i front (e ∷ es) =
    let all : List (List ℕ) = front ++ (e.records ++ records_in es) in
    let at : ℕ = length front + length e.records in
    let longer : (front ++ e.records) ++ records_in es ≡ all = append_assoc front e.records (records_in es) in
    let on : length (front ++ e.records) ≡ at = length-append front e.records in
    let rest : map (λ n. slice_get all n) (places_of i at es) ≡ map (λ r. Some r) (records_in (of_pass i es)) =
    subst (λ (n : ℕ). map (λ k. slice_get all k) (places_of i n es) ≡ map (λ r. Some r) (records_in (of_pass i es))) on
    (subst (λ (l : List (List ℕ)). map (λ k. slice_get l k) (places_of i (length (front ++ e.records)) es) ≡ map (λ r. Some r) (records_in (of_pass i es))) longer
    (stand_behind i (front ++ e.records) es)) in
    elim (cases_eq e.pass i) [
      | inl is ↦
          ap (map (λ n. slice_get all n)) (places-yes i (length front) e es is)
          ∙ map-append (λ (n : ℕ). slice_get all n) (range_with_len (length front) (length e.records)) (places_of i at es)
          ∙ ap (λ (os : List (Option (List ℕ))). os ++ map (λ n. slice_get all n) (places_of i at es)) (stand front e.records (records_in es) (length front) refl)
          ∙ ap (λ (os : List (Option (List ℕ))). map (λ r. Some r) e.records ++ os) rest
          ∙ sym (map-append (λ (r : List ℕ). Some r) e.records (records_in (of_pass i es)))
          ∙ ap (λ (l : List Placed). map (λ r. Some r) (records_in l)) (sym (of_pass-yes i e es is))
      | inr not ↦
          ap (map (λ n. slice_get all n)) (places-no i (length front) e es not)
          ∙ rest
          ∙ ap (λ (l : List Placed). map (λ r. Some r) (records_in l)) (sym (of_pass-no i e es not))
    ]

pub records_stand : (i : ℕ) (all : List Placed) → map (λ n. slice_get (records_in all) n) (places_of i 0 all) ≡ map (λ r. Some r) (records_in (of_pass i all))
records_stand i all = stand_behind i [] all

-- what the records before each cost is its receipt
receipts_in : (front list rest : List (List ℕ)) (at : ℕ) → length front ≡ at
    → map (λ n. cost_of (take n (front ++ (list ++ rest)))) (range_with_len at (length list)) ≡ receipts_from (cost_of front) list
receipts_in front [] rest at is = refl
receipts_in front (r ∷ list) rest at is =
    let all : List (List ℕ) = front ++ (r ∷ (list ++ rest)) in
    let here : cost_of (take at all) ≡ cost_of front =
    subst (λ (n : ℕ). cost_of (take n all) ≡ cost_of front) is (ap cost_of (take-append_seam front (r ∷ (list ++ rest)))) in
    let apart : (front ++ r ∷ []) ++ (list ++ rest) ≡ all = append_assoc front (r ∷ []) (list ++ rest) in
    let more : cost_of (front ++ r ∷ []) ≡ cost_of front + cost r = omega (arith, sum_by-append cost front (r ∷ []), sum_by-cons cost r []) in
    let others : map (λ n. cost_of (take n all)) (range_with_len (at + 1) (length list)) ≡ receipts_from (cost_of front + cost r) list =
    subst (λ (xs : List (List ℕ)). map (λ n. cost_of (take n xs)) (range_with_len (at + 1) (length list)) ≡ receipts_from (cost_of front + cost r) list) apart
    (receipts_in (front ++ r ∷ []) list rest (at + 1) (omega (arith, is, length-append front (r ∷ []))) ∙ ap (λ (n : ℕ). receipts_from n list) more) in
    ap (λ (n : ℕ). n ∷ map (λ k. cost_of (take k all)) (range_with_len (at + 1) (length list))) here
    ∙ ap (λ (ns : List ℕ). cost_of front ∷ ns) others

abbrev pub receipts_placed : List Placed → List ℕ
receipts_placed es = flat_map (λ e. receipts_from e.at e.records) es

receipts_behind : (i : ℕ) (front : List (List ℕ)) (es : List Placed) → ReceiptsAddUp (cost_of front) es
    → map (λ n. cost_of (take n (front ++ records_in es))) (places_of i (length front) es) ≡ receipts_placed (of_pass i es)
receipts_behind i front [] laid = refl
receipts_behind i front (e ∷ es) laid =
    let all : List (List ℕ) = front ++ (e.records ++ records_in es) in
    let at : ℕ = length front + length e.records in
    let longer : (front ++ e.records) ++ records_in es ≡ all = append_assoc front e.records (records_in es) in
    let on : length (front ++ e.records) ≡ at = length-append front e.records in
    let costs : cost_of front + cost_of e.records ≡ cost_of (front ++ e.records) = sym (sum_by-append cost front e.records) in
    let rest : map (λ n. cost_of (take n all)) (places_of i at es) ≡ receipts_placed (of_pass i es) =
    subst (λ (n : ℕ). map (λ k. cost_of (take k all)) (places_of i n es) ≡ receipts_placed (of_pass i es)) on
    (subst (λ (l : List (List ℕ)). map (λ k. cost_of (take k l)) (places_of i (length (front ++ e.records)) es) ≡ receipts_placed (of_pass i es)) longer
    (receipts_behind i (front ++ e.records) es (subst (λ (n : ℕ). ReceiptsAddUp n es) costs laid.1))) in
    elim (cases_eq e.pass i) [
      | inl is ↦
          ap (map (λ n. cost_of (take n all))) (places-yes i (length front) e es is)
          ∙ map-append (λ (n : ℕ). cost_of (take n all)) (range_with_len (length front) (length e.records)) (places_of i at es)
          ∙ ap (λ (ns : List ℕ). ns ++ map (λ n. cost_of (take n all)) (places_of i at es)) (receipts_in front e.records (records_in es) (length front) refl)
          ∙ ap (λ (ns : List ℕ). receipts_from (cost_of front) e.records ++ ns) rest
          ∙ ap (λ (n : ℕ). receipts_from n e.records ++ receipts_placed (of_pass i es)) (sym laid.0)
          ∙ ap receipts_placed (sym (of_pass-yes i e es is))
      | inr not ↦
          ap (map (λ n. cost_of (take n all))) (places-no i (length front) e es not)
          ∙ rest
          ∙ ap receipts_placed (sym (of_pass-no i e es not))
    ]

pub receipts_stand : (i : ℕ) (all : List Placed) → ReceiptsAddUp 0 all
    → map (λ n. cost_of (take n (records_in all))) (places_of i 0 all) ≡ receipts_placed (of_pass i all)
receipts_stand i all laid = receipts_behind i [] all laid

-- each is one of a record
pub places_below : (i at m : ℕ) (es : List Placed) → at + length (records_in es) ≤ m → AllByRecursion (λ n. n < m) (places_of i at es)
places_below i at m [] within = tt
places_below i at m (e ∷ es) within =
    let many : ℕ = length e.records in
    let rest : AllByRecursion (λ n. n < m) (places_of i (at + many) es) = places_below i (at + many) m es (omega (arith, within, length-records e es)) in
    cond_both (eqb e.pass i) (range_with_len at many ++ places_of i (at + many) es) (places_of i (at + many) es) (AllByRecursion (λ n. n < m))
    (λ _. all_append (λ n. n < m) (range_with_len at many) (places_of i (at + many) es) (all-range at many m (omega (arith, within, length-records e es))) rest)
    (λ _. rest)

-- the list so far, and one batch more
abbrev one_place : ℕ → ℕ → Placed → List ℕ
one_place i at e = cond (eqb e.pass i) (range_with_len at (length e.records)) []

places-push : (i at : ℕ) (es : List Placed) (e : Placed) → places_of i at (es ++ e ∷ []) ≡ places_of i at es ++ one_place i (at + length (records_in es)) e
places-push i at [] e =
    let same : at ≡ at + length (records_in []) = omega arith in
    elim (cases_eq e.pass i) [
      | inl is ↦
          places-yes i at e [] is
          ∙ append-nil (range_with_len at (length e.records))
          ∙ sym (cond-true (eqb e.pass i) (range_with_len at (length e.records)) [] (eq-eqb e.pass i is))
          ∙ ap (λ (n : ℕ). one_place i n e) same
      | inr not ↦
          places-no i at e [] not
          ∙ sym (cond-false (eqb e.pass i) (range_with_len at (length e.records)) [] (ne_eqb e.pass i not))
          ∙ ap (λ (n : ℕ). one_place i n e) same
    ]
places-push i at (f ∷ es) e =
    let many : ℕ = length f.records in
    let whole : ℕ = length (records_in (f ∷ es)) in
    let same : at + many + length (records_in es) ≡ at + whole = omega (arith, length-records f es) in
    let rest : places_of i (at + many) (es ++ e ∷ []) ≡ places_of i (at + many) es ++ one_place i (at + whole) e =
    places-push i (at + many) es e ∙ ap (λ (n : ℕ). places_of i (at + many) es ++ one_place i n e) same in
    elim (cases_eq f.pass i) [
      | inl is ↦
          places-yes i at f (es ++ e ∷ []) is
          ∙ ap (λ (l : List ℕ). range_with_len at many ++ l) rest
          ∙ sym (append_assoc (range_with_len at many) (places_of i (at + many) es) (one_place i (at + whole) e))
          ∙ ap (λ (l : List ℕ). l ++ one_place i (at + whole) e) (sym (places-yes i at f es is))
      | inr not ↦ places-no i at f (es ++ e ∷ []) not ∙ rest ∙ ap (λ (l : List ℕ). l ++ one_place i (at + whole) e) (sym (places-no i at f es not))
    ]

pub places-push-yes : (i : ℕ) (es : List Placed) (e : Placed) → e.pass ≡ i
    → places_of i 0 (es ++ e ∷ []) ≡ places_of i 0 es ++ range_with_len (length (records_in es)) (length e.records)
places-push-yes i es e is =
    let at : ℕ = length (records_in es) in
    let same : 0 + at ≡ at = omega arith in
    places-push i 0 es e
    ∙ ap (λ (l : List ℕ). places_of i 0 es ++ l) (cond-true (eqb e.pass i) (range_with_len (0 + at) (length e.records)) [] (eq-eqb e.pass i is))
    ∙ ap (λ (n : ℕ). places_of i 0 es ++ range_with_len n (length e.records)) same

pub places-push-no : (i : ℕ) (es : List Placed) (e : Placed) → ¬ (e.pass ≡ i) → places_of i 0 (es ++ e ∷ []) ≡ places_of i 0 es
places-push-no i es e not =
    places-push i 0 es e
    ∙ ap (λ (l : List ℕ). places_of i 0 es ++ l) (cond-false (eqb e.pass i) (range_with_len (0 + length (records_in es)) (length e.records)) [] (ne_eqb e.pass i not))
    ∙ append-nil (places_of i 0 es)

-- how many records there are so far
pub records-push : (es : List Placed) (e : Placed) → length (records_in (es ++ e ∷ [])) ≡ length (records_in es) + length e.records
records-push [] e = omega (arith, length-records e [])
records-push (f ∷ es) e = omega (arith, length-records f (es ++ e ∷ []), length-records f es, records-push es e)

few_in : (es : List Placed) → 8 * length (records_in es) ≤ cost_of_placed es
few_in [] = omega arith
few_in (e ∷ es) = omega (arith, length-records e es, few_records e.records, few_in es, sum_by-cons (λ (f : Placed). cost_of f.records) e es)

pub few_placed : (all : List Placed) (k : ℕ) (e : Placed) → k < length all → e ≡ slice_index_or all k e
    → 8 * (length (records_in (take k all)) + length e.records) ≤ cost_of_placed all
few_placed all k e within is =
    let more : take (k + 1) all ≡ take k all ++ e ∷ [] = take_more all k e within ∙ ap (λ (x : Placed). take k all ++ x ∷ []) (sym is) in
    let whole : take (k + 1) all ++ drop (k + 1) all ≡ all = take-append-drop (k + 1) all in
    omega (
      arith,
      few_in (take (k + 1) all),
      records-push (take k all) e,
      ap (λ (es : List Placed). length (records_in es)) more,
      sum_by-append (λ (f : Placed). cost_of f.records) (take (k + 1) all) (drop (k + 1) all),
      ap cost_of_placed whole,
    )
