-- Lists of records have a weave: one behind another.
use Rattle.std.proofs.Common.{◌≡◌, ℕ, zero, suc, ◌+◌, ◌^◌, ◌<◌, ◌≤◌, List, [], ◌∷◌, ◌++◌, length, get_or, refl, ap, subst, arith}
use Rattle.std.specs.List.{AllByRecursion, AllZip, flat_map, range_with_len, sum_by}
use Rattle.std.proofs.lemmas.List.{append_assoc, length-append}
use Rattle.std.proofs.lemmas.List.FromFn.{get_or-range_with_len, length-range_with_len}
use Rattle.simple_chunk.specs.Costs.{cost_of}
use Rattle.number_shares.specs.Once.{HasEachBelow, times}
use Rattle.number_shares.proofs.Counting.{each_below_from_times, once_below, once_below-more, once_below-no, times-append, times-cons}
use Rattle.number_shares.proofs.Lists.{all_append}
use Rattle.record_collect.specs.Batches.{in_turn}
use Rattle.record_collect.specs.Gatherings.{AreWoven, IsInBounds, StandAt}
use Rattle.record_collect.specs.Limits.{limit}
use Rattle.record_collect.proofs.Weaves.{cost-in_turn, stand}

-- the numbers of each list's records, from one on, where one list stands behind another
abbrev pub numbers_from : ℕ → List (List (List ℕ)) → List (List ℕ)
numbers_from at [] = []
numbers_from at (list ∷ lists) = range_with_len at (length list) ∷ numbers_from (at + length list) lists

-- neighbouring numbers rise
rise : (at count k : ℕ) → k + 1 < length (range_with_len at count) → get_or (range_with_len at count) k 0 < get_or (range_with_len at count) (k + 1) 0
rise at count k below =
    let long = length-range_with_len at count in
    omega (
      arith,
      below,
      get_or-range_with_len at count k 0 (omega (arith, below, long)),
      get_or-range_with_len at count (k + 1) 0 (omega (arith, below, long)),
    )

each_stands : (before : List (List ℕ)) (lists : List (List (List ℕ))) (at : ℕ) → length before ≡ at
    → AllZip (StandAt (before ++ in_turn lists)) lists (numbers_from at lists)
each_stands before [] at is = tt
each_stands before (list ∷ lists) at is =
    let apart : (before ++ list) ++ in_turn lists ≡ before ++ (list ++ in_turn lists) = append_assoc before list (in_turn lists) in (
      record { rise = rise at (length list); stand = stand before list (in_turn lists) at is },
      subst (λ (xs : List (List ℕ)). AllZip (StandAt xs) lists (numbers_from (at + length list) lists)) apart
          (each_stands (before ++ list) lists (at + length list) (omega (arith, is, length-append before list))),
    )

-- each number of a range stands in it once
times-range : (p at count : ℕ) → once_below at p + times p (range_with_len at count) ≡ once_below (at + count) p
times-range p at zero = let same : at + 0 ≡ at = omega arith in omega (arith, ap (λ (n : ℕ). once_below n p) same)
times-range p at (suc count) =
    let on : at + 1 + count ≡ at + suc count = omega arith in
    omega (
      arith,
      times-cons p at (range_with_len (at + 1) count),
      once_below-more at p,
      times-range p (at + 1) count,
      ap (λ (n : ℕ). once_below n p) on,
    )

times-numbers : (p at : ℕ) (lists : List (List (List ℕ)))
    → once_below at p + times p (flat_map (λ ns. ns) (numbers_from at lists)) ≡ once_below (at + length (in_turn lists)) p
times-numbers p at [] = let same : at + 0 ≡ at = omega arith in omega (arith, ap (λ (n : ℕ). once_below n p) same)
times-numbers p at (list ∷ lists) =
    let many : length (in_turn (list ∷ lists)) ≡ length list + length (in_turn lists) = length-append list (in_turn lists) in
    let on : at + length list + length (in_turn lists) ≡ at + length (in_turn (list ∷ lists)) = omega (arith, many) in
    omega (
      arith,
      times-append p (range_with_len at (length list)) (flat_map (λ ns. ns) (numbers_from (at + length list) lists)),
      times-range p at (length list),
      times-numbers p (at + length list) lists,
      ap (λ (n : ℕ). once_below n p) on,
    )

once : (lists : List (List (List ℕ))) → HasEachBelow (length (in_turn lists)) (flat_map (λ ns. ns) (numbers_from 0 lists))
once lists =
    each_below_from_times (length (in_turn lists)) (flat_map (λ ns. ns) (numbers_from 0 lists))
    (λ p.
    let same : 0 + length (in_turn lists) ≡ length (in_turn lists) = omega arith in
    omega (arith, times-numbers p 0 lists, once_below-no 0 p (omega arith), ap (λ (n : ℕ). once_below n p) same))

pub in_turn-woven : (lists : List (List (List ℕ))) → AreWoven lists (in_turn lists) (numbers_from 0 lists)
in_turn-woven lists = record { each = each_stands [] lists 0 refl; once = once lists }

-- all records are short where those of each list are, and cost what the lists cost
short_in_turn : (lists : List (List (List ℕ))) → AllByRecursion (AllByRecursion (λ r. length r ≤ 2 ^ 24)) lists
    → AllByRecursion (λ r. length r ≤ 2 ^ 24) (in_turn lists)
short_in_turn [] all = tt
short_in_turn (list ∷ lists) all = all_append (λ r. length r ≤ 2 ^ 24) list (in_turn lists) all.0 (short_in_turn lists all.1)

-- each number is below the number of records
range_below : (at count most : ℕ) → at + count ≤ most → AllByRecursion (λ n. n < most) (range_with_len at count)
range_below at zero most within = tt
range_below at (suc count) most within = (omega (arith, within), range_below (at + 1) count most (omega (arith, within)))

pub numbers_below : (at most : ℕ) (lists : List (List (List ℕ))) → at + length (in_turn lists) ≤ most
    → AllByRecursion (AllByRecursion (λ n. n < most)) (numbers_from at lists)
numbers_below at most [] within = tt
numbers_below at most (list ∷ lists) within =
    let many : length (in_turn (list ∷ lists)) ≡ length list + length (in_turn lists) = length-append list (in_turn lists) in (
      range_below at (length list) most (omega (arith, within, many)),
      numbers_below (at + length list) most lists (omega (arith, within, many)),
    )

pub in_turn-bounds : (lists : List (List (List ℕ))) → AllByRecursion (AllByRecursion (λ r. length r ≤ 2 ^ 24)) lists
    → sum_by cost_of lists ≤ limit → IsInBounds (record { records = in_turn lists; numbers = numbers_from 0 lists })
in_turn-bounds lists short most = record {
  short = short_in_turn lists short;
  most = omega (arith, most, cost-in_turn lists);
  below = numbers_below 0 (length (in_turn lists)) lists (omega arith);
}
