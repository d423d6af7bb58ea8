-- What a feed of lists of records has left.
use Rattle.std.proofs.Common.{◌≡◌, ◌∙◌, ℕ, zero, suc, ◌+◌, ◌^◌, ◌≤◌, Some, List, [], ◌∷◌, ◌++◌, All, length, drop, ap, subst, arith}
use Rattle.std.specs.List.{AllByRecursion, flat_map, slice_get}
use Rattle.std.proofs.lemmas.List.Elements.{All-from_recursion, recursion_from_All}
use Rattle.std.proofs.lemmas.List.{at_drop_more}
use Rattle.std.proofs.lemmas.List.Sums.{sum_by-cons}
use Rattle.std.proofs.lemmas.Option.{get_or_from_slice_get, slice_get_within}
use Rattle.simple_chunk.specs.Costs.{cost, cost_of}
use Rattle.record_writer.specs.FeedSteps.{feed_bound}

-- the bound of a list of records is no more than they cost
pub feed_bound-cost : (records : List (List ℕ)) → feed_bound records ≤ cost_of records
feed_bound-cost [] = omega arith
feed_bound-cost (r ∷ records) = omega (arith, sum_by-cons length r records, sum_by-cons cost r records, feed_bound-cost records)

-- the record at a place comes first of those from there on
pub drop-next : (records : List (List ℕ)) (i : ℕ) (next : List ℕ) → slice_get records i ≡ Some next → drop i records ≡ next ∷ drop (i + 1) records
drop-next records i next at =
    at_drop_more (λ rs. rs) records i next (slice_get_within records i next at)
    ∙ ap (λ r. r ∷ drop (i + 1) records) (get_or_from_slice_get records i next next at)

-- and is as short as all are
pub short_next : (records : List (List ℕ)) (i : ℕ) (next : List ℕ) → All (λ r. length r ≤ 2 ^ 24) records → slice_get records i ≡ Some next → length next ≤ 2 ^ 24
short_next records i next short at =
    subst (λ (r : List ℕ). length r ≤ 2 ^ 24) (get_or_from_slice_get records i next next at) (short i next (slice_get_within records i next at))

-- a record of the first list is one of all
pub in_first : (list : List (List ℕ)) (lists : List (List (List ℕ))) (i : ℕ) (r : List ℕ) → slice_get list i ≡ Some r
    → slice_get (flat_map (λ (l : List (List ℕ)). l) (list ∷ lists)) i ≡ Some r
in_first [] lists i r at = absurd cc
in_first (x ∷ list) lists zero r at = at
in_first (x ∷ list) lists (suc i) r at = in_first list lists i r at

-- what holds of all records holds of those of the others
pub all_behind : (P : List ℕ → Type 0) (list : List (List ℕ)) (lists : List (List (List ℕ))) → All P (flat_map (λ (l : List (List ℕ)). l) (list ∷ lists))
    → All P (flat_map (λ (l : List (List ℕ)). l) lists)
all_behind P list lists all = All-from_recursion P (flat_map (λ (l : List (List ℕ)). l) lists)
    (back list (recursion_from_All P (flat_map (λ (l : List (List ℕ)). l) (list ∷ lists)) all))
  where
    back : (xs : List (List ℕ)) → AllByRecursion P (xs ++ flat_map (λ (l : List (List ℕ)). l) lists) → AllByRecursion P (flat_map (λ (l : List (List ℕ)). l) lists)
    back [] h = h
    back (x ∷ xs) h = back xs h.1
