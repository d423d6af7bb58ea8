-- The records of passes, woven into one list.
use Rattle.std.proofs.Common.{◌≡◌, ◌∙◌, ℕ, zero, suc, ◌+◌, ◌^◌, ◌<◌, ◌≤◌, Some, List, [], ◌∷◌, ◌++◌, length, map, refl, sym, ap, subst, arith}
use Rattle.std.specs.List.{AllByRecursion, AllZip, flat_map, range_with_len, slice_get, sum_by}
use Rattle.std.proofs.lemmas.List.Sums.{sum_by-cons}
use Rattle.simple_chunk.specs.Costs.{cost_of}
use Rattle.number_shares.specs.Least.{IsLeast}
use Rattle.number_shares.specs.Once.{HasEachBelow}
use Rattle.number_shares.proofs.Lists.{all_append}
use Rattle.record_collect.specs.declared.collector.Batch.{Batch}
use Rattle.record_collect.specs.declared.placed.Placed.{Placed}
use Rattle.record_collect.specs.Limits.{limit}
use Rattle.record_collect.specs.Passes.{AreGathered, HaveReceipts, IsShort, PassValue, ends_of, pass_records, receipts_from}
use Rattle.record_collect.specs.Gatherings.{IsInBounds, StandAt}
use Rattle.record_collect.specs.Orders.{AreSorted, cost_of_placed, gathered_of, lists_in, place_in, places_of, records_in}
use Rattle.record_collect.proofs.PlacedNumbers.{places_below, places_once, places_rise, receipts_placed, receipts_stand, records_stand}
use Rattle.record_collect.proofs.Weaves.{cost-in_turn}

-- what holds of each pass and what belongs to its number
zip_passes : (R : PassValue → List ℕ → Type 0) (f : ℕ → List ℕ) (at : ℕ) (passes : List PassValue)
    → ((i : ℕ) (p : PassValue) → slice_get passes i ≡ Some p → R p (f (at + i))) → AllZip R passes (map f (range_with_len at (length passes)))
zip_passes R f at [] each = tt
zip_passes R f at (p ∷ ps) each =
    let here : at + 0 ≡ at = omega arith in (
      subst (λ (n : ℕ). R p (f n)) here (each 0 p refl),
      zip_passes R f (at + 1) ps (λ i q sits. (
          let on : at + suc i ≡ at + 1 + i = omega arith in
          subst (λ (n : ℕ). R q (f n)) on (each (suc i) q sits)
          )),
    )

zip_map : {X Y Z : Type 0} (R : Y → Z → Type 0) (g : X → Y) (xs : List X) (zs : List Z) → AllZip (λ x z. R (g x) z) xs zs → AllZip R (map g xs) zs
zip_map R g [] [] h = tt
zip_map R g [] (z ∷ zs) h = h
zip_map R g (x ∷ xs) [] h = h
zip_map R g (x ∷ xs) (z ∷ zs) h = (h.0, zip_map R g xs zs h.1)

-- the records of a pass in the list of all, and their receipts
records_placed : (i : ℕ) (mine : List Batch) → records_in (map (place_in i) mine) ≡ flat_map (λ (b : Batch). b.records) mine
records_placed i [] = refl
records_placed i (b ∷ mine) = ap (λ (l : List (List ℕ)). b.records ++ l) (records_placed i mine)

receipts_mine : (i : ℕ) (mine : List Batch) → receipts_placed (map (place_in i) mine) ≡ flat_map (λ (b : Batch). receipts_from b.at b.records) mine
receipts_mine i [] = refl
receipts_mine i (b ∷ mine) = ap (λ (l : List ℕ). receipts_from b.at b.records ++ l) (receipts_mine i mine)

-- the numbers of all passes in one list
joined_numbers : (f : ℕ → List ℕ) (is : List ℕ) → flat_map (λ ns. ns) (map f is) ≡ flat_map f is
joined_numbers f [] = refl
joined_numbers f (i ∷ is) = ap (λ (ns : List ℕ). f i ++ ns) (joined_numbers f is)

-- what records cost
sum-lists : (es : List Placed) → sum_by cost_of (lists_in es) ≡ cost_of_placed es
sum-lists [] = refl
sum-lists (e ∷ es) = omega (arith, sum_by-cons cost_of e.records (lists_in es), sum_by-cons (λ (f : Placed). cost_of f.records) e es, sum-lists es)

cost_alone : (es : List Placed) → cost_of (records_in es) ≡ cost_of_placed es
cost_alone es = cost-in_turn (lists_in es) ∙ sum-lists es

pub are_gathered : (passes : List PassValue) (es : List Placed) → AreSorted passes (length passes) es → AreGathered passes (gathered_of es (length passes))
are_gathered passes es h =
    let f : ℕ → List ℕ = λ i. places_of i 0 es in
    let all : List (List ℕ) = records_in es in
    let numbers : List (List ℕ) = map f (range_with_len 0 (length passes)) in
    record {
      woven = record {
        each = zip_map (StandAt all) pass_records passes numbers
            (zip_passes (λ p ns. StandAt all (pass_records p) ns) f 0 passes
            (λ i p sits. (
            let from_none : i ≡ 0 + i = omega arith in
            let at_place : StandAt all (pass_records p) (f i) = record {
              rise = places_rise i es;
              stand = records_stand i es ∙ ap (λ (l : List Placed). map (λ r. Some r) (records_in l)) (h.each i p sits) ∙ ap (map (λ r. Some r)) (records_placed i p.mine);
            } in
            subst (λ (n : ℕ). StandAt all (pass_records p) (f n)) from_none at_place
            )));
        once = subst (HasEachBelow (length all)) (sym (joined_numbers f (range_with_len 0 (length passes)))) (places_once (length passes) es h.no_other);
      };
      receipts = zip_passes (HaveReceipts all) f 0 passes
          (λ i p sits. (
          let from_none : i ≡ 0 + i = omega arith in
          let receipts : HaveReceipts all p (f i) = receipts_stand i es h.receipts ∙ ap receipts_placed (h.each i p sits) ∙ receipts_mine i p.mine in
          subst (λ (n : ℕ). HaveReceipts all p (f n)) from_none receipts
          ));
      most = omega (arith, h.most, cost_alone es);
      ended = λ some. subst (λ (n : ℕ). IsLeast n (ends_of passes)) (sym (cost_alone es)) (h.ended some);
    }

-- each record is short, and each number is one of a record
short_alone : (es : List Placed) → AllByRecursion (λ e. IsShort e.records) es → IsShort (records_in es)
short_alone [] all = tt
short_alone (e ∷ es) all = all_append (λ r. length r ≤ 2 ^ 24) e.records (records_in es) all.0 (short_alone es all.1)

all_below : (es : List Placed) (is : List ℕ) → AllByRecursion (AllByRecursion (λ n. n < length (records_in es))) (map (λ i. places_of i 0 es) is)
all_below es [] = tt
all_below es (i ∷ is) = (places_below i 0 (length (records_in es)) es (omega arith), all_below es is)

pub in_bounds : (es : List Placed) (passes : ℕ) → AllByRecursion (λ e. IsShort e.records) es → cost_of_placed es ≤ limit → IsInBounds (gathered_of es passes)
in_bounds es passes short most =
    record { short = short_alone es short; most = omega (arith, most, cost_alone es); below = all_below es (range_with_len 0 passes) }

-- the numbers of one pass more
map_range_suc : (f : ℕ → List ℕ) (at n : ℕ) → map f (range_with_len at (suc n)) ≡ map f (range_with_len at n) ++ f (at + n) ∷ []
map_range_suc f at zero = let e : at ≡ at + 0 = omega arith in ap (λ (k : ℕ). f k ∷ []) e
map_range_suc f at (suc n) =
    let e : at + 1 + n ≡ at + suc n = omega arith in
    ap (λ (l : List (List ℕ)). f at ∷ l) (map_range_suc f (at + 1) n ∙ ap (λ (k : ℕ). map f (range_with_len (at + 1) n) ++ f k ∷ []) e)

pub numbers_more : (es : List Placed) (n : ℕ) → map (λ i. places_of i 0 es) (range_with_len 0 (n + 1)) ≡ map (λ i. places_of i 0 es) (range_with_len 0 n) ++ places_of n 0 es ∷ []
numbers_more es n =
    let f : ℕ → List ℕ = λ i. places_of i 0 es in
    let next : n + 1 ≡ suc n = omega arith in
    let from_none : 0 + n ≡ n = omega arith in
    ap (λ (k : ℕ). map f (range_with_len 0 k)) next ∙ map_range_suc f 0 n ∙ ap (λ (k : ℕ). map f (range_with_len 0 n) ++ f k ∷ []) from_none
