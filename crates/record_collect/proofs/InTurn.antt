-- Lists of records, one list behind another, list by list.
use Rattle.std.proofs.Common.{◌≡◌, ◌∙◌, ℕ, zero, suc, ◌+◌, ◌*◌, ◌-◌, ◌<◌, ◌≤◌, List, [], ◌∷◌, ◌++◌, Some, length, take, get_or, sym, ap, subst, arith}
use Rattle.std.specs.Prelude.{slice_get}
use Rattle.std.specs.List.{range_with_len}
use Rattle.std.proofs.lemmas.List.{append-nil, take_more}
use Rattle.std.proofs.lemmas.List.Concat.{flat_map-append}
use Rattle.std.proofs.lemmas.List.Sums.{sum_by-cons}
use Rattle.std.proofs.lemmas.Option.{slice_get_within, get_or_from_slice_get}
use Rattle.simple_chunk.specs.Costs.{cost, cost_of}
use Rattle.record_collect.specs.Batches.{HasLong, in_turn}

-- one list more, behind others
pub turn_push : (lists : List (List (List ℕ))) (list : List (List ℕ)) → in_turn (lists ++ list ∷ []) ≡ in_turn lists ++ list
turn_push lists list =
    flat_map-append (λ (l : List (List ℕ)). l) lists (list ∷ []) ∙ ap (λ (l : List (List ℕ)). in_turn lists ++ l) (append-nil list)

pub turn_next : (lists : List (List (List ℕ))) (k : ℕ) (list : List (List ℕ)) → k < length lists → list ≡ get_or lists k list
    → in_turn (take (k + 1) lists) ≡ in_turn (take k lists) ++ list
turn_next lists k list within is =
    ap in_turn (take_more lists k list within ∙ ap (λ (l : List (List ℕ)). take k lists ++ l ∷ []) (sym is)) ∙ turn_push (take k lists) list

-- each record costs 8 at least
pub few_records : (records : List (List ℕ)) → 8 * length records ≤ cost_of records
few_records [] = omega arith
few_records (r ∷ records) = omega (arith, sum_by-cons cost r records, few_records records)

-- one record more of a list
pub take_next : (list : List (List ℕ)) (i : ℕ) (r : List ℕ) → slice_get list i ≡ Some r → take (i + 1) list ≡ take i list ++ r ∷ []
take_next list i r there =
    take_more list i r (slice_get_within list i r there) ∙ ap (λ (x : List ℕ). take i list ++ x ∷ []) (get_or_from_slice_get list i r r there)

-- a record that is too long stands behind others too
pub long_behind : (before list : List (List ℕ)) → HasLong list → HasLong (before ++ list)
long_behind before list h =
    record { number = length before + h.number; long = h.long; there = there before; too_long = h.too_long }
  where
    there : (xs : List (List ℕ)) → slice_get (xs ++ list) (length xs + h.number) ≡ Some h.long
    there [] = subst (λ (n : ℕ). slice_get list n ≡ Some h.long) (omega arith) h.there
    there (x ∷ xs) =
        let on : suc (length xs + h.number) ≡ length (x ∷ xs) + h.number = omega arith in
        subst (λ (n : ℕ). slice_get (x ∷ (xs ++ list)) n ≡ Some h.long) on (there xs)

-- one number more of neighbours
range_suc : (first n : ℕ) → range_with_len first (suc n) ≡ range_with_len first n ++ (first + n) ∷ []
range_suc first zero = let e : first ≡ first + 0 = omega arith in ap (λ (k : ℕ). k ∷ []) e
range_suc first (suc n) =
    let e : first + 1 + n ≡ first + suc n = omega arith in
    ap (λ (l : List ℕ). first ∷ l) (range_suc (first + 1) n ∙ ap (λ (k : ℕ). range_with_len (first + 1) n ++ k ∷ []) e)

pub range_next : (first i : ℕ) → first ≤ i → range_with_len first (i + 1 - first) ≡ range_with_len first (i - first) ++ i ∷ []
range_next first i from =
    let next : i + 1 - first ≡ suc (i - first) = omega arith in
    let here : first + (i - first) ≡ i = omega arith in
    ap (range_with_len first) next ∙ range_suc first (i - first) ∙ ap (λ (k : ℕ). range_with_len first (i - first) ++ k ∷ []) here
