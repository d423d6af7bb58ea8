-- Records that make one chunk.
use Rattle.std.proofs.Common.{◌≡◌, ◌∙◌, ℕ, ◌+◌, ◌<◌, ◌≤◌, None, List, [], ◌∷◌, ◌++◌, length, eqb, refl, sym, ap, subst, arith}
use Rattle.std.proofs.lemmas.Bool.{cond-false, le-ltb, ne_eqb, and_right, or_from}
use Rattle.std.proofs.lemmas.List.{append_assoc, append-nil}
use Rattle.std.proofs.lemmas.List.Sums.{sum_by-cons, sum_by-append}
use Rattle.chunk_header.specs.SimpleChunks.{simple_data}
use Rattle.chunk_header.proofs.SimpleChunks.{length-sizes_of, length-simple_data}
use Rattle.simple_chunk.specs.Costs.{cost, cost_of}
use Rattle.simple_chunk.proofs.CostLemmas.{cost_of-is}
use Rattle.record_group.specs.Groups.{closes_before, groups_after, groups}

-- records that go with an open group into one group, where all of it costs no more than the size and no number of
-- records is wanted
groups_after-fits : (size : ℕ) (group records : List (List ℕ)) → cost_of (group ++ records) ≤ size → 0 < length (group ++ records)
    → groups_after size None group records ≡ (group ++ records) ∷ []
groups_after-fits size group [] fits some =
    let same : group ++ [] ≡ group = append-nil group in
    let filled : 0 < length group = omega (arith, ap length same) in
    cond-false (eqb (length group) 0) [] (group ∷ []) (ne_eqb _ _ (λ e. omega arith))
    ∙ ap (λ (g : List (List ℕ)). g ∷ []) (sym same)
groups_after-fits size group (record_bytes ∷ records) fits some =
    let next : List (List ℕ) = group ++ record_bytes ∷ [] in
    let same : next ++ records ≡ group ++ record_bytes ∷ records = append_assoc group (record_bytes ∷ []) records in
    let within : cost_of group + cost record_bytes ≤ size =
    omega (arith, sum_by-append cost group (record_bytes ∷ records), sum_by-cons cost record_bytes records) in
    cond-false (closes_before size None group record_bytes) _ _ (and_right _ _ (or_from _ _ (le-ltb _ _ within) refl))
    ∙ groups_after-fits size next records
    (subst (λ (l : List (List ℕ)). cost_of l ≤ size) (sym same) fits)
    (subst (λ (l : List (List ℕ)). 0 < length l) (sym same) some)
    ∙ ap (λ (g : List (List ℕ)). g ∷ []) same

-- records that cost no more than the size make one group
pub groups-one : (records : List (List ℕ)) (size : ℕ) → cost_of records ≤ size → 0 < length records → groups records size None ≡ records ∷ []
unfolding groups
groups-one records size fits some = groups_after-fits size [] records fits some

-- records whose data fits into a file of one block cost less than the usual size
pub cost_of-bound : (records : List (List ℕ)) → length (simple_data records) ≤ 65432 → cost_of records ≤ 1048576
cost_of-bound records fits = omega (arith, cost_of-is records, length-simple_data records, length-sizes_of records)
