-- How far the chunks of groups reach.
use Rattle.std.proofs.Common.{◌≡◌, ◌≢◌, ◌∙◌, ℕ, ◌+◌, ◌*◌, ◌≤◌, Option, Some, None, List, [], ◌∷◌, ◌++◌, length, refl, ap, arith}
use Rattle.std.specs.Option.{IfSome, option_to_list}
use Rattle.std.proofs.Math.Dec.{eqb}
use Rattle.std.proofs.lemmas.Bool.{cond_both, eqb-false}
use Rattle.std.proofs.lemmas.List.{append-nil, map-append}
use Rattle.std.proofs.lemmas.List.Sums.{sum_by-cons, sum_by_push}
use Rattle.varint_wire.proofs.Spellings.{length-shortest}
use Rattle.block_layout.specs.Layout.{end_of}
use Rattle.block_layout.proofs.Ends.{end_of-some}
use Rattle.block_layout.proofs.ChunkEnds.{chunk_end_of-few_records}
use Rattle.chunk_header.specs.Chunks.{ChunkValue}
use Rattle.chunk_header.specs.SimpleChunks.{sizes_of, simple_data, simple_chunk}
use Rattle.chunk_header.proofs.SimpleChunks.{length-sizes_of, length-simple_data}
use Rattle.meta_chunk.specs.Laid.{end_of_chunk}
use Rattle.meta_chunk.specs.Files.{end_of_chunks}
use Rattle.meta_chunk.proofs.Joins.{end_of_chunks-append, end_of_chunks_past}
use Rattle.simple_chunk.specs.Costs.{cost, cost_of}
use Rattle.simple_chunk.proofs.CostLemmas.{cost_of-is}
use Rattle.record_group.specs.Groupings.{Grouping, IsPush, groups_from}
use Rattle.record_writer.specs.MadeFiles.{chunks_of_groups, reach_of}
use Rattle.record_writer.specs.Windows.{with_record}

-- bytes end near their begin: less than two block headers, and one more for each block's bytes, lie between
end_of-near : (begin size : ℕ) → 1 ≤ size → end_of begin size ≤ begin + 2 * size + 48
end_of-near begin size some = omega (arith, end_of-some begin size some)

-- a group's chunk ends near its begin, by what its records cost
chunk-near : (place : ℕ) (group : List (List ℕ)) → end_of_chunk place (simple_chunk group) ≤ place + 4 * cost_of group + 150
chunk-near place group =
    let size : ℕ = 40 + length (simple_data group) in
    let few : end_of_chunk place (simple_chunk group) ≡ end_of place size =
    chunk_end_of-few_records place size (length group) (omega arith) (omega (arith, length-simple_data group, length-sizes_of group)) in
    omega (
      arith,
      few,
      end_of-near place size (omega arith),
      length-simple_data group,
      length-sizes_of group,
      length-shortest (length (sizes_of group)),
      cost_of-is group,
    )

-- a group that isn't empty costs 8 or more
costs_some : (group : List (List ℕ)) → group ≢ [] → 8 ≤ cost_of group
costs_some [] some = absurd (some refl)
costs_some (record_bytes ∷ group) some = omega (arith, sum_by-cons cost record_bytes group)

pub group-near : (place : ℕ) (group : List (List ℕ)) → group ≢ [] → end_of_chunk place (simple_chunk group) ≤ place + 23 * cost_of group
group-near place group some = omega (arith, chunk-near place group, costs_some group some)

-- so a record raises the reach by no more than it lowers what is still to come
pub reach_of-push : (old new : Grouping) (record_bytes : List ℕ) (given : Option (List (List ℕ))) (place : ℕ)
    → IsPush old record_bytes given new → IfSome given (λ group. group ≢ [])
    → end_of_chunks place (chunks_of_groups (option_to_list given)) + 23 * cost_of new.group
    ≤ place + 23 * cost_of old.group + 184 * (length record_bytes + 1)
reach_of-push old new record_bytes None place push some =
    omega (arith, ap (λ (g : Grouping). cost_of g.group) push.1, sum_by_push cost old.group record_bytes)
reach_of-push old new record_bytes (Some group) place push some =
    omega (
      arith,
      group-near place group some,
      ap cost_of push.1,
      ap (λ (g : Grouping). cost_of g.group) push.2,
      sum_by-cons cost record_bytes [],
    )

-- also where its group waits behind others
pub reach_of-taken : (old new : Grouping) (record_bytes : List ℕ) (given : Option (List (List ℕ))) (before after : List (List (List ℕ))) (place : ℕ)
    → IsPush old record_bytes given new → IfSome given (λ group. group ≢ []) → after ≡ before ++ option_to_list given
    → reach_of (end_of_chunks place (chunks_of_groups after)) new 0 ≤ reach_of (end_of_chunks place (chunks_of_groups before)) old (length record_bytes + 1)
reach_of-taken old new record_bytes given before after place push some is =
    omega (
      arith,
      ap (λ (ks : List ChunkValue). end_of_chunks place ks) (ap chunks_of_groups is ∙ map-append simple_chunk before (option_to_list given)),
      end_of_chunks-append place (chunks_of_groups before) (chunks_of_groups (option_to_list given)),
      reach_of-push old new record_bytes given (end_of_chunks place (chunks_of_groups before)) push some,
    )

-- or where none closes, and the record is handed on as it stands in the feed
pub reach_of-handed : (place : ℕ) (old new : Grouping) (bound now limit : ℕ) (record_bytes : List ℕ)
    → IsPush old record_bytes None new → now + length record_bytes + 1 ≤ bound → reach_of place old bound ≤ limit → reach_of place new now ≤ limit
reach_of-handed place old new bound now limit record_bytes push lowers reach =
    omega (arith, lowers, reach, ap (λ (g : Grouping). cost_of g.group) push.1, sum_by_push cost old.group record_bytes)

-- where nothing changed it stays
pub reach_of-kept : (place : ℕ) (old new : Grouping) (bound now limit : ℕ) → new ≡ old → now ≡ bound → reach_of place old bound ≤ limit → reach_of place new now ≤ limit
reach_of-kept place old new bound now limit same kept reach = omega (arith, reach, kept, ap (λ (g : Grouping). cost_of g.group) same)

-- the chunks of groups, and of those behind them
end_of-groups : (place : ℕ) (before behind : List (List (List ℕ)))
    → end_of_chunks place (chunks_of_groups (before ++ behind)) ≡ end_of_chunks (end_of_chunks place (chunks_of_groups before)) (chunks_of_groups behind)
end_of-groups place before behind =
    ap (λ (ks : List ChunkValue). end_of_chunks place ks) (map-append simple_chunk before behind)
    ∙ end_of_chunks-append place (chunks_of_groups before) (chunks_of_groups behind)

-- where all end within a place, those before do
pub within-before : (place limit : ℕ) (before behind : List (List (List ℕ))) → end_of_chunks place (chunks_of_groups (before ++ behind)) ≤ limit
    → end_of_chunks place (chunks_of_groups before) ≤ limit
within-before place limit before behind reach =
    omega (
      arith,
      reach,
      end_of-groups place before behind,
      end_of_chunks_past (end_of_chunks place (chunks_of_groups before)) (chunks_of_groups behind),
    )

-- and those behind, once the others were put
pub within-behind : (place next limit : ℕ) (before behind : List (List (List ℕ))) → next ≡ end_of_chunks place (chunks_of_groups before)
    → end_of_chunks place (chunks_of_groups (before ++ behind)) ≤ limit → end_of_chunks next (chunks_of_groups behind) ≤ limit
within-behind place next limit before behind at reach =
    omega (arith, reach, end_of-groups place before behind, ap (λ (place : ℕ). end_of_chunks place (chunks_of_groups behind)) at)

-- where the chunks of the groups that were given first were put, those of the others end within what all reach
pub reach_of-window : (place next : ℕ) (given window : List (List (List ℕ))) (grouping : Grouping) (bound limit : ℕ) → next ≡ end_of_chunks place (chunks_of_groups given)
    → reach_of (end_of_chunks place (chunks_of_groups (given ++ window))) grouping bound ≤ limit → end_of_chunks next (chunks_of_groups window) ≤ limit
reach_of-window place next given window grouping bound limit at reach =
    within-behind place next limit given window at (omega (arith, reach))

-- the last group's chunk ends within it
pub reach_of-last : (place : ℕ) (grouping : Grouping) (group : List (List ℕ)) (limit : ℕ)
    → reach_of place grouping 0 ≤ limit → group ≡ grouping.group → group ≢ [] → end_of_chunk place (simple_chunk group) ≤ limit
reach_of-last place grouping group limit reach same some = omega (arith, reach, ap cost_of same, group-near place group some)

-- and where it was taken, no group is open
pub reach_of-finished : (place : ℕ) (old new : Grouping) (group : List (List ℕ)) (before after : List (List (List ℕ)))
    → after ≡ before ++ group ∷ [] → group ≡ old.group → group ≢ [] → new.group ≡ []
    → reach_of (end_of_chunks place (chunks_of_groups after)) new 0 ≤ reach_of (end_of_chunks place (chunks_of_groups before)) old 0
reach_of-finished place old new group before after is same some none =
    let next : ℕ = end_of_chunks place (chunks_of_groups before) in
    omega (
      arith,
      ap (λ (ks : List ChunkValue). end_of_chunks place ks) (ap chunks_of_groups is ∙ map-append simple_chunk before (group ∷ [])),
      end_of_chunks-append place (chunks_of_groups before) (simple_chunk group ∷ []),
      reach_of-last next old group (reach_of next old 0) (omega arith) same some,
      ap cost_of none,
    )

-- also where it closes only if it has a record
pub reach_of-closed : (place : ℕ) (old new : Grouping) (before after : List (List (List ℕ)))
    → after ≡ before ++ groups_from old [] → new.group ≡ []
    → reach_of (end_of_chunks place (chunks_of_groups after)) new 0 ≤ reach_of (end_of_chunks place (chunks_of_groups before)) old 0
reach_of-closed place old new before after is none =
    cond_both (eqb (length old.group) 0) [] (old.group ∷ [])
    (λ (gs : List (List (List ℕ))). after ≡ before ++ gs → reach_of (end_of_chunks place (chunks_of_groups after)) new 0
    ≤ reach_of (end_of_chunks place (chunks_of_groups before)) old 0)
    (λ empty same. omega (arith, ap (λ (gs : List (List (List ℕ))). end_of_chunks place (chunks_of_groups gs)) (same ∙ append-nil before), ap cost_of none))
    (λ some same. reach_of-finished place old new old.group before after same refl (λ e. eqb-false (length old.group) 0 some (ap length e)) none)
    is

-- a group costs no less with one more record
pub cost_of-open : (grouping : Grouping) (record_bytes : List ℕ) → cost_of grouping.group ≤ cost_of (with_record grouping record_bytes).group
cost_of-open grouping record_bytes = omega (arith, sum_by_push cost grouping.group record_bytes)
