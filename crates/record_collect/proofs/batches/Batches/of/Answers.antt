use Rattle.std.proofs.Common.{◌≡◌, ◌∙◌, ℕ, List, map, ap, sym, subst}
use Rattle.std.specs.List.{range_with_len}
use Rattle.record_collect.specs.declared.placed.Placed.{Placed}
use Rattle.record_collect.specs.Batches.{gathered_in}
use Rattle.record_collect.specs.Gatherings.{IsInBounds}
use Rattle.record_collect.specs.Orders.{lists_in, places_of}
use Rattle.record_collect.proofs.Woven.{in_bounds}
use Rattle.record_collect.proofs.batches.Batches.of.Goals as goal

pub invariant_of-result : goal.invariant_of-result
invariant_of-result c =
    let all : List Placed = c.args.all.items in
    let numbers : c.in_ok-numbers.numbers.items ≡ map (λ pass. places_of pass 0 all) (range_with_len 0 c.args.passes) =
    c.in_ok-numbers.ensures ∙ ap (λ (es : List Placed). map (λ pass. places_of pass 0 es) (range_with_len 0 c.args.passes)) c.deref.ensures.value in
    subst (λ (lists : List (List (List ℕ))). IsInBounds (gathered_in lists c.in_ok-numbers.numbers.items)) (sym c.in_ok-batches.ensures)
    (subst (λ (ns : List (List ℕ)). IsInBounds (gathered_in (lists_in all) ns)) (sym numbers) (in_bounds all c.args.passes c.requires.short c.requires.most))
