use Rattle.std.proofs.Common.{ℕ, List, sym, subst}
use Rattle.record_collect.specs.Gatherings.{IsInBounds}
use Rattle.record_collect.proofs.gathered.Gathered.of_batches.Goals as goal

pub invariant_of-result : goal.invariant_of-result
invariant_of-result c =
    subst (λ (rs : List (List ℕ)). IsInBounds (record { records = rs; numbers = c.in_ok-numbers.numbers.items })) (sym c.in_ok-records.ensures.value)
    (subst (λ (ns : List (List ℕ)). IsInBounds (record { records = c.args.all.now.records; numbers = ns })) (sym c.in_ok-numbers.ensures)
    c.joined.ensures.bounds)
