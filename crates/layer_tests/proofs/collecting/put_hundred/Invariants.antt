use Rattle.record_collect.specs.Passes.{BelongsTo}
use Rattle.layer_tests.proofs.collecting.put_hundred.Given as goal

abbrev pub invariant-loop : goal.invariant-loop
invariant-loop l = BelongsTo l.collector l.pass
