use Rattle.std.proofs.Common.{◌≡◌, take}
use Rattle.record_collect.specs.Batches.{in_turn}
use Rattle.record_collect.proofs.batches.records_in.Given as goal

abbrev pub invariant-loop-k : goal.invariant-loop-k
invariant-loop-k l = l.records ≡ in_turn (take l.k l.batches)
