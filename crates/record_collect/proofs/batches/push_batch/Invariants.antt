use Rattle.std.proofs.Common.{◌≡◌, ◌++◌, take}
use Rattle.record_collect.proofs.batches.push_batch.Given as goal

abbrev pub invariant-loop-number : goal.invariant-loop-number
invariant-loop-number l = l.records ≡ l.fn.records ++ take l.number l.batch
