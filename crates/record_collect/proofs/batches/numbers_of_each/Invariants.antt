use Rattle.std.proofs.Common.{◌≡◌, take}
use Rattle.record_collect.proofs.batches.numbers_of_each.Given as goal

abbrev pub invariant-loop-numbers : goal.invariant-loop-numbers
invariant-loop-numbers l = l.each.items ≡ take l.numbers-index l.all
