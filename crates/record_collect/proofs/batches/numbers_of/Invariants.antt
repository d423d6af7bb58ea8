use Rattle.std.proofs.Common.{◌≡◌, take}
use Rattle.record_collect.specs.Batches.{numbers_in}
use Rattle.record_collect.proofs.batches.numbers_of.Given as goal

abbrev pub invariant-loop-span : goal.invariant-loop-span
invariant-loop-span l = l.numbers.items ≡ numbers_in (take l.span-index l.spans)
