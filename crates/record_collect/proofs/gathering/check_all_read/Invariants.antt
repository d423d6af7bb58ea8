use Rattle.std.proofs.Common.{take}
use Rattle.std.specs.List.{AllByRecursion}
use Rattle.record_collect.specs.Takings.{IsRead}
use Rattle.record_collect.proofs.gathering.check_all_read.Given as goal

abbrev pub invariant-loop-index : goal.invariant-loop-index
invariant-loop-index l = AllByRecursion IsRead (take l.index l.fed)
