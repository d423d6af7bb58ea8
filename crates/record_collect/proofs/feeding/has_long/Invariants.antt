use Rattle.std.proofs.Common.{◌≤◌, ◌^◌, length, take}
use Rattle.std.specs.List.{AllByRecursion}
use Rattle.record_collect.proofs.feeding.has_long.Given as goal

abbrev pub invariant-loop-number : goal.invariant-loop-number
invariant-loop-number l = AllByRecursion (λ r. length r ≤ 2 ^ 24) (take l.number l.records)
