use Rattle.std.proofs.Common.{◌≡◌, ◌+◌, ◌-◌, ◌*◌, ◌^◌, length, take}
use Rattle.std.specs.Prelude.{sum}
use Rattle.join_command.proofs.sizes.are_in_reach.Given as goal

abbrev pub invariant-loop-size : goal.invariant-loop-size
invariant-loop-size l = l.room + sum (take l.size-index l.sizes) + 131072 * (length l.sizes - 1) ≡ 2 ^ 60
