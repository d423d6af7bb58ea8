use Rattle.std.proofs.Common.{◌-◌}
use Rattle.write_command.specs.LineEnds.{KnowsEnds}
use Rattle.write_command.proofs.line_ends.LineEnds.moved.Given as goal

abbrev pub invariant-loop-mask : goal.invariant-loop-mask
invariant-loop-mask l = KnowsEnds l.bytes l.from l.to l.base l.mask

abbrev pub decreases-loop-mask : goal.decreases-loop-mask
decreases-loop-mask l = l.to - l.base
