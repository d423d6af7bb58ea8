use Rattle.std.proofs.Common.{length}
use Rattle.varint_wire.specs.Varint.{shortest}
use Rattle.varint_wire.proofs.Writing.{Counting}
use Rattle.varint_wire.proofs.len.Given as goal

abbrev pub invariant-loop-groups : goal.invariant-loop-groups
invariant-loop-groups l = Counting l.len l.groups (length (shortest l.value))

abbrev pub decreases-loop-groups : goal.decreases-loop-groups
decreases-loop-groups l = l.groups
