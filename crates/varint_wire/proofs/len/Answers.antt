use Rattle.std.proofs.Common.{refl, arith}
use Rattle.varint_wire.specs.Varint.{shortest}
use Rattle.varint_wire.proofs.Writing.{Counting-more, Counting-last}
use Rattle.varint_wire.proofs.len.Goals as goal

pub loop-groups-init : goal.loop-groups-init
unfolding shortest
loop-groups-init c = record { room = omega arith; below = omega arith; counted = refl }

pub loop-groups-preserved : goal.loop-groups-preserved
loop-groups-preserved c = Counting-more _ _ _ c.loop-groups.invariant c.loop-groups-test.true

pub returns : goal.returns
returns c = Counting-last _ _ _ c.loop-groups.invariant c.loop-groups-test.false
