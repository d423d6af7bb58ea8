use Rattle.varint_wire.proofs.Spellings.{IsShortest-shortest}
use Rattle.varint_wire.proofs.laws.shortest_is_shortest.Goals as goal

pub returns : goal.returns
returns c = IsShortest-shortest
