use Rattle.meta_chunk.proofs.Placed.{ArePlaced-one, AreRecordsOf-placed, ArePlaced-rise, ArePlaced-below}
use Rattle.meta_chunk.proofs.laws.positions_rise.Goals as goal

pub returns : goal.returns
returns c = record {
  one = ArePlaced-one;
  records = AreRecordsOf-placed;
  rise = ArePlaced-rise;
  below = ArePlaced-below;
}
