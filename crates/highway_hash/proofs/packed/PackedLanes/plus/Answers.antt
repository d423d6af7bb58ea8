use Rattle.highway_hash.proofs.VectorSteps.{plus_vector, plus_whole}
use Rattle.highway_hash.proofs.packed.PackedLanes.plus.Goals as goal

pub returns : goal.returns
returns c = plus_vector c.args.self.whole c.args.other.whole

pub invariant_of-result : goal.invariant_of-result
invariant_of-result c = record { whole = plus_whole c.args.self.whole c.args.other.whole }
