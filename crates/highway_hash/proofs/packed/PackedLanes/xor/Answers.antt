use Rattle.highway_hash.proofs.VectorSteps.{xor_vector, xor_whole}
use Rattle.highway_hash.proofs.packed.PackedLanes.xor.Goals as goal

pub returns : goal.returns
returns c = xor_vector c.args.self.whole c.args.other.whole

pub invariant_of-result : goal.invariant_of-result
invariant_of-result c = record { whole = xor_whole c.args.self.whole c.args.other.whole }
