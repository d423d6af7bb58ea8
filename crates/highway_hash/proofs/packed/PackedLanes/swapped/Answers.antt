use Rattle.highway_hash.proofs.VectorSteps.{swapped_vector, swapped_whole}
use Rattle.highway_hash.proofs.packed.PackedLanes.swapped.Goals as goal

pub returns : goal.returns
returns c = swapped_vector c.args.self.whole

pub invariant_of-result : goal.invariant_of-result
invariant_of-result c = record { whole = swapped_whole c.args.self.whole }
