use Rattle.highway_hash.proofs.VectorSteps.{half_product_vector, half_product_whole}
use Rattle.highway_hash.proofs.packed.PackedLanes.half_product.Goals as goal

pub returns : goal.returns
returns c = half_product_vector c.args.self.whole c.args.other.whole

pub invariant_of-result : goal.invariant_of-result
invariant_of-result c = record { whole = half_product_whole c.args.self.whole c.args.other.whole }
