use Rattle.highway_hash.proofs.ZipperBytes.{zipped_vector}
use Rattle.highway_hash.proofs.packed.PackedLanes.zipped.Goals as goal

pub returns : goal.returns
returns c = zipped_vector c.args.self.whole
