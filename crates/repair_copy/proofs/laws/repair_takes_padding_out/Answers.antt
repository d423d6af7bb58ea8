use Rattle.repair_copy.proofs.RecordFiles.{padding_out}
use Rattle.repair_copy.proofs.laws.repair_takes_padding_out.Goals as goal

pub returns : goal.returns
returns c = padding_out
