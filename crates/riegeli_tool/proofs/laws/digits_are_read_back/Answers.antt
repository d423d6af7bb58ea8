use Rattle.riegeli_tool.proofs.DigitsBack.{digits-back}
use Rattle.riegeli_tool.proofs.laws.digits_are_read_back.Goals as goal

pub returns : goal.returns
returns c = digits-back
