use Rattle.riegeli_tool.proofs.GrownBack.{grown_back, grown_faultless}
use Rattle.riegeli_tool.proofs.laws.grown_files_read_back.Goals as goal

pub returns : goal.returns
returns c = record { kept = grown_back; faultless = grown_faultless }
