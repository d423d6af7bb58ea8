use Rattle.recover_command.proofs.FaultlessRecovered.{recovered-shown, recovered-ok}
use Rattle.riegeli_tool.proofs.laws.recovering_shows_files_without_fault.Goals as goal

pub returns : goal.returns
returns c = record { same = recovered-shown; ok = recovered-ok }
