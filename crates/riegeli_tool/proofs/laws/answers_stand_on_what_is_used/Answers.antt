use Rattle.std.proofs.Common.{length}
use Rattle.riegeli_tool.specs.Commands.{accepted}
use Rattle.riegeli_tool.proofs.CommandLaws.{any_input, any_files, any_grown}
use Rattle.riegeli_tool.proofs.laws.answers_stand_on_what_is_used.Goals as goal

pub returns-clause-input : goal.returns-clause-input
returns-clause-input c = λ words r. any_input (accepted words (length r.files)) r

pub returns-clause-files : goal.returns-clause-files
returns-clause-files c = λ words count. any_files (accepted words count)

pub returns-clause-grown : goal.returns-clause-grown
returns-clause-grown c = λ words r. any_grown (accepted words (length r.files)) r
