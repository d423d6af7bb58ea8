use Rattle.show_command.proofs.ReadingsExist.{shown_exists, verified_exists}
use Rattle.recover_command.proofs.OneRecovery.{recovered_exists}
use Rattle.seek_command.proofs.OneSought.{sought_exists}
use Rattle.join_command.proofs.JoinAnswers.{join_exists}
use Rattle.join_command.proofs.CollectAnswers.{collect_exists}
use Rattle.record_ranges.proofs.RangesAnswers.{ranges_exists}
use Rattle.riegeli_tool.proofs.FileAnswersExist.{repaired_exists, answer_exists}
use Rattle.riegeli_tool.specs.AppendCommand.{lines_taken}
use Rattle.riegeli_tool.proofs.AppendAnswers.{grown_exists}
use Rattle.riegeli_tool.proofs.laws.file_answers_exist.Goals as goal

pub returns : goal.returns
returns c = record { show = shown_exists; recover = recovered_exists; verify = verified_exists; seek = sought_exists; repair = repaired_exists; join = join_exists; ranges = ranges_exists; append = λ words input. grown_exists words (lines_taken words input); collect = collect_exists; all = λ words r files grown supposed. answer_exists words r files grown supposed }
