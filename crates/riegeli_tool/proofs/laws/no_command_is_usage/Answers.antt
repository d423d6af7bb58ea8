use Rattle.riegeli_tool.proofs.UsageRuns.{ends-usage}
use Rattle.riegeli_tool.proofs.laws.no_command_is_usage.Goals as goal

pub returns : goal.returns
returns c = record { usage = λ before after ended ran. ends-usage before after ended ran }
