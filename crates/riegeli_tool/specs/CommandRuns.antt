-- Promise. How a run of a command goes, and what it leaves of the objects that its command doesn't use. Own.
use Rattle.std.specs.Prelude.{◌≡◌, false, Option, List}
use Rattle.command_frame.specs.RunObjects.{Seen}
use Rattle.command_frame.specs.Runs.{Runs}
use Rattle.command_frame.specs.declared.status.Status.{Status}
use Rattle.command_frame.specs.Meanings.{Uses}
use Rattle.riegeli_tool.specs.CommandAnswers.{meaning_of}
use Rattle.riegeli_tool.specs.declared.command.Command.{Command}
use Rattle.riegeli_tool.specs.PastDamage.{meaning_past_damage}

-- how a run of a command goes, and the same with its answers told past damage. Read the first: the second follows from it,
-- and adds something for `show --recover` and `repair` alone
pub record RunsCommand (command : Option Command) (before after : Seen) (ended : Status) : Type 0 where
  pub runs : Runs (meaning_of command) before after ended
  pub damaged : Runs (meaning_past_damage command) before after ended

-- what isn't used stays as it is
pub record LeavesUnused {I S M G O : Type 0} (uses : Uses) (input input_then : I) (files files_then : List S) (made made_then : M)
    (grown grown_then : G) (out out_then : O) : Type 0 where
  pub same_input : uses.input ≡ false → input_then ≡ input
  pub same_files : uses.files ≡ false → files_then ≡ files
  pub same_made : uses.made ≡ false → made_then ≡ made
  pub same_grown : uses.grown ≡ false → grown_then ≡ grown
  pub same_out : uses.out ≡ false → out_then ≡ out
