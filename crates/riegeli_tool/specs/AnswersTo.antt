-- Inside. The answers to a command, and whether there is one at most. Own.
use Rattle.std.specs.Prelude.{Bool, true, false, Option, Some}
use Rattle.command_frame.specs.Answers.{Answer}
use Rattle.command_frame.specs.Meanings.{Read}
use Rattle.seek_command.specs.SingleAnswers.{has_one_answer}
use Rattle.riegeli_tool.specs.declared.command.Command.{Command}
use Rattle.riegeli_tool.specs.declared.command.Command.TheVariants.{Seek, Collect}
use Rattle.riegeli_tool.specs.CommandAnswers.{meaning_of}

-- whether a command has one answer at most to what it reads: a search by key and a collection may have several
abbrev pub answers_once : Option Command → Bool
answers_once (Some (Seek words)) = has_one_answer words.by
answers_once (Some (Collect words)) = false
answers_once other = true

-- an answer to a command, of what it reads
abbrev pub IsAnswerTo : Option Command → Read → Answer → Type 0
IsAnswerTo command r answer = (meaning_of command).answers r answer
