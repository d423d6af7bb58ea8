-- Promise. How a run goes: what its status tells and its objects show, of every command. Own.
use Rattle.command_frame.specs.declared.status.Status.{Status}
use Rattle.command_frame.specs.Meanings.{Meaning}
use Rattle.command_frame.specs.RunObjects.{Seen}
use Rattle.command_frame.specs.RunAnswers.{RunAnswers}
use Rattle.command_frame.specs.RunCauses.{RunHasCause}
use Rattle.command_frame.specs.RunLeaves.{RunLeaves}
use Rattle.command_frame.specs.RunTakes.{RunTakes}
use Rattle.command_frame.specs.RunSays.{RunSays}

-- a run of a command ended with a status, of what its objects showed before and after
pub record Runs (m : Meaning) (before after : Seen) (ended : Status) : Type 0 where
  pub answers : RunAnswers m before after ended
  pub has_cause : RunHasCause m before after ended
  pub leaves : RunLeaves m before after ended
  pub takes : RunTakes m before after ended
  pub says : RunSays m before after ended
