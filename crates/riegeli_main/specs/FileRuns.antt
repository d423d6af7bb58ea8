-- Inside. What a run over real files shows, of which nothing is shown itself. Own.
use Rattle.std.specs.Prelude.{ℕ, List}
use Rattle.record_io.specs.Seen.{SeenStream, SeenFile}
use Rattle.command_frame.specs.RunObjects.{seen}
use Rattle.command_frame.specs.declared.status.Status.{Status}
use Rattle.riegeli_tool.specs.Commands.{accepted}
use Rattle.riegeli_tool.specs.CommandRuns.{RunsCommand}

-- a run of the words' command ended with a status, of what its input and output showed before and after, and of what its files and
-- notes did, whatever that was
pub record RunsOnFiles (words : List (List ℕ)) (input input_then out out_then : SeenStream) (ended : Status) : Type 0 where
  pub count : ℕ
  pub files : List SeenFile
  pub files_then : List SeenFile
  pub made : SeenStream
  pub made_then : SeenStream
  pub grown : SeenFile
  pub grown_then : SeenFile
  pub notes : SeenStream
  pub notes_then : SeenStream
  pub runs : RunsCommand (accepted words count) (seen input files made grown out notes)
      (seen input_then files_then made_then grown_then out_then notes_then) ended
