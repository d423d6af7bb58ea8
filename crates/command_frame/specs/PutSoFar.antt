-- Inside. What a command that reads one file has put when its work ends. Own.
use Rattle.std.specs.Prelude.{◌≡◌, ℕ, List, [], ◌∷◌, ◌++◌}
use Rattle.record_io.specs.Puts.{Stream, Put, Out, Notes, Taken, GoOut, BreaksOff, puts_to}
use Rattle.record_io.specs.Buffers.{GoOutOrAreHeld}
use Rattle.command_frame.specs.declared.status.Status.{Status}
use Rattle.command_frame.specs.Answers.{Answer}
use Rattle.command_frame.specs.FileAnswers.{OfFile}
use Rattle.command_frame.specs.RunLeaves.{PutsLines}

-- all that an answer to a file puts but a last text in notes went out, or is held for standard output; it ends with a status
pub record HasPut (P : List ℕ → Answer → Type 0) (file : List ℕ) (before after : Taken) (held last : List ℕ) (ended : Status) : Type 0 where
  pub answer : Answer
  pub is : OfFile P (file ∷ []) answer
  pub puts : List Put
  pub whole : answer.puts ≡ puts ++ puts_to Notes last
  pub lines : PutsLines puts answer.puts
  pub went : GoOutOrAreHeld before after Out puts held
  pub status : ended ≡ answer.status

-- what was put so far went out, or is held for standard output
pub record HasPutSoFar (P : List Put → Type 0) (before after : Taken) (held : List ℕ) : Type 0 where
  pub part : List Put
  pub is : P part
  pub went : GoOutOrAreHeld before after Out part held

-- a front of what an answer puts went out, or is held for standard output
pub record HasPutFront (before after : Taken) (held : List ℕ) (answer : Answer) : Type 0 where
  pub part : List Put
  pub rest : List Put
  pub parts : answer.puts ≡ part ++ rest
  pub lines : PutsLines part answer.puts
  pub went : GoOutOrAreHeld before after Out part held

-- a front of what an answer puts went out, up to a byte that goes to a sink that failed, and nothing is held
pub record HasBrokenOff (stream : Stream) (before after : Taken) (held : List ℕ) (answer : Answer) : Type 0 where
  pub none_held : held ≡ []
  pub part : List Put
  pub broke : BreaksOff stream part answer.puts
  pub lines : PutsLines part answer.puts
  pub went : GoOut before after part
