-- Promise. What a run writes, prints and answers. Own.
use Rattle.std.specs.Prelude.{ℕ, List, [], ◌∷◌, ◌++◌}
use Rattle.record_io.specs.Puts.{Put, Notes, puts_to}
use Rattle.command_frame.specs.declared.status.Status.{Status}

-- what is put to the made file, to standard output and to standard error, in its order, and the status
pub record Answer : Type 0 where
  pub puts : List Put
  pub status : Status

-- a text as a line
abbrev pub line : List ℕ → List ℕ
line text = text ++ 10 ∷ []

-- an answer that is said in notes alone
abbrev pub noted : Status → List ℕ → Answer
noted ended text = record { puts = puts_to Notes text; status = ended }
