-- Promise. What a run answers that nothing cut off. Own.
use Rattle.std.specs.Prelude.{◌≡◌, ◌⊎◌, true, Some, IfSome, []}
use Rattle.record_io.specs.Puts.{GoOut}
use Rattle.command_frame.specs.declared.status.Status.{Status}
use Rattle.command_frame.specs.Answers.{Answer}
use Rattle.command_frame.specs.RunObjects.{Seen, taken_in}
use Rattle.command_frame.specs.Meanings.{Meaning}
use Rattle.command_frame.specs.RunReads.{IfAnswered, IfGrown}
use Rattle.command_frame.specs.declared.status.Status.TheVariants as status

-- the statuses of a whole answer: they tell no fault of an object, though a count of faults may have risen, nor want of memory
abbrev pub IsWhole : Status → Type 0
IsWhole status.Input = ⊥
IsWhole status.File = ⊥
IsWhole status.Made = ⊥
IsWhole status.Grown = ⊥
IsWhole status.Out = ⊥
IsWhole status.Memory = ⊥
IsWhole status.Notes = ⊥
IsWhole other = Unit {0}

-- a run gave a whole answer: its status, and all that it puts went out
pub record Gave (ended : Status) (before after : Seen) (answer : Answer) : Type 0 where
  pub same_status : ended ≡ answer.status
  pub went : GoOut (taken_in before) (taken_in after) answer.puts

-- what a run answers that nothing cut off
pub record RunAnswers (m : Meaning) (before after : Seen) (ended : Status) : Type 0 where
  -- unless an object that failed or want of memory ended the work, the status and all that went out are an answer's
  pub whole : IsWhole ended → IfAnswered m before (Gave ended before after)
  -- and a file that is grown is what it is to be, also where standard output failed: it is grown before anything is printed
  pub grown : IsWhole ended ⊎ (ended ≡ status.Out) → IfGrown m before after m.leaves
  -- where all went well, the input was read to its end
  pub read_to_end : ended ≡ status.Ok → m.uses.input ≡ true → IfSome before.input.bytes (λ _. after.input.bytes ≡ Some [])
