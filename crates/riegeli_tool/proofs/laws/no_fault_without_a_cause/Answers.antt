use Rattle.riegeli_tool.specs.CommandAnswers.{meaning_of}
use Rattle.command_frame.proofs.Causes.{whole-or-memory, answers-or-memory}
use Rattle.riegeli_tool.proofs.laws.no_fault_without_a_cause.Goals as goal

pub returns : goal.returns
returns c = record {
  whole = λ command before after ended ran sound. whole-or-memory (meaning_of command) before after ended ran.has_cause.cause sound;
  answers = λ command before after ended ran sound. answers-or-memory (meaning_of command) before after ended ran sound;
}
