-- Inside. How strict reading of a record file ends. Own.
use Rattle.chunk_reader.specs.declared.reasons.Fault.{Fault}
use Rattle.command_frame.specs.Endings.{Endings}
use Rattle.show_command.specs.Readings.{refused_text}
use Rattle.command_frame.specs.declared.status.Status.TheVariants as status

-- where it is done nothing is said, and of a file that is refused its fault
abbrev pub reading_ends : {X : Type 0} → Endings X Fault
reading_ends = record { done = λ _. status.Ok; text = refused_text; status = λ _. status.Refused }
