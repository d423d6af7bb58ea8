-- Inside. How the work of `seek` ends. Own.
use Rattle.std.specs.Prelude.{ℕ, List}
use Rattle.command_frame.specs.Endings.{Endings}
use Rattle.command_frame.specs.declared.status.Status.{Status}
use Rattle.show_command.specs.Readings.{refused_text}
use Rattle.seek_command.specs.SeekCommand.{not_found_text}
use Rattle.seek_command.specs.declared.seeking.Unfound.{Unfound}
use Rattle.seek_command.specs.declared.seeking.Unfound.TheVariants as unfound
use Rattle.command_frame.specs.declared.status.Status.TheVariants as status

-- what is said where no record was found, and the status
abbrev pub unfound_text : Unfound → List ℕ
unfound_text unfound.Nothing = not_found_text
unfound_text (unfound.Refused fault) = refused_text fault

abbrev pub unfound_status : Unfound → Status
unfound_status unfound.Nothing = status.NotFound
unfound_status (unfound.Refused fault) = status.Refused

-- where a record was printed nothing is said
abbrev pub seek_ends : {X : Type 0} → Endings X Unfound
seek_ends = record { done = λ _. status.Ok; text = unfound_text; status = unfound_status }
