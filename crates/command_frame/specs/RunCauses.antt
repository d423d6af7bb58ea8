-- Promise. What is behind the status of a run. Own.
use Rattle.std.specs.Prelude.{◌≡◌, true, false}
use Rattle.record_io.specs.Outside.{Rose}
use Rattle.command_frame.specs.declared.status.Status.{Status}
use Rattle.command_frame.specs.Meanings.{Meaning}
use Rattle.command_frame.specs.RunObjects.{Seen, OneRose, NoneFell}
use Rattle.command_frame.specs.declared.status.Status.TheVariants as status

-- what is behind a status: no command, or an object that the command uses and whose count of faults rose. Of want of memory only
-- that the command uses some, and of other statuses nothing is said here
abbrev pub HasCause : Status → Meaning → Seen → Seen → Type 0
HasCause status.Usage m before after = m.is_command ≡ false
HasCause status.Input m before after = (m.uses.input ≡ true) × Rose before.input.faults after.input.faults
HasCause status.File m before after = (m.uses.files ≡ true) × OneRose before.files after.files
HasCause status.Made m before after = (m.uses.made ≡ true) × Rose before.made.faults after.made.faults
HasCause status.Grown m before after = (m.uses.grown ≡ true) × Rose before.grown.faults after.grown.faults
HasCause status.Out m before after = (m.uses.out ≡ true) × Rose before.out.faults after.out.faults
HasCause status.Memory m before after = m.uses.memory ≡ true
HasCause status.Notes m before after = Rose before.notes.faults after.notes.faults
HasCause other m before after = Unit {0}

-- what is behind the status of a run
pub record RunHasCause (m : Meaning) (before after : Seen) (ended : Status) : Type 0 where
  pub cause : HasCause ended m before after
  pub counts : NoneFell before after
