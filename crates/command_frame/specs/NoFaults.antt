-- Inside. Runs in which no object had a fault. Own.
use Rattle.std.specs.Prelude.{◌≡◌, true}
use Rattle.record_io.specs.Outside.{Rose}
use Rattle.command_frame.specs.Meanings.{Uses}
use Rattle.command_frame.specs.RunObjects.{Seen, OneRose}

-- no object that is used had a fault
pub record HadNoFault (uses : Uses) (before after : Seen) : Type 0 where
  pub input : uses.input ≡ true → ¬ Rose before.input.faults after.input.faults
  pub files : uses.files ≡ true → ¬ OneRose before.files after.files
  pub made : uses.made ≡ true → ¬ Rose before.made.faults after.made.faults
  pub grown : uses.grown ≡ true → ¬ Rose before.grown.faults after.grown.faults
  pub out : uses.out ≡ true → ¬ Rose before.out.faults after.out.faults
  pub notes : ¬ Rose before.notes.faults after.notes.faults
