-- Inside. The form of records that is read back. Own.
use Rattle.std.specs.Prelude.{true}
use Rattle.show_command.specs.declared.show_words.RecordForm.{RecordForm}
use Rattle.show_command.specs.Readings.{bare}

-- the digits of records, and nothing before them
abbrev pub digits_alone : RecordForm
digits_alone = record bare { hex = true }
