-- Inside. The limits within which the words of a command are. Own.
use Rattle.std.specs.Prelude.{◌≤◌}
use Rattle.record_writer.specs.OptionLimits.{AreInLimits}
use Rattle.sample_command.specs.SampleCommand.{most_records}
use Rattle.riegeli_tool.specs.declared.command.Command.{Command}
use Rattle.riegeli_tool.specs.declared.command.Command.TheVariants.{Write, Sample, Join, Ranges, Append, Collect}

-- what the words of a command say is within the limits that its call asks for, where it asks for any
abbrev pub IsWithinLimits : Command → Type 0
IsWithinLimits (Write words) = AreInLimits words.options
IsWithinLimits (Sample words) = AreInLimits words.options × (words.count ≤ most_records)
IsWithinLimits (Join words) = (1 ≤ words.count) × (words.count ≤ 64)
IsWithinLimits (Ranges words) = (1 ≤ words.parts) × (words.parts ≤ 16)
IsWithinLimits (Append words) = AreInLimits words.write.options
IsWithinLimits (Collect words) = (1 ≤ words.count) × (words.count ≤ 16)
IsWithinLimits other = Unit {0}
