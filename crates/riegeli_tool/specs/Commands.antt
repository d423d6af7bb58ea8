-- Promise. The command that words are, and the files that it names. Own.
use Rattle.std.specs.Prelude.{ℕ, ◌*◌, Option, Some, None, List, [], ◌∷◌, ◌==◌, if◌then◌else◌}
use Rattle.riegeli_tool.specs.declared.command.Command.{Command}
use Rattle.riegeli_tool.specs.declared.command.Command.TheVariants.{Write, Show, Recover, Verify, Seek, Repair, Sample, Join, Ranges, Append, Collect}
use Rattle.riegeli_tool.specs.declared.command.Names.{Names}
use Rattle.riegeli_tool.specs.CommandWords.{command_named}
use Rattle.command_frame.specs.Options.{◌>>=◌}

-- the command that words are, by the first of them
abbrev pub command_of : List (List ℕ) → Option Command
command_of [] = None
command_of (name ∷ words) = command_named name (name ∷ words)

-- no words name a file
abbrev pub none_named : Names
none_named = record { first = 0; count = 0; made = None; times = 1; grown = None }

-- the files among the words of a command: the place of the first that is read, how many are, one behind another, and how many
-- stores there are to be of each; the place of the one that is made, and of the one that is grown
abbrev pub names_by : Command → Names
names_by (Write words) = record none_named { made = Some words.file }
names_by (Show words) = record none_named { first = words.file; count = 1 }
names_by (Recover words) = record none_named { first = words.show.file; count = 1 }
names_by (Verify file) = record none_named { first = file; count = 1 }
names_by (Seek words) = record none_named { first = words.file; count = 1 }
names_by (Repair words) = record none_named { first = words.from; count = 1; made = Some words.to }
names_by (Sample words) = record none_named { made = Some words.file }
names_by (Join words) = record none_named { first = 1; count = words.count; made = Some words.to }
names_by (Ranges words) = record none_named { first = words.file; count = 1; times = words.parts }
names_by (Append words) = record none_named { grown = Some words.write.file }
names_by (Collect words) = record none_named { first = 1; count = words.count; made = Some words.to }

abbrev pub names_of : Option Command → Names
names_of None = none_named
names_of (Some command) = names_by command

-- how many stores there are of the files that a command reads
abbrev pub stores_of : Command → ℕ
stores_of command = (names_by command).count * (names_by command).times

-- the command that words are, where so many stores are handed in
abbrev pub accepted : List (List ℕ) → ℕ → Option Command
accepted words count = command_of words >>= λ command. if stores_of command == count then Some command else None
