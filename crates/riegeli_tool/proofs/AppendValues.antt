-- The words of `append` and its answers, judged by hand, computed from the definitions.
use Rattle.std.proofs.Common.{◌≡◌, true, false, Some, None, [], ◌∷◌, codes, refl}
use Rattle.std.specs.Fmt.{digits}
use Rattle.record_io.specs.Puts.{Out, Notes, puts_to}
use Rattle.record_group.specs.declared.pad.Pad.TheVariants.{No, Both}
use Rattle.record_writer.specs.declared.feed.Stop.TheVariants.{TooLong, BadLine}
use Rattle.riegeli_tool.specs.CommandWords.{line_words_of}
use Rattle.riegeli_tool.specs.AppendCommand.{appended_text, grown_puts}
use Rattle.riegeli_tool.specs.Commands.{command_of, accepted, names_of}
use Rattle.riegeli_tool.specs.declared.append_words.AppendWords.{AppendWords}
use Rattle.riegeli_tool.specs.declared.command.Command.TheVariants.{Append}

-- what the words `append F` say
abbrev plain : AppendWords
plain = record { write = record { options = record { size = 1048576; workers = 1; every = None; pad = No }; hex = false; file = 1 }; cut = false }

append_file : accepted (codes "append" ∷ codes "F" ∷ []) 0 ≡ Some (Append plain)
unfolding line_words_of
append_file = refl

append_of_a_file : accepted (codes "append" ∷ codes "F" ∷ []) 1 ≡ None
unfolding line_words_of
append_of_a_file = refl

-- all options, before and behind the file
all_options : command_of (codes "append" ∷ codes "--cut" ∷ codes "--pad=both" ∷ codes "F" ∷ codes "--every=2" ∷ codes "--chunk=1" ∷ codes "--workers=16" ∷ codes "--hex" ∷ [])
    ≡ Some (Append (record { write = record { options = record { size = 1; workers = 16; every = Some 2; pad = Both }; hex = true; file = 3 }; cut = true }))
unfolding line_words_of
all_options = refl

-- the flag twice, with a value, and cut short; an option of another command, and the flag with `write`
cut_twice : command_of (codes "append" ∷ codes "--cut" ∷ codes "--cut" ∷ codes "F" ∷ []) ≡ None
unfolding line_words_of
cut_twice = refl

cut_value : command_of (codes "append" ∷ codes "--cut=1" ∷ codes "F" ∷ []) ≡ None
unfolding line_words_of
cut_value = refl

front_of_cut : command_of (codes "append" ∷ codes "--cu" ∷ codes "F" ∷ []) ≡ None
unfolding line_words_of
front_of_cut = refl

option_of_repair : command_of (codes "append" ∷ codes "--most=1" ∷ codes "F" ∷ []) ≡ None
unfolding line_words_of
option_of_repair = refl

write_with_cut : command_of (codes "write" ∷ codes "--cut" ∷ codes "F" ∷ []) ≡ None
unfolding line_words_of
write_with_cut = refl

-- no file, and two
no_file : command_of (codes "append" ∷ codes "--cut" ∷ []) ≡ None
unfolding line_words_of
no_file = refl

two_files : command_of (codes "append" ∷ codes "F" ∷ codes "G" ∷ []) ≡ None
unfolding line_words_of
two_files = refl

-- the file is the one that is grown: none is read or made
named : names_of (command_of (codes "append" ∷ codes "--cut" ∷ codes "F" ∷ [])) ≡ record { first = 0; count = 0; made = None; times = 1; grown = Some 2 }
unfolding line_words_of
named = refl

-- what is printed of a file of 180 bytes whose last chunk is cut, to which a record is put
printed : appended_text (record { kept = 152; dropped = 28; records = 1; bytes = 196 }) ≡ codes "kept 152\ndropped 28\nrecords 1\nbytes 196\n"
unfolding digits
printed = refl

-- it is printed where there was no stop, and else the stop is said
whole : grown_puts None (codes "kept 0\n") 2 ≡ puts_to Out (codes "kept 0\n")
whole = refl

too_long_a_line : grown_puts (Some TooLong) (codes "kept 0\n") 2 ≡ puts_to Notes (codes "limit record 2\n")
unfolding digits
too_long_a_line = refl

bad_line : grown_puts (Some BadLine) (codes "kept 0\n") 0 ≡ puts_to Notes (codes "bad line 0\n")
unfolding digits
bad_line = refl
