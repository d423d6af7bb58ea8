-- The words of `write`, judged by hand, computed from the definitions.
use Rattle.std.proofs.Common.{◌≡◌, ℕ, Bool, true, false, Option, Some, None, List, [], ◌∷◌, codes, refl}
use Rattle.record_group.specs.declared.pad.Pad.{Pad}
use Rattle.record_group.specs.declared.pad.Pad.TheVariants.{No, Both, Start, End}
use Rattle.riegeli_tool.specs.CommandWords.{line_words_of, write_command_of}
use Rattle.riegeli_tool.specs.declared.command.Command.{Command}
use Rattle.riegeli_tool.specs.declared.command.Command.TheVariants.{Write}

-- what the words behind the name `write` say
abbrev written : List (List ℕ) → Option Command
written words = write_command_of (codes "write" ∷ words)

-- that they say so much
abbrev says : ℕ → Option ℕ → Pad → (hex : Bool) → (file : ℕ) → Command
says size every pad hex file =
    Write (record { options = record { size = size; workers = 1; every = every; pad = pad }; hex = hex; file = file })

file_alone : written (codes "F" ∷ []) ≡ Some (says 1048576 None No false 1)
unfolding line_words_of
file_alone = refl

chunk : written (codes "--chunk=1" ∷ codes "F" ∷ []) ≡ Some (says 1 None No false 2)
unfolding line_words_of
chunk = refl

every : written (codes "F" ∷ codes "--every=2" ∷ []) ≡ Some (says 1048576 (Some 2) No false 1)
unfolding line_words_of
every = refl

workers : written (codes "--workers=16" ∷ codes "F" ∷ [])
    ≡ Some (Write (record { options = record { size = 1048576; workers = 16; every = None; pad = No }; hex = false; file = 2 }))
unfolding line_words_of
workers = refl

no_worker : written (codes "--workers=0" ∷ codes "F" ∷ []) ≡ None
unfolding line_words_of
no_worker = refl

too_many_workers : written (codes "--workers=17" ∷ codes "F" ∷ []) ≡ None
unfolding line_words_of
too_many_workers = refl

pad_start : written (codes "--pad=start" ∷ codes "F" ∷ []) ≡ Some (says 1048576 None Start false 2)
unfolding line_words_of
pad_start = refl

pad_end : written (codes "--pad=end" ∷ codes "F" ∷ []) ≡ Some (says 1048576 None End false 2)
unfolding line_words_of
pad_end = refl

pad_both : written (codes "--pad=both" ∷ codes "F" ∷ []) ≡ Some (says 1048576 None Both false 2)
unfolding line_words_of
pad_both = refl

hex_form : written (codes "F" ∷ codes "--hex" ∷ []) ≡ Some (says 1048576 None No true 1)
unfolding line_words_of
hex_form = refl

-- all options, before and behind the file, with the greatest numbers
all_options : written (codes "--pad=both" ∷ codes "--every=16777216" ∷ codes "F" ∷ codes "--chunk=0000000016777216" ∷ codes "--hex" ∷ [])
    ≡ Some (says 16777216 (Some 16777216) Both true 3)
unfolding line_words_of
all_options = refl

-- a file of an option's letters without the dashes
file_like_option : written (codes "chunk=1" ∷ []) ≡ Some (says 1048576 None No false 1)
unfolding line_words_of
file_like_option = refl

-- numbers past the bounds, and words that are no numbers
chunk_zero : written (codes "--chunk=0" ∷ codes "F" ∷ []) ≡ None
unfolding line_words_of
chunk_zero = refl

chunk_too_large : written (codes "--chunk=16777217" ∷ codes "F" ∷ []) ≡ None
unfolding line_words_of
chunk_too_large = refl

every_zero : written (codes "--every=0" ∷ codes "F" ∷ []) ≡ None
unfolding line_words_of
every_zero = refl

every_too_large : written (codes "--every=16777217" ∷ codes "F" ∷ []) ≡ None
unfolding line_words_of
every_too_large = refl

chunk_plus : written (codes "--chunk=+1" ∷ codes "F" ∷ []) ≡ None
unfolding line_words_of
chunk_plus = refl

chunk_empty : written (codes "--chunk=" ∷ codes "F" ∷ []) ≡ None
unfolding line_words_of
chunk_empty = refl

chunk_no_value : written (codes "--chunk" ∷ codes "F" ∷ []) ≡ None
unfolding line_words_of
chunk_no_value = refl

chunk_number_behind : written (codes "--chunk" ∷ codes "1" ∷ codes "F" ∷ []) ≡ None
unfolding line_words_of
chunk_number_behind = refl

chunk_two_values : written (codes "--chunk=1=2" ∷ codes "F" ∷ []) ≡ None
unfolding line_words_of
chunk_two_values = refl

-- padding of another name
pad_no : written (codes "--pad=no" ∷ codes "F" ∷ []) ≡ None
unfolding line_words_of
pad_no = refl

pad_empty : written (codes "--pad=" ∷ codes "F" ∷ []) ≡ None
unfolding line_words_of
pad_empty = refl

pad_capital : written (codes "--pad=Start" ∷ codes "F" ∷ []) ≡ None
unfolding line_words_of
pad_capital = refl

pad_two : written (codes "--pad=start|end" ∷ codes "F" ∷ []) ≡ None
unfolding line_words_of
pad_two = refl

-- an option twice, also with one value, a front of a name, and options of other commands
chunk_twice : written (codes "--chunk=1" ∷ codes "F" ∷ codes "--chunk=1" ∷ []) ≡ None
unfolding line_words_of
chunk_twice = refl

front_of_chunk : written (codes "--chu=1" ∷ codes "F" ∷ []) ≡ None
unfolding line_words_of
front_of_chunk = refl

option_of_sample : written (codes "--seed=1" ∷ codes "F" ∷ []) ≡ None
unfolding line_words_of
option_of_sample = refl

option_of_show : written (codes "F" ∷ codes "--recover" ∷ []) ≡ None
unfolding line_words_of
option_of_show = refl

-- dashes, an empty word, no file and two
dash : written (codes "F" ∷ codes "-" ∷ []) ≡ None
unfolding line_words_of
dash = refl

dashes : written (codes "--" ∷ codes "F" ∷ []) ≡ None
unfolding line_words_of
dashes = refl

empty_file : written ([] ∷ []) ≡ None
unfolding line_words_of
empty_file = refl

empty_word_behind : written (codes "F" ∷ [] ∷ []) ≡ None
unfolding line_words_of
empty_word_behind = refl

no_file : written (codes "--chunk=1" ∷ []) ≡ None
unfolding line_words_of
no_file = refl

two_files : written (codes "F" ∷ codes "--chunk=1" ∷ codes "G" ∷ []) ≡ None
unfolding line_words_of
two_files = refl
