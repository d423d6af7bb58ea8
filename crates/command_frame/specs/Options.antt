-- Promise. The words of a command: its options and its files. The word at place 0 is the command's name. Own.
use Rattle.std.specs.Prelude.{ℕ, ◌+◌, ◌-◌, Bool, false, not, ◌&&◌, ◌||◌, if◌then◌else◌, Option, Some, None, List, [], ◌∷◌, length, drop, filter, slice_index, slice_get, get_or, is_some, option_map, option_and_then, nat_eq, nat_le, ◌==◌}
use Rattle.std.specs.Bool.{then_some}
use Rattle.std.specs.Option.{option_map_or}
use Rattle.std.specs.Str.{bytes_eq}
use Rattle.std.specs.List.{filter_map, list_all, list_any, range_with_len, starts_with}
use Rattle.command_frame.specs.Numbers.{number_within}
use Rattle.command_frame.specs.declared.many_files.FilesWords.{FilesWords}

-- a word that names a file: not empty, and not beginning with a dash
abbrev pub is_file_word : List ℕ → Bool
is_file_word word = not (length word == 0) && not (slice_index word 0 == 45)

-- whether an option takes a value: its last byte is an equals sign, as of `--chunk=`. A flag, as `--hex`, takes none
abbrev pub has_value : List ℕ → Bool
has_value option = slice_index option (length option - 1) == 61

-- the value that a word gives an option: the bytes behind the equals sign, and the empty list for a flag, which the word then
-- is. None where the word doesn't give this option
abbrev pub value_in : List ℕ → List ℕ → Option (List ℕ)
value_in option word =
    then_some (starts_with nat_eq word option && (has_value option || length word == length option)) (drop (length option) word)

-- the values that words give an option, one each time that it stands there
abbrev pub values_of : List ℕ → List (List ℕ) → List (List ℕ)
values_of option words = filter_map (value_in option) words

-- the option's value, where it stands
abbrev pub value_given : List ℕ → List (List ℕ) → Option (List ℕ)
value_given option words = slice_get (values_of option words) 0

-- whether a flag stands there
abbrev pub has_flag : List ℕ → List (List ℕ) → Bool
has_flag flag words = is_some (value_given flag words)

-- whether a word may stand in a command of these options: it names a file, or is one of them
abbrev pub is_word_of : List (List ℕ) → List ℕ → Bool
is_word_of options word = is_file_word word || list_any (λ option. is_some (value_in option word)) options

-- whether words are those of a command of these options: each may stand there, and no option stands twice
abbrev pub are_words_of : List (List ℕ) → List (List ℕ) → Bool
are_words_of options words =
    list_all (is_word_of options) words && list_all (λ option. nat_le (length (values_of option words)) 1) options

-- whether the word at a place names a file
abbrev pub is_file_at : List (List ℕ) → ℕ → Bool
is_file_at words place = option_map_or is_file_word (slice_get words place) false

-- the places of the files, which stand behind the command's name
abbrev pub file_places : List (List ℕ) → List ℕ
file_places words = filter (is_file_at words) (range_with_len 1 (length words - 1))

-- the one element of a list
abbrev pub only : {X : Type 0} → List X → Option X
only (x ∷ []) = Some x
only xs = None

-- the two elements of a list
abbrev pub only_two : {X : Type 0} → List X → Option (X × X)
only_two (x ∷ y ∷ []) = Some (x, y)
only_two xs = None

-- the place of the file of a command that has these options and one file
abbrev pub file_place : (options words : List (List ℕ)) → Option ℕ
file_place options words = if are_words_of options words then only (file_places words) else None

-- whether the words at two places are the same
abbrev pub is_same_at : List (List ℕ) → ℕ → ℕ → Bool
is_same_at words place other = bytes_eq (get_or words place []) (get_or words other [])

-- whether there may be `count` words of a command that reads 1 to `most` files and makes one: its name, these, and the made one
abbrev pub may_be_files : ℕ → ℕ → Bool
may_be_files most count = nat_le 3 count && nat_le count (most + 2)

-- whether the word at place `to` also stands at a place before it, behind the command's name
abbrev pub is_read_too : List (List ℕ) → ℕ → Bool
is_read_too words to = list_any (λ place. is_same_at words place to) (range_with_len 1 (to - 1))

-- what the words of such a command say: all name files, the last of them the made one, whose word is none of the others
unfoldable pub files_words_of : (most : ℕ) → List (List ℕ) → Option FilesWords
files_words_of most words =
    if are_words_of [] words && may_be_files most (length words)
    then (if is_read_too words (length words - 1) then None else Some (record { count = length words - 2; to = length words - 1 }))
    else None

-- a value that may be left out: `Some None` where it is, `Some` of what is read where it stands there and can be read, and None
-- where it can't
abbrev pub optional_value : {X : Type 0} → (List ℕ → Option X) → Option (List ℕ) → Option (Option X)
optional_value read None = Some None
optional_value read (Some value) = option_map Some (read value)

-- the same of a number within these bounds
abbrev pub number_given : (option : List ℕ) (least most : ℕ) → List (List ℕ) → Option (Option ℕ)
number_given option least most words = optional_value (number_within least most) (value_given option words)

-- what follows from an answer, if there is one
infixl 10 ◌>>=◌
abbrev pub ◌>>=◌ : {X Y : Type 0} → Option X → (X → Option Y) → Option Y
answer >>= next = option_and_then next answer
