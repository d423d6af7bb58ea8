-- Words of commands, judged by hand, computed from the definitions.
use Rattle.std.proofs.Common.{◌≡◌, ◌++◌, ℕ, true, false, Some, None, List, [], ◌∷◌, codes, refl}
use Rattle.command_frame.specs.Options.{is_file_word, value_in, values_of, value_given, are_words_of, file_places, only}

-- an option with a value
value : value_in (codes "--chunk=") (codes "--chunk=16") ≡ Some (codes "16")
value = refl

empty_value : value_in (codes "--chunk=") (codes "--chunk=") ≡ Some []
empty_value = refl

no_equals_sign : value_in (codes "--chunk=") (codes "--chunk") ≡ None
no_equals_sign = refl

two_equals_signs : value_in (codes "--chunk=") (codes "--chunk=1=2") ≡ Some (codes "1=2")
two_equals_signs = refl

front_of_name : value_in (codes "--chunk=") (codes "--chu=1") ≡ None
front_of_name = refl

longer_name : value_in (codes "--chunk=") (codes "--chunks=1") ≡ None
longer_name = refl

one_dash : value_in (codes "--chunk=") (codes "-chunk=1") ≡ None
one_dash = refl

three_dashes : value_in (codes "--chunk=") (codes "---chunk=1") ≡ None
three_dashes = refl

capital : value_in (codes "--chunk=") (codes "--Chunk=1") ≡ None
capital = refl

space_in_name : value_in (codes "--chunk=") (codes "--chunk =1") ≡ None
space_in_name = refl

other_option : value_in (codes "--chunk=") (codes "--every=1") ≡ None
other_option = refl

no_word : value_in (codes "--chunk=") [] ≡ None
no_word = refl

-- a value may be any text, with dashes, equals signs, spaces and other letters
dashed_value : value_in (codes "--key=") (codes "--key=--key=") ≡ Some (codes "--key=")
dashed_value = refl

other_letters : value_in (codes "--key=") (codes "--key= " ++ 0xc3 ∷ 0xa4 ∷ 10 ∷ []) ≡ Some (32 ∷ 0xc3 ∷ 0xa4 ∷ 10 ∷ [])
other_letters = refl

-- a flag
flag : value_in (codes "--hex") (codes "--hex") ≡ Some []
flag = refl

flag_with_value : value_in (codes "--hex") (codes "--hex=1") ≡ None
flag_with_value = refl

flag_with_empty_value : value_in (codes "--hex") (codes "--hex=") ≡ None
flag_with_empty_value = refl

longer_flag : value_in (codes "--hex") (codes "--hexes") ≡ None
longer_flag = refl

front_of_flag : value_in (codes "--hex") (codes "--he") ≡ None
front_of_flag = refl

-- words that name files, and words that don't
file_word : is_file_word (codes "F") ≡ true
file_word = refl

file_with_dash : is_file_word (codes "F-") ≡ true
file_with_dash = refl

file_with_equals_sign : is_file_word (codes "chunk=1") ≡ true
file_with_equals_sign = refl

file_in_folder : is_file_word (codes "./-") ≡ true
file_in_folder = refl

file_of_spaces : is_file_word (codes " ") ≡ true
file_of_spaces = refl

empty_word : is_file_word [] ≡ false
empty_word = refl

dash : is_file_word (codes "-") ≡ false
dash = refl

dashes : is_file_word (codes "--") ≡ false
dashes = refl

dash_and_letter : is_file_word (codes "-x") ≡ false
dash_and_letter = refl

-- commands of several forms
abbrev show_options : List (List ℕ)
show_options = codes "--recover" ∷ codes "--most=" ∷ codes "--hex" ∷ codes "--positions" ∷ []

abbrev seek_options : List (List ℕ)
seek_options = codes "--at=" ∷ codes "--key=" ∷ codes "--hex" ∷ []

show_flags : are_words_of show_options (codes "show" ∷ codes "--positions" ∷ codes "F" ∷ codes "--hex" ∷ []) ≡ true
show_flags = refl

show_all : are_words_of show_options (codes "show" ∷ codes "F" ∷ codes "--positions" ∷ codes "--most=1" ∷ codes "--hex" ∷ codes "--recover" ∷ []) ≡ true
show_all = refl

show_alone : are_words_of show_options (codes "show" ∷ []) ≡ true
show_alone = refl

show_flag_twice : are_words_of show_options (codes "show" ∷ codes "--hex" ∷ codes "F" ∷ codes "--hex" ∷ []) ≡ false
show_flag_twice = refl

show_value_twice : are_words_of show_options (codes "show" ∷ codes "--most=1" ∷ codes "--most=2" ∷ codes "F" ∷ []) ≡ false
show_value_twice = refl

show_other_option : are_words_of show_options (codes "show" ∷ codes "--key=" ∷ codes "F" ∷ []) ≡ false
show_other_option = refl

show_empty_word : are_words_of show_options (codes "show" ∷ [] ∷ []) ≡ false
show_empty_word = refl

show_dash : are_words_of show_options (codes "show" ∷ codes "F" ∷ codes "-" ∷ []) ≡ false
show_dash = refl

show_dashes : are_words_of show_options (codes "show" ∷ codes "--" ∷ codes "F" ∷ []) ≡ false
show_dashes = refl

show_no_flag : value_given (codes "--hex") (codes "show" ∷ codes "--recover" ∷ codes "F" ∷ []) ≡ None
show_no_flag = refl

show_flag : value_given (codes "--hex") (codes "show" ∷ codes "F" ∷ codes "--hex" ∷ []) ≡ Some []
show_flag = refl

-- a key of the same letters as an option, and an empty one
seek_key : are_words_of seek_options (codes "seek" ∷ codes "--key=--hex" ∷ codes "F" ∷ codes "--hex" ∷ []) ≡ true
seek_key = refl

seek_both : values_of (codes "--at=") (codes "seek" ∷ codes "--at=1" ∷ codes "--key=--at=2" ∷ codes "F" ∷ []) ≡ codes "1" ∷ []
seek_both = refl

seek_empty_key : value_given (codes "--key=") (codes "seek" ∷ codes "F" ∷ codes "--key=" ∷ []) ≡ Some []
seek_empty_key = refl

-- a command without options
verify_option : are_words_of [] (codes "verify" ∷ codes "--hex" ∷ codes "F" ∷ []) ≡ false
verify_option = refl

join_words : are_words_of [] (codes "join" ∷ codes "A" ∷ codes "A" ∷ codes "B" ∷ []) ≡ true
join_words = refl

-- places of files, where options stand before, between and behind them
one_file : file_places (codes "show" ∷ codes "--hex" ∷ codes "F" ∷ codes "--recover" ∷ []) ≡ 2 ∷ []
one_file = refl

two_files : file_places (codes "repair" ∷ codes "A" ∷ codes "--most=1" ∷ codes "B" ∷ []) ≡ 1 ∷ 3 ∷ []
two_files = refl

many_files : file_places (codes "join" ∷ codes "A" ∷ codes "B" ∷ codes "C" ∷ codes "D" ∷ []) ≡ 1 ∷ 2 ∷ 3 ∷ 4 ∷ []
many_files = refl

no_file : file_places (codes "show" ∷ codes "--hex" ∷ []) ≡ []
no_file = refl

no_words : file_places [] ≡ []
no_words = refl

only_one : only {X = ℕ} (7 ∷ []) ≡ Some 7
only_one = refl

only_none : only {X = ℕ} [] ≡ None
only_none = refl

only_two : only {X = ℕ} (7 ∷ 8 ∷ []) ≡ None
only_two = refl
