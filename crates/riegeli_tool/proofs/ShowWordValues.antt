-- The words of `show` and `verify`, judged by hand, computed from the definitions.
use Rattle.std.proofs.Common.{◌≡◌, ℕ, Bool, false, Option, Some, None, List, [], ◌∷◌, codes, refl, true}
use Rattle.riegeli_tool.specs.CommandWords.{show_command_of, verify_command_of}
use Rattle.riegeli_tool.specs.declared.command.Command.{Command}
use Rattle.riegeli_tool.specs.declared.command.Command.TheVariants.{Show, Verify}

-- what the words behind the name `show` say, and behind `verify`
abbrev shown : List (List ℕ) → Option Command
shown words = show_command_of (codes "show" ∷ words)

abbrev verified : List (List ℕ) → Option Command
verified words = verify_command_of (codes "verify" ∷ words)

-- that they say so much
abbrev says : (positions hex : Bool) → (file : ℕ) → Command
says positions hex file = Show (record { form = record { positions = positions; hex = hex }; file = file })

-- a file, with its positions or without, and the option before or behind it
file_alone : shown (codes "A" ∷ []) ≡ Some (says false false 1)
unfolding show_command_of
file_alone = refl

positions_before : shown (codes "--positions" ∷ codes "A" ∷ []) ≡ Some (says true false 2)
unfolding show_command_of
positions_before = refl

hex_before : shown (codes "--hex" ∷ codes "A" ∷ []) ≡ Some (says false true 2)
unfolding show_command_of
hex_before = refl

both_options : shown (codes "--hex" ∷ codes "A" ∷ codes "--positions" ∷ []) ≡ Some (says true true 2)
unfolding show_command_of
both_options = refl

positions_behind : shown (codes "A" ∷ codes "--positions" ∷ []) ≡ Some (says true false 1)
unfolding show_command_of
positions_behind = refl

-- a file of the option's letters without the dashes, and one of the command's name
file_like_option : shown (codes "positions" ∷ []) ≡ Some (says false false 1)
unfolding show_command_of
file_like_option = refl

file_like_command : shown (codes "--positions" ∷ codes "show" ∷ []) ≡ Some (says true false 2)
unfolding show_command_of
file_like_command = refl

-- no file, two, and words that name none
no_file : shown [] ≡ None
unfolding show_command_of
no_file = refl

positions_alone : shown (codes "--positions" ∷ []) ≡ None
unfolding show_command_of
positions_alone = refl

two_files : shown (codes "A" ∷ codes "B" ∷ []) ≡ None
unfolding show_command_of
two_files = refl

two_files_and_positions : shown (codes "A" ∷ codes "--positions" ∷ codes "B" ∷ []) ≡ None
unfolding show_command_of
two_files_and_positions = refl

empty_file : shown ([] ∷ []) ≡ None
unfolding show_command_of
empty_file = refl

dash : shown (codes "-" ∷ []) ≡ None
unfolding show_command_of
dash = refl

dashes : shown (codes "--" ∷ codes "A" ∷ []) ≡ None
unfolding show_command_of
dashes = refl

-- the option twice, with a value, and in another spelling
positions_twice : shown (codes "--positions" ∷ codes "--positions" ∷ codes "A" ∷ []) ≡ None
unfolding show_command_of
positions_twice = refl

positions_around : shown (codes "--positions" ∷ codes "A" ∷ codes "--positions" ∷ []) ≡ None
unfolding show_command_of
positions_around = refl

positions_with_value : shown (codes "--positions=1" ∷ codes "A" ∷ []) ≡ None
unfolding show_command_of
positions_with_value = refl

positions_with_empty_value : shown (codes "--positions=" ∷ codes "A" ∷ []) ≡ None
unfolding show_command_of
positions_with_empty_value = refl

positions_short : shown (codes "--position" ∷ codes "A" ∷ []) ≡ None
unfolding show_command_of
positions_short = refl

positions_capital : shown (codes "--Positions" ∷ codes "A" ∷ []) ≡ None
unfolding show_command_of
positions_capital = refl

positions_one_dash : shown (codes "-positions" ∷ codes "A" ∷ []) ≡ None
unfolding show_command_of
positions_one_dash = refl

-- options of other commands
chunk_option : shown (codes "--chunk=1" ∷ codes "A" ∷ []) ≡ None
unfolding show_command_of
chunk_option = refl

at_option : shown (codes "A" ∷ codes "--at=1" ∷ []) ≡ None
unfolding show_command_of
at_option = refl

-- `verify` has a file and no options
verify_file : verified (codes "F" ∷ []) ≡ Some (Verify 1)
unfolding verify_command_of
verify_file = refl

verify_none : verified [] ≡ None
unfolding verify_command_of
verify_none = refl

verify_two : verified (codes "F" ∷ codes "G" ∷ []) ≡ None
unfolding verify_command_of
verify_two = refl

verify_hex : verified (codes "--hex" ∷ codes "F" ∷ []) ≡ None
unfolding verify_command_of
verify_hex = refl

verify_positions : verified (codes "F" ∷ codes "--positions" ∷ []) ≡ None
unfolding verify_command_of
verify_positions = refl

verify_dash : verified (codes "-" ∷ []) ≡ None
unfolding verify_command_of
verify_dash = refl

verify_empty : verified ([] ∷ []) ≡ None
unfolding verify_command_of
verify_empty = refl
