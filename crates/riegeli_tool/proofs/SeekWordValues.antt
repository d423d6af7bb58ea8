-- The words of `seek`, judged by hand, computed from the definitions.
use Rattle.std.proofs.Common.{◌≡◌, ℕ, Bool, true, false, Option, Some, None, List, [], ◌∷◌, codes, refl}
use Rattle.seek_command.specs.declared.seek_words.By.{By}
use Rattle.seek_command.specs.declared.seek_words.By.TheVariants.{At, Key}
use Rattle.riegeli_tool.specs.CommandWords.{seek_command_of}
use Rattle.riegeli_tool.specs.declared.command.Command.{Command}
use Rattle.riegeli_tool.specs.declared.command.Command.TheVariants.{Seek}

-- what the words behind the name `seek` say
abbrev sought : List (List ℕ) → Option Command
sought words = seek_command_of (codes "seek" ∷ words)

-- that they say so much
abbrev says : By → (hex : Bool) → (file : ℕ) → Command
says by hex file = Seek (record { by = by; hex = hex; file = file })

-- a position or a key, before the file or behind it
position_before : sought (codes "--at=65" ∷ codes "F" ∷ []) ≡ Some (says (At 65) false 2)
unfolding seek_command_of
position_before = refl

position_behind : sought (codes "F" ∷ codes "--hex" ∷ codes "--at=0" ∷ []) ≡ Some (says (At 0) true 1)
unfolding seek_command_of
position_behind = refl

key_before : sought (codes "--key=b" ∷ codes "F" ∷ []) ≡ Some (says (Key (codes "b")) false 2)
unfolding seek_command_of
key_before = refl

key_behind : sought (codes "--hex" ∷ codes "F" ∷ codes "--key=b" ∷ []) ≡ Some (says (Key (codes "b")) true 2)
unfolding seek_command_of
key_behind = refl

-- no text is a key, and so is one like an option
empty_key : sought (codes "--key=" ∷ codes "F" ∷ []) ≡ Some (says (Key []) false 2)
unfolding seek_command_of
empty_key = refl

key_like_option : sought (codes "--key=--at=1" ∷ codes "F" ∷ []) ≡ Some (says (Key (codes "--at=1")) false 2)
unfolding seek_command_of
key_like_option = refl

-- the greatest position, and the one behind it
greatest_position : sought (codes "--at=18446744073709551615" ∷ codes "F" ∷ []) ≡ Some (says (At 18446744073709551615) false 2)
unfolding seek_command_of
greatest_position = refl

too_great : sought (codes "--at=18446744073709551616" ∷ codes "F" ∷ []) ≡ None
unfolding seek_command_of
too_great = refl

-- neither of them, both, or one twice
neither : sought (codes "F" ∷ []) ≡ None
unfolding seek_command_of
neither = refl

both : sought (codes "--at=1" ∷ codes "--key=a" ∷ codes "F" ∷ []) ≡ None
unfolding seek_command_of
both = refl

two_positions : sought (codes "--at=1" ∷ codes "F" ∷ codes "--at=1" ∷ []) ≡ None
unfolding seek_command_of
two_positions = refl

two_keys : sought (codes "--key=a" ∷ codes "--key=" ∷ codes "F" ∷ []) ≡ None
unfolding seek_command_of
two_keys = refl

-- no number, no file, two, and an option of `show`
no_number : sought (codes "--at=" ∷ codes "F" ∷ []) ≡ None
unfolding seek_command_of
no_number = refl

no_file : sought (codes "--at=1" ∷ []) ≡ None
unfolding seek_command_of
no_file = refl

two_files : sought (codes "--key=a" ∷ codes "F" ∷ codes "G" ∷ []) ≡ None
unfolding seek_command_of
two_files = refl

positions : sought (codes "--at=1" ∷ codes "--positions" ∷ codes "F" ∷ []) ≡ None
unfolding seek_command_of
positions = refl
