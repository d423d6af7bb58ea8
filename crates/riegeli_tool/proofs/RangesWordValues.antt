-- The words of `ranges`, judged by hand, computed from the definitions.
use Rattle.std.proofs.Common.{◌≡◌, ℕ, Option, Some, None, List, [], ◌∷◌, codes, refl}
use Rattle.riegeli_tool.specs.CommandWords.{ranges_command_of}
use Rattle.riegeli_tool.specs.declared.command.Command.{Command}
use Rattle.riegeli_tool.specs.declared.command.Command.TheVariants.{Ranges}

-- what the words behind the name `ranges` say
abbrev said : List (List ℕ) → Option Command
said words = ranges_command_of (codes "ranges" ∷ words)

two_parts : said (codes "--parts=2" ∷ codes "F" ∷ []) ≡ Some (Ranges (record { parts = 2; file = 2 }))
unfolding ranges_command_of
two_parts = refl

behind_file : said (codes "F" ∷ codes "--parts=016" ∷ []) ≡ Some (Ranges (record { parts = 16; file = 1 }))
unfolding ranges_command_of
behind_file = refl

one_part : said (codes "--parts=1" ∷ codes "F" ∷ []) ≡ Some (Ranges (record { parts = 1; file = 2 }))
unfolding ranges_command_of
one_part = refl

-- no number of parts, and such as there can't be
no_parts : said (codes "F" ∷ []) ≡ None
unfolding ranges_command_of
no_parts = refl

zero_parts : said (codes "--parts=0" ∷ codes "F" ∷ []) ≡ None
unfolding ranges_command_of
zero_parts = refl

many_parts : said (codes "--parts=17" ∷ codes "F" ∷ []) ≡ None
unfolding ranges_command_of
many_parts = refl

empty_parts : said (codes "--parts=" ∷ codes "F" ∷ []) ≡ None
unfolding ranges_command_of
empty_parts = refl

-- the option twice, and options of other commands
parts_twice : said (codes "--parts=2" ∷ codes "--parts=2" ∷ codes "F" ∷ []) ≡ None
unfolding ranges_command_of
parts_twice = refl

option_of_show : said (codes "--parts=2" ∷ codes "--hex" ∷ codes "F" ∷ []) ≡ None
unfolding ranges_command_of
option_of_show = refl

-- no file and two
no_file : said (codes "--parts=2" ∷ []) ≡ None
unfolding ranges_command_of
no_file = refl

two_files : said (codes "--parts=2" ∷ codes "F" ∷ codes "G" ∷ []) ≡ None
unfolding ranges_command_of
two_files = refl
