-- The files that words name, judged by hand, computed from the definitions.
use Rattle.std.proofs.Common.{◌≡◌, ◌++◌, ℕ, Some, None, List, [], ◌∷◌, codes, replicate, refl}
use Rattle.riegeli_tool.specs.declared.command.Command.TheVariants.{Collect}
use Rattle.riegeli_tool.specs.declared.command.Names.{Names}
use Rattle.riegeli_tool.specs.Commands.{command_of, names_of, none_named}
use Rattle.riegeli_tool.specs.CommandWords.{line_words_of, ranges_command_of, repair_command_of}
use Rattle.command_frame.specs.Options.{files_words_of}

-- what words name
abbrev named : List (List ℕ) → Names
named words = names_of (command_of words)

-- the file that is read, and the one that is made of it
abbrev made_of : ℕ → ℕ → Names
made_of first made = record none_named { first = first; count = 1; made = Some made }

repair_behind_bound : named (codes "repair" ∷ codes "--most=1" ∷ codes "A" ∷ codes "B" ∷ []) ≡ made_of 2 3
unfolding repair_command_of
repair_behind_bound = refl

repair_around_bound : named (codes "repair" ∷ codes "A" ∷ codes "--most=1" ∷ codes "B" ∷ []) ≡ made_of 1 3
unfolding repair_command_of
repair_around_bound = refl

-- a file may be joined twice
join_twice : named (codes "join" ∷ codes "A" ∷ codes "A" ∷ codes "B" ∷ []) ≡ record none_named { first = 1; count = 2; made = Some 3 }
unfolding files_words_of
join_twice = refl

-- the file is read as often as there are parts
ranges_of_three : named (codes "ranges" ∷ codes "--parts=3" ∷ codes "A" ∷ []) ≡ record none_named { first = 2; count = 1; times = 3 }
unfolding ranges_command_of
ranges_of_three = refl

ranges_of_sixteen : named (codes "ranges" ∷ codes "A" ∷ codes "--parts=16" ∷ []) ≡ record none_named { first = 1; count = 1; times = 16 }
unfolding ranges_command_of
ranges_of_sixteen = refl

ranges_of_seventeen : named (codes "ranges" ∷ codes "A" ∷ codes "--parts=17" ∷ []) ≡ none_named
unfolding ranges_command_of
ranges_of_seventeen = refl

append_alone : named (codes "append" ∷ codes "A" ∷ []) ≡ record none_named { grown = Some 1 }
unfolding line_words_of
append_alone = refl

append_between_options : named (codes "append" ∷ codes "--cut" ∷ codes "A" ∷ codes "--hex" ∷ []) ≡ record none_named { grown = Some 2 }
unfolding line_words_of
append_between_options = refl

append_of_two : named (codes "append" ∷ codes "A" ∷ codes "B" ∷ []) ≡ none_named
unfolding line_words_of
append_of_two = refl

collect_one : named (codes "collect" ∷ codes "A" ∷ codes "B" ∷ []) ≡ made_of 1 2
unfolding files_words_of
collect_one = refl

collect_one_twice : named (codes "collect" ∷ codes "A" ∷ codes "B" ∷ codes "A" ∷ codes "C" ∷ []) ≡ record none_named { first = 1; count = 3; made = Some 4 }
unfolding files_words_of
collect_one_twice = refl

collect_into_itself : named (codes "collect" ∷ codes "A" ∷ codes "A" ∷ []) ≡ none_named
unfolding files_words_of
collect_into_itself = refl

-- 16 files are read, and no 17th; the one that is made is none of them
collect_sixteen : command_of (codes "collect" ∷ replicate 16 (codes "F") ++ codes "T" ∷ []) ≡ Some (Collect (record { count = 16; to = 17 }))
unfolding files_words_of
collect_sixteen = refl

collect_seventeen : command_of (codes "collect" ∷ replicate 17 (codes "F") ++ codes "T" ∷ []) ≡ None
unfolding files_words_of
collect_seventeen = refl

made_and_read : command_of (codes "collect" ∷ codes "F" ∷ codes "T" ∷ codes "F" ∷ []) ≡ None
unfolding files_words_of
made_and_read = refl
