-- The words of `show` and `verify`, judged by hand, computed from the definitions.
use Rattle.std.proofs.Common.{◌≡◌, false, Some, None, [], ◌∷◌, codes, refl, true}
use Rattle.riegeli_tool.specs.declared.command.Command.TheVariants.{Show, Verify}
use Rattle.riegeli_tool.specs.CommandWords.{show_command_of, verify_command_of}
use Rattle.riegeli_tool.specs.CommandAnswers.{usage}
use Rattle.riegeli_tool.specs.Commands.{command_of, accepted, names_of}
use Rattle.riegeli_tool.specs.AnswersTo.{IsAnswerTo}
use Rattle.command_frame.specs.Unseen.{reads}

-- the names of commands, whole and in small letters
command_of_show : command_of (codes "show" ∷ codes "--positions" ∷ codes "A" ∷ []) ≡ Some (Show (record { form = record { positions = true; hex = false }; file = 2 }))
unfolding show_command_of verify_command_of
command_of_show = refl

command_of_verify : command_of (codes "verify" ∷ codes "F" ∷ []) ≡ Some (Verify 1)
unfolding show_command_of verify_command_of
command_of_verify = refl

show_alone : command_of (codes "show" ∷ []) ≡ None
unfolding show_command_of verify_command_of
show_alone = refl

show_capital : command_of (codes "Show" ∷ codes "F" ∷ []) ≡ None
unfolding show_command_of verify_command_of
show_capital = refl

show_longer : command_of (codes "shows" ∷ codes "F" ∷ []) ≡ None
unfolding show_command_of verify_command_of
show_longer = refl

show_shorter : command_of (codes "sho" ∷ codes "F" ∷ []) ≡ None
unfolding show_command_of verify_command_of
show_shorter = refl

show_behind : command_of (codes "F" ∷ codes "show" ∷ []) ≡ None
unfolding show_command_of verify_command_of
show_behind = refl

verify_capital : command_of (codes "VERIFY" ∷ codes "F" ∷ []) ≡ None
unfolding show_command_of verify_command_of
verify_capital = refl

verify_longer : command_of (codes "verify " ∷ codes "F" ∷ []) ≡ None
unfolding show_command_of verify_command_of
verify_longer = refl

verify_shorter : command_of (codes "verif" ∷ codes "F" ∷ []) ≡ None
unfolding show_command_of verify_command_of
verify_shorter = refl

-- they read one file, the one that is named, and make none
names_of_show : names_of (command_of (codes "show" ∷ codes "--positions" ∷ codes "A" ∷ [])) ≡ record { first = 2; count = 1; made = None; times = 1; grown = None }
unfolding show_command_of verify_command_of
names_of_show = refl

names_of_show_behind : names_of (command_of (codes "show" ∷ codes "A" ∷ codes "--positions" ∷ [])) ≡ record { first = 1; count = 1; made = None; times = 1; grown = None }
unfolding show_command_of verify_command_of
names_of_show_behind = refl

names_of_verify : names_of (command_of (codes "verify" ∷ codes "F" ∷ [])) ≡ record { first = 1; count = 1; made = None; times = 1; grown = None }
unfolding show_command_of verify_command_of
names_of_verify = refl

names_of_none : names_of (command_of (codes "show" ∷ codes "A" ∷ codes "B" ∷ [])) ≡ record { first = 0; count = 0; made = None; times = 1; grown = None }
unfolding show_command_of verify_command_of
names_of_none = refl

show_of_one : accepted (codes "show" ∷ codes "A" ∷ []) 1 ≡ Some (Show (record { form = record { positions = false; hex = false }; file = 1 }))
unfolding show_command_of verify_command_of
show_of_one = refl

show_of_none : accepted (codes "show" ∷ codes "A" ∷ []) 0 ≡ None
unfolding show_command_of verify_command_of
show_of_none = refl

show_of_two : accepted (codes "show" ∷ codes "A" ∷ []) 2 ≡ None
unfolding show_command_of verify_command_of
show_of_two = refl

verify_of_one : accepted (codes "verify" ∷ codes "F" ∷ []) 1 ≡ Some (Verify 1)
unfolding show_command_of verify_command_of
verify_of_one = refl

verify_of_none : accepted (codes "verify" ∷ codes "F" ∷ []) 0 ≡ None
unfolding show_command_of verify_command_of
verify_of_none = refl

-- without that file they are no command
answer_without_file : IsAnswerTo (accepted (codes "show" ∷ codes "A" ∷ []) 0) (reads [] []) usage
unfolding show_command_of verify_command_of
answer_without_file = refl
