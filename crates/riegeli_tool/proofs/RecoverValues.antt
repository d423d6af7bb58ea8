-- The words of `show` that go on past damage, judged by hand, computed from the definitions.
use Rattle.std.proofs.Common.{◌≡◌, true, false, Some, None, [], ◌∷◌, codes, refl}
use Rattle.riegeli_tool.specs.declared.command.Command.TheVariants.{Recover}
use Rattle.riegeli_tool.specs.CommandWords.{show_command_of, recover_command_of}
use Rattle.riegeli_tool.specs.Commands.{command_of, accepted, names_of}

-- a file, and the options in any place, none of them twice
recover_file : command_of (codes "show" ∷ codes "--recover" ∷ codes "F" ∷ [])
    ≡ Some (Recover (record { show = record { form = record { positions = false; hex = false }; file = 2 }; most = None }))
unfolding show_command_of recover_command_of
recover_file = refl

all_options : command_of (codes "show" ∷ codes "--most=0018" ∷ codes "F" ∷ codes "--positions" ∷ codes "--recover" ∷ [])
    ≡ Some (Recover (record { show = record { form = record { positions = true; hex = false }; file = 2 }; most = Some 18 }))
unfolding show_command_of recover_command_of
all_options = refl

recover_twice : command_of (codes "show" ∷ codes "--recover" ∷ codes "F" ∷ codes "--recover" ∷ []) ≡ None
unfolding show_command_of recover_command_of
recover_twice = refl

most_twice : command_of (codes "show" ∷ codes "--recover" ∷ codes "--most=1" ∷ codes "--most=1" ∷ codes "F" ∷ []) ≡ None
unfolding show_command_of recover_command_of
most_twice = refl

-- the bound, which stands only where damage is passed
most_of_nothing : command_of (codes "show" ∷ codes "--recover" ∷ codes "--most=0" ∷ codes "F" ∷ [])
    ≡ Some (Recover (record { show = record { form = record { positions = false; hex = false }; file = 3 }; most = Some 0 }))
unfolding show_command_of recover_command_of
most_of_nothing = refl

greatest_bound : command_of (codes "show" ∷ codes "--recover" ∷ codes "--most=4611686018427387904" ∷ codes "F" ∷ [])
    ≡ Some (Recover (record { show = record { form = record { positions = false; hex = false }; file = 3 }; most = Some 4611686018427387904 }))
unfolding show_command_of recover_command_of
greatest_bound = refl

past_the_greatest : command_of (codes "show" ∷ codes "--recover" ∷ codes "--most=4611686018427387905" ∷ codes "F" ∷ []) ≡ None
unfolding show_command_of recover_command_of
past_the_greatest = refl

no_bound : command_of (codes "show" ∷ codes "--recover" ∷ codes "--most=" ∷ codes "F" ∷ []) ≡ None
unfolding show_command_of recover_command_of
no_bound = refl

bound_alone : command_of (codes "show" ∷ codes "--most=18" ∷ codes "F" ∷ []) ≡ None
unfolding show_command_of
bound_alone = refl

-- no file, two, and none handed in
no_file : command_of (codes "show" ∷ codes "--recover" ∷ []) ≡ None
unfolding show_command_of recover_command_of
no_file = refl

two_files : command_of (codes "show" ∷ codes "--recover" ∷ codes "F" ∷ codes "G" ∷ []) ≡ None
unfolding show_command_of recover_command_of
two_files = refl

no_file_handed_in : accepted (codes "show" ∷ codes "--recover" ∷ codes "F" ∷ []) 0 ≡ None
unfolding show_command_of recover_command_of
no_file_handed_in = refl

one_read : names_of (command_of (codes "show" ∷ codes "--recover" ∷ codes "F" ∷ [])) ≡ record { first = 2; count = 1; made = None; times = 1; grown = None }
unfolding show_command_of recover_command_of
one_read = refl
