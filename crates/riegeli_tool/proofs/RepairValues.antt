-- The words of `repair` and what it prints, judged by hand, computed from the definitions.
use Rattle.std.proofs.Common.{◌≡◌, Some, None, [], ◌∷◌, codes, refl}
use Rattle.std.specs.Fmt.{digits}
use Rattle.record_io.specs.Puts.{Out, Notes, puts_to}
use Rattle.riegeli_tool.specs.declared.command.Command.TheVariants.{Repair}
use Rattle.riegeli_tool.specs.CommandWords.{repair_command_of}
use Rattle.riegeli_tool.specs.RepairCommand.{end_puts}
use Rattle.riegeli_tool.specs.Commands.{command_of, accepted, names_of}
use Rattle.block_layout.specs.Layout as layout
use Rattle.chunk_reader.specs.declared.reasons.Why.TheVariants as why

-- two files, and the bound in any place
two_files : command_of (codes "repair" ∷ codes "A" ∷ codes "B" ∷ []) ≡ Some (Repair (record { most = None; from = 1; to = 2 }))
unfolding repair_command_of
two_files = refl

bound_between : command_of (codes "repair" ∷ codes "A" ∷ codes "--most=0018" ∷ codes "B" ∷ []) ≡ Some (Repair (record { most = Some 18; from = 1; to = 3 }))
unfolding repair_command_of
bound_between = refl

greatest_bound : command_of (codes "repair" ∷ codes "--most=4611686018427387904" ∷ codes "A" ∷ codes "B" ∷ [])
    ≡ Some (Repair (record { most = Some 4611686018427387904; from = 2; to = 3 }))
unfolding repair_command_of
greatest_bound = refl

past_the_greatest : command_of (codes "repair" ∷ codes "--most=4611686018427387905" ∷ codes "A" ∷ codes "B" ∷ []) ≡ None
unfolding repair_command_of
past_the_greatest = refl

bound_twice : command_of (codes "repair" ∷ codes "--most=1" ∷ codes "--most=1" ∷ codes "A" ∷ codes "B" ∷ []) ≡ None
unfolding repair_command_of
bound_twice = refl

-- the same word twice, one file, and three
same_word : command_of (codes "repair" ∷ codes "A" ∷ codes "A" ∷ []) ≡ None
unfolding repair_command_of
same_word = refl

one_file : command_of (codes "repair" ∷ codes "A" ∷ []) ≡ None
unfolding repair_command_of
one_file = refl

three_files : command_of (codes "repair" ∷ codes "A" ∷ codes "B" ∷ codes "C" ∷ []) ≡ None
unfolding repair_command_of
three_files = refl

-- options of `show`
recover_option : command_of (codes "repair" ∷ codes "--recover" ∷ codes "A" ∷ codes "B" ∷ []) ≡ None
unfolding repair_command_of
recover_option = refl

-- the first file is read, and the second one made
named : names_of (command_of (codes "repair" ∷ codes "A" ∷ codes "B" ∷ [])) ≡ record { first = 1; count = 1; made = Some 2; times = 1; grown = None }
unfolding repair_command_of
named = refl

both_handed_in : accepted (codes "repair" ∷ codes "A" ∷ codes "B" ∷ []) 2 ≡ None
unfolding repair_command_of
both_handed_in = refl

-- the report of a file of no chunk but the first is printed, and none where a region is refused
nothing_intact : end_puts None [] ≡ puts_to Out (codes "chunks 1\nrecords 0\nbytes 64\nunread 0\n")
unfolding digits layout.chunk_end_of layout.end_of
nothing_intact = refl

unreported : end_puts (Some (record { begin = 64; end = 108; why = why.HeaderHash })) [] ≡ puts_to Notes (codes "stopped 64 108 HeaderHash\n")
unfolding digits
unreported = refl
