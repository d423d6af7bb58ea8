-- The words of `sample`, judged by hand, computed from the definitions.
use Rattle.std.proofs.Common.{◌≡◌, ℕ, Option, Some, None, List, [], ◌∷◌, codes, refl}
use Rattle.record_group.specs.declared.pad.Pad.TheVariants.{No}
use Rattle.riegeli_tool.specs.CommandWords.{sample_command_of}
use Rattle.riegeli_tool.specs.declared.command.Command.{Command}
use Rattle.riegeli_tool.specs.declared.command.Command.TheVariants.{Sample}

-- what the words behind the name `sample` say
abbrev sampled : List (List ℕ) → Option Command
sampled words = sample_command_of (codes "sample" ∷ words)

-- that they say so much
abbrev says : (size workers seed count file : ℕ) → Command
says size workers seed count file =
    Sample (record { options = record { size = size; workers = workers; every = None; pad = No }; seed = seed; count = count; file = file })

both_named : sampled (codes "--seed=0" ∷ codes "--records=1" ∷ codes "F" ∷ [])
    ≡ Some (says 1048576 1 0 1 3)
unfolding sample_command_of
both_named = refl

-- all options, before and behind the file, with the greatest numbers and the least
greatest : sampled (codes "--workers=16" ∷ codes "F" ∷ codes "--records=1000000" ∷ codes "--chunk=16777216" ∷ codes "--seed=18446744073709551615" ∷ [])
    ≡ Some (says 16777216 16 18446744073709551615 1000000 2)
unfolding sample_command_of
greatest = refl

least : sampled (codes "F" ∷ codes "--seed=00" ∷ codes "--records=0" ∷ codes "--chunk=1" ∷ codes "--workers=1" ∷ [])
    ≡ Some (says 1 1 0 0 1)
unfolding sample_command_of
least = refl

-- no seed, no number of records, and neither
no_seed : sampled (codes "--records=1" ∷ codes "F" ∷ [])
    ≡ None
unfolding sample_command_of
no_seed = refl

no_records : sampled (codes "--seed=1" ∷ codes "F" ∷ [])
    ≡ None
unfolding sample_command_of
no_records = refl

file_alone : sampled (codes "F" ∷ [])
    ≡ None
unfolding sample_command_of
file_alone = refl

-- numbers past the bounds
too_many_records : sampled (codes "--seed=1" ∷ codes "--records=1000001" ∷ codes "F" ∷ [])
    ≡ None
unfolding sample_command_of
too_many_records = refl

too_large_a_seed : sampled (codes "--seed=18446744073709551616" ∷ codes "--records=1" ∷ codes "F" ∷ [])
    ≡ None
unfolding sample_command_of
too_large_a_seed = refl

no_worker : sampled (codes "--seed=1" ∷ codes "--records=1" ∷ codes "--workers=0" ∷ codes "F" ∷ [])
    ≡ None
unfolding sample_command_of
no_worker = refl

too_many_workers : sampled (codes "--seed=1" ∷ codes "--records=1" ∷ codes "--workers=17" ∷ codes "F" ∷ [])
    ≡ None
unfolding sample_command_of
too_many_workers = refl

chunk_zero : sampled (codes "--seed=1" ∷ codes "--records=1" ∷ codes "--chunk=0" ∷ codes "F" ∷ [])
    ≡ None
unfolding sample_command_of
chunk_zero = refl

-- an option twice, and options of `write`
seed_twice : sampled (codes "--seed=1" ∷ codes "--seed=1" ∷ codes "--records=1" ∷ codes "F" ∷ [])
    ≡ None
unfolding sample_command_of
seed_twice = refl

option_of_write : sampled (codes "--seed=1" ∷ codes "--records=1" ∷ codes "--pad=end" ∷ codes "F" ∷ [])
    ≡ None
unfolding sample_command_of
option_of_write = refl

bound_of_write : sampled (codes "--seed=1" ∷ codes "--records=1" ∷ codes "--every=2" ∷ codes "F" ∷ [])
    ≡ None
unfolding sample_command_of
bound_of_write = refl

-- no file and two
no_file : sampled (codes "--seed=1" ∷ codes "--records=1" ∷ [])
    ≡ None
unfolding sample_command_of
no_file = refl

two_files : sampled (codes "--seed=1" ∷ codes "--records=1" ∷ codes "F" ∷ codes "G" ∷ [])
    ≡ None
unfolding sample_command_of
two_files = refl
