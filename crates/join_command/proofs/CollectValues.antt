-- The lines of `collect`, judged by hand, computed from the definitions.
use Rattle.command_frame.specs.Endings.{ArePast}
use Rattle.std.proofs.Common.{◌≡◌, ℕ, List, [], ◌∷◌, codes, length, lit≤, refl, arith}
use Rattle.std.specs.Fmt.{digits}
use Rattle.varint_wire.specs.Varint.{shortest}
use Rattle.block_layout.specs.Layout.{chunk_end_of, end_of, room}
use Rattle.meta_chunk.specs.Files.{laid_each}
use Rattle.meta_chunk.specs.Laid.{laid_bytes}
use Rattle.record_group.specs.Groups.{groups, file_of}
use Rattle.join_command.specs.CollectCommand.{collected_file, collected_lines, files_lines, too_much_text}
use Rattle.join_command.specs.CollectingEnds.{AreEachInReach}

-- two files, the second of which has the first and the last of four records, and a file without records
two_files : files_lines (64 ∷ 65 ∷ 66 ∷ 108 ∷ []) ((1 ∷ 2 ∷ []) ∷ (0 ∷ 3 ∷ []) ∷ []) ≡ codes "0 65\n0 66\n1 64\n1 108\n"
unfolding digits
two_files = refl

no_records : files_lines (64 ∷ []) ([] ∷ (0 ∷ []) ∷ []) ≡ codes "1 64\n"
unfolding digits
no_records = refl

no_files : files_lines [] [] ≡ []
no_files = refl

too_much : too_much_text ≡ codes "limit collect\n"
too_much = refl

-- the records `a` and the empty one of the first file, and `bc` of the second, in one chunk at 64
three_records : collected_lines (record { records = (0x61 ∷ []) ∷ (0x62 ∷ 0x63 ∷ []) ∷ [] ∷ []; numbers = (0 ∷ 2 ∷ []) ∷ (1 ∷ []) ∷ [] })
    ≡ codes "0 64\n0 66\n1 65\n"
unfolding digits groups chunk_end_of end_of shortest
three_records = refl

-- six records of 6 bytes together make a file of one chunk: 64 bytes, and 40, 1, 1, 6 and 6
six_records : List (List ℕ)
six_records = (0x61 ∷ []) ∷ (0x61 ∷ []) ∷ (0x62 ∷ []) ∷ (0x62 ∷ 0x63 ∷ []) ∷ (0x63 ∷ []) ∷ [] ∷ []

length_of_six : length (collected_file six_records) ≡ 118
unfolding six_records groups file_of laid_each laid_bytes chunk_end_of end_of room shortest
length_of_six = refl

-- a file may have 2 ^ 60 bytes, and no more
in_reach : AreEachInReach (0 ∷ 1152921504606846976 ∷ [])
in_reach = (lit≤ tt, (lit≤ tt, tt))

too_long : ArePast AreEachInReach (0 ∷ 1152921504606846977 ∷ [])
too_long = λ within. omega (arith, within.1.0)
