-- Values counted by hand, computed from the definitions.
use Rattle.std.proofs.Common.{◌≡◌, ℕ, true, false, Some, None, List, [], ◌∷◌, map, refl}
use Rattle.varint_wire.specs.Varint.{shortest}
use Rattle.block_layout.specs.Layout.{chunk_end_of, end_of}
use Rattle.meta_chunk.specs.Files.{end_of_chunks}
use Rattle.meta_chunk.specs.PaddingSizes.{padding_at}
use Rattle.record_group.specs.declared.pad.Pad.TheVariants.{No, Start, End, Both}
use Rattle.record_group.specs.Groups.{groups}
use Rattle.riegeli_c.specs.Writes.{chunks_laid, every_told, groups_laid, pad_told, records_cut, records_laid}

every_of_numbers : map every_told (0 ∷ 1 ∷ 7 ∷ []) ≡ None ∷ Some 1 ∷ Some 7 ∷ []
every_of_numbers = refl

pads_of_numbers : map pad_told (0 ∷ 1 ∷ 2 ∷ 3 ∷ []) ≡ No ∷ Start ∷ End ∷ Both ∷ []
pads_of_numbers = refl

-- the records `a`, `bc` and an empty one, and a value behind them that is of none
records_of_four : records_cut (0x61 ∷ 0x62 ∷ 0x63 ∷ 0x64 ∷ []) (1 ∷ 3 ∷ 3 ∷ []) ≡ (0x61 ∷ []) ∷ (0x62 ∷ 0x63 ∷ []) ∷ [] ∷ []
records_of_four = refl

-- the records `a`, `b` and `c`
letters : List (List ℕ)
letters = (0x61 ∷ []) ∷ (0x62 ∷ []) ∷ (0x63 ∷ []) ∷ []

-- each costs 9, so two fit into 20: these are laid, and `c` is held where more may follow
laid_of_letters : records_laid letters 20 None false ≡ (0x61 ∷ []) ∷ (0x62 ∷ []) ∷ []
unfolding letters groups
laid_of_letters = refl

all_of_letters : records_laid letters 20 None true ≡ letters
unfolding letters groups
all_of_letters = refl

-- three fit into 27: the group is open, though it costs that much
none_of_letters : records_laid letters 27 None false ≡ []
unfolding letters groups
none_of_letters = refl

-- so is a group of as many records as are wanted
none_of_two : groups_laid false (groups ((0x61 ∷ []) ∷ (0x62 ∷ []) ∷ []) 20 (Some 2)) ≡ []
unfolding groups
none_of_two = refl

-- the signature ends at 64, the chunk of `a` and `b` at 110, and that of `c` at 154, by one call or two
ends_of_letters : end_of_chunks 0 (chunks_laid 0 letters 20 None No false)
    ∷ end_of_chunks 0 (chunks_laid 0 letters 20 None No true)
    ∷ end_of_chunks 110 (chunks_laid 110 ((0x63 ∷ []) ∷ []) 20 None No true)
    ∷ []
    ≡ 110 ∷ 154 ∷ 154 ∷ []
unfolding letters groups chunk_end_of end_of shortest
ends_of_letters = refl

-- with padding before and behind they end at blocks, and where more may follow nothing is laid behind
padded_ends : end_of_chunks 0 (chunks_laid 0 [] 20 None Both false)
    ∷ end_of_chunks 0 (chunks_laid 0 letters 20 None Both false)
    ∷ end_of_chunks 0 (chunks_laid 0 letters 20 None End false)
    ∷ end_of_chunks 0 (chunks_laid 0 letters 20 None Both true)
    ∷ []
    ≡ 65536 ∷ 65606 ∷ 110 ∷ 131072 ∷ []
unfolding letters groups padding_at chunk_end_of end_of shortest
padded_ends = refl
