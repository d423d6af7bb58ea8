-- Values counted by hand, which the checker computes from the definitions.
use Rattle.std.proofs.Common.{◌≡◌, [], ◌∷◌, refl}
use Rattle.record_ranges.specs.Ranges.{even_cuts, ranges}

-- a file of 112 bytes with three records in a chunk at 64, cut within that chunk
within_a_chunk : ranges 112 (65 ∷ 66 ∷ []) ((64, 97 ∷ []) ∷ (65, 98 ∷ 99 ∷ []) ∷ (66, []) ∷ [])
    ≡ ((97 ∷ []) ∷ []) ∷ ((98 ∷ 99 ∷ []) ∷ []) ∷ ([] ∷ []) ∷ []
within_a_chunk = refl

-- and cut at its front and twice at its end
at_the_ends : ranges 112 (0 ∷ 112 ∷ 112 ∷ []) ((64, 97 ∷ []) ∷ (65, 98 ∷ 99 ∷ []) ∷ (66, []) ∷ [])
    ≡ [] ∷ ((97 ∷ []) ∷ (98 ∷ 99 ∷ []) ∷ [] ∷ []) ∷ [] ∷ [] ∷ []
at_the_ends = refl

-- records of four chunks, cut where one begins and behind another
between_chunks : ranges 120268 (40089 ∷ 80178 ∷ []) ((64, 1 ∷ []) ∷ (30109, 2 ∷ []) ∷ (60154, 3 ∷ []) ∷ (90223, 4 ∷ []) ∷ [])
    ≡ ((1 ∷ []) ∷ (2 ∷ []) ∷ []) ∷ ((3 ∷ []) ∷ []) ∷ ((4 ∷ []) ∷ []) ∷ []
between_chunks = refl

-- no cut: one part, of all records
uncut : ranges 112 [] ((64, 97 ∷ []) ∷ (65, []) ∷ []) ≡ ((97 ∷ []) ∷ [] ∷ []) ∷ []
uncut = refl

-- cuts that are alike, up to a byte
three_parts : even_cuts 120268 3 ≡ 40089 ∷ 80178 ∷ []
three_parts = refl

more_parts_than_bytes : even_cuts 3 5 ≡ 0 ∷ 1 ∷ 1 ∷ 2 ∷ []
more_parts_than_bytes = refl

one_part : even_cuts 112 1 ≡ []
one_part = refl
