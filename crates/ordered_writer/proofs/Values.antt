-- Values counted by hand.
use Rattle.std.proofs.Common.{◌≡◌, Some, None, [], ◌∷◌, refl}
use Rattle.chunk_header.specs.declared.Chunk.{Chunk}
use Rattle.ordered_writer.specs.Reorders.{coming, count_held, held_at, moved_on, reordering_from, with_held}

-- from 0 on with room for two, the chunk of 1 comes first: nothing is given yet
late : (b : Chunk) → coming (with_held (reordering_from 0 2) 1 b) ≡ []
late b = refl

held_late : (b : Chunk) → held_at (with_held (reordering_from 0 2) 1 b) 0 ≡ None
held_late b = refl

-- then that of 0: both are, in order
both : (a b : Chunk) → coming (with_held (with_held (reordering_from 0 2) 1 b) 0 a) ≡ a ∷ b ∷ []
both a b = refl

-- once that of 0 is given, that of 1 is held, and there is room for 2
one : (a b c : Chunk) → (held_at (moved_on (with_held (with_held (reordering_from 0 2) 1 b) 0 a)) 1 ≡ Some b)
    × (coming (with_held (moved_on (with_held (with_held (reordering_from 0 2) 1 b) 0 a)) 2 c) ≡ b ∷ c ∷ [])
    × (count_held (moved_on (with_held (with_held (reordering_from 0 2) 1 b) 0 a)) ≡ 1)
one a b c = (refl, refl, refl)

-- from 7 on with room for three, of which the one in the midst is missing
gap : (a c : Chunk) → coming (with_held (with_held (reordering_from 7 3) 9 c) 7 a) ≡ a ∷ []
gap a c = refl
