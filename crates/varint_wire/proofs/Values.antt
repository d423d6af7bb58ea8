-- Values counted by hand, computed from the definitions.
use Rattle.std.proofs.Common.{◌≡◌, ℕ, zero, suc, ◌+◌, ◌<◌, ◌≤◌, [], ◌∷◌, ◌++◌, replicate, slice_index, lit<, lit≤, refl, arith}
use Rattle.varint_wire.specs.Varint.{spelled_value, Spells, SpellsEach, shortest}
use Rattle.varint_wire.proofs.Spellings.{Spells-small}

-- a single byte, at both of its ends
shortest_of_0 : shortest 0 ≡ 0x00 ∷ []
unfolding shortest
shortest_of_0 = refl

shortest_of_127 : shortest 127 ≡ 0x7f ∷ []
unfolding shortest
shortest_of_127 = refl

-- two bytes
shortest_of_128 : shortest 128 ≡ 0x80 ∷ 0x01 ∷ []
unfolding shortest
shortest_of_128 = refl

shortest_of_9709 : shortest 9709 ≡ 0xed ∷ 0x4b ∷ []
unfolding shortest
shortest_of_9709 = refl

-- three bytes
shortest_of_30000 : shortest 30000 ≡ 0xb0 ∷ 0xea ∷ 0x01 ∷ []
unfolding shortest
shortest_of_30000 = refl

shortest_of_65388 : shortest 65388 ≡ 0xec ∷ 0xfe ∷ 0x03 ∷ []
unfolding shortest
shortest_of_65388 = refl

shortest_of_65421 : shortest 65421 ≡ 0x8d ∷ 0xff ∷ 0x03 ∷ []
unfolding shortest
shortest_of_65421 = refl

shortest_of_65427 : shortest 65427 ≡ 0x93 ∷ 0xff ∷ 0x03 ∷ []
unfolding shortest
shortest_of_65427 = refl

shortest_of_65428 : shortest 65428 ≡ 0x94 ∷ 0xff ∷ 0x03 ∷ []
unfolding shortest
shortest_of_65428 = refl

shortest_of_70000 : shortest 70000 ≡ 0xf0 ∷ 0xa2 ∷ 0x04 ∷ []
unfolding shortest
shortest_of_70000 = refl

-- the longest record
shortest_of_longest_record : shortest 16777216 ≡ 0x80 ∷ 0x80 ∷ 0x80 ∷ 0x08 ∷ []
unfolding shortest
shortest_of_longest_record = refl

-- the greatest value, in ten bytes
shortest_of_greatest : shortest 18446744073709551615 ≡ replicate 9 0xff ++ 0x01 ∷ []
unfolding shortest
shortest_of_greatest = refl

-- a spelling that is not the shortest, and the two of ten bytes at the ends
spelled_value_longer : spelled_value (0x81 ∷ 0x00 ∷ []) ≡ 1
spelled_value_longer = refl

spelled_value_ten_zeros : spelled_value (replicate 9 0x80 ++ 0x00 ∷ []) ≡ 0
spelled_value_ten_zeros = refl

spelled_value_greatest : spelled_value (replicate 9 0xff ++ 0x01 ∷ []) ≡ 18446744073709551615
spelled_value_greatest = refl

-- the tenth byte may add 2 ^ 63 once: twice, the value is too great
spelled_value_too_great : spelled_value (replicate 9 0xff ++ 0x02 ∷ []) ≡ 27670116110564327423
spelled_value_too_great = refl

-- 81 00 is a spelling of 1: its first byte alone is at least 128
first_continues : (i : ℕ) → i + 1 < 2 → (128 ≤ slice_index (0x81 ∷ 0x00 ∷ []) i) × (slice_index (0x81 ∷ 0x00 ∷ []) i < 256)
first_continues zero h = (lit≤ tt, lit< tt)
first_continues (suc i) h = absurd (omega arith)

pub longer_spelling_of_1 : Spells 1 (0x81 ∷ 0x00 ∷ [])
longer_spelling_of_1 = record {
  some = lit< tt;
  at_most_ten = lit≤ tt;
  continued = first_continues;
  ended = lit< tt;
  value_is = refl;
  fits = lit< tt;
}

-- a list that ends on a byte of 128 or more spells nothing
unended : (value : ℕ) → Spells value (0x80 ∷ []) → ⊥
unended value spells = let h : 0x80 < 128 = spells.ended in omega arith

-- nor does a list without a byte
nothing_spelled : (value : ℕ) → Spells value [] → ⊥
nothing_spelled value spells = let h : 0 < 0 = spells.some in omega arith

-- nor do ten bytes whose value is too great
too_great_to_spell : (value : ℕ) → Spells value (replicate 9 0xff ++ 0x02 ∷ []) → ⊥
too_great_to_spell value spells =
    let is : 27670116110564327423 ≡ value = spells.value_is in
    let fits : value < 18446744073709551616 = spells.fits in
    omega arith

-- spellings of 1, 2 and 0, the first of them in two bytes
spellings_in_a_row : SpellsEach (1 ∷ 2 ∷ 0 ∷ []) (0x81 ∷ 0x00 ∷ 0x02 ∷ 0x00 ∷ [])
spellings_in_a_row = (
  0x81 ∷ 0x00 ∷ [],
  0x02 ∷ 0x00 ∷ [],
  refl,
  longer_spelling_of_1,
  (
    0x02 ∷ [],
    0x00 ∷ [],
    refl,
    Spells-small 2 (lit< tt),
    (0x00 ∷ [], [], refl, Spells-small 0 (lit< tt), refl),
  ),
)
