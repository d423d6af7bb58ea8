-- Values counted by hand, computed from the definitions of crates below.
use Rattle.std.proofs.Common.{◌≡◌, ℕ, zero, suc, ◌+◌, ◌%◌, ◌^◌, ◌<◌, ◌≤◌, inl, inr, List, [], ◌∷◌, ◌++◌, replicate, slice_index, lit<, lit≤, refl, arith}
use Rattle.varint_wire.specs.Varint.{Spells}
use Rattle.varint_wire.specs.Reading.{IsCut, IsLong}
use Rattle.block_layout.specs.Layout.{IsBoundary}
use Rattle.block_layout.specs.BlockHeaders.{IsSane}

-- block headers that could stand at their blocks: the first one of a file
sane_at_the_begin : IsSane 0 0 64
sane_at_the_begin = record { back = lit≤ tt; past_itself = lit≤ tt; in_reach = lit≤ tt; from_boundary = inl refl; to_boundary = inr (lit≤ tt) }

-- over chunks that begin at the block, 6 bytes before it, and at 25, the first place behind a header
sane_from_the_block : IsSane 65536 0 68
sane_from_the_block = record { back = lit≤ tt; past_itself = lit≤ tt; in_reach = lit≤ tt; from_boundary = inl refl; to_boundary = inr (lit≤ tt) }

sane_from_before : IsSane 65536 6 62
sane_from_before = record { back = lit≤ tt; past_itself = lit≤ tt; in_reach = lit≤ tt; from_boundary = inr (lit≤ tt); to_boundary = inr (lit≤ tt) }

sane_from_25 : IsSane 65536 65511 68
sane_from_25 = record { back = lit≤ tt; past_itself = lit≤ tt; in_reach = lit≤ tt; from_boundary = inr (lit≤ tt); to_boundary = inr (lit≤ tt) }

-- over one that ends 25 bytes behind the block, and over one from 0 by 2 ^ 62 to 2 ^ 63
sane_to_25 : IsSane 65536 0 25
sane_to_25 = record { back = lit≤ tt; past_itself = lit≤ tt; in_reach = lit≤ tt; from_boundary = inl refl; to_boundary = inr (lit≤ tt) }

sane_to_the_farthest : IsSane (2 ^ 62) (2 ^ 62) (2 ^ 62)
sane_to_the_farthest = record { back = lit≤ tt; past_itself = lit≤ tt; in_reach = lit≤ tt; from_boundary = inl refl; to_boundary = inl refl }

-- none leads back past 0
not_sane_before_0 : IsSane 0 1 64 → ⊥
not_sane_before_0 is = let back : 1 ≤ 0 = is.back in omega arith

-- nor on to its own block
not_sane_to_itself : IsSane 65536 0 0 → ⊥
not_sane_to_itself is = let past : 24 < 0 = is.past_itself in omega arith

-- nor past 2 ^ 63
not_sane_past_the_farthest : IsSane 4611686018427387904 0 4611686018427387905 → ⊥
not_sane_past_the_farthest is = let reach : 9223372036854775809 ≤ 9223372036854775808 = is.in_reach in omega arith

not_sane_past_words : IsSane 4611686018427387904 0 18446744073709551615 → ⊥
not_sane_past_words is = let reach : 23058430092136939519 ≤ 9223372036854775808 = is.in_reach in omega arith

-- nor from or to the last place of a block header, where no chunk begins
no_boundary_24 : (p : ℕ) → p % 65536 ≡ 24 → IsBoundary p → ⊥
no_boundary_24 p at_24 (inl at_block) = omega arith
no_boundary_24 p at_24 (inr past) = omega arith

not_sane_from_24 : IsSane 65536 65512 68 → ⊥
not_sane_from_24 is = no_boundary_24 24 refl is.from_boundary

not_sane_to_24 : IsSane 65536 0 65560 → ⊥
not_sane_to_24 is = no_boundary_24 131096 refl is.to_boundary

-- each of these bytes
all_are : (byte : ℕ) (rest : List ℕ) (count i : ℕ) → i < count → slice_index (replicate count byte ++ rest) i ≡ byte
all_are byte rest zero i h = absurd (omega (arith, h))
all_are byte rest (suc count) zero h = refl
all_are byte rest (suc count) (suc i) h = all_are byte rest count i (omega (arith, h))

-- no byte, and one that says that another follows
nothing_is_cut : IsCut []
nothing_is_cut = (lit< tt, λ i h. absurd (omega (arith, h)))

one_is_cut : IsCut (0x80 ∷ [])
one_is_cut = (lit< tt, λ i (h : i < 1). let is = all_are 0x80 [] 1 i h in omega (arith, is))

-- nine of them, and one that says that none follows: a spelling of 0 in ten bytes
ten_spell_0 : Spells 0 (replicate 9 0x80 ++ 0x00 ∷ [])
ten_spell_0 = record {
  some = lit< tt;
  at_most_ten = lit≤ tt;
  continued = λ i (h : i + 1 < 10). let is = all_are 0x80 (0x00 ∷ []) 9 i (omega (arith, h)) in (omega (arith, is), omega (arith, is));
  ended = lit< tt;
  value_is = refl;
  fits = lit< tt;
}

-- ten of them, and nine with one behind them that makes 2 ^ 64 or more
ten_are_long : IsLong (replicate 10 0x80)
ten_are_long = (lit≤ tt, inl (λ i (h : i < 10). let is = all_are 0x80 [] 10 i h in omega (arith, is)))

too_great_is_long : IsLong (replicate 9 0xff ++ 0x02 ∷ [])
too_great_is_long = (lit≤ tt, inr ((λ i (h : i < 9). let is = all_are 0xff [] 9 i h in omega (arith, is)), lit< tt, lit≤ tt))
