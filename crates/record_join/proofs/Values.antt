-- Values counted by hand, which the checker computes from the definitions.
use Rattle.std.proofs.Common.{◌≡◌, [], ◌∷◌, refl}
use Rattle.block_layout.specs.Layout.{chunk_end_of, end_of}
use Rattle.meta_chunk.specs.Files.{laid_each}
use Rattle.meta_chunk.specs.PaddingSizes.{padding_at}
use Rattle.record_join.specs.Joined.{joined, joined_at_most}
use Rattle.record_join.specs.Joins.{totals_joined}

-- one file is as it is, and behind one that ends at a block, as at 0, there is no padding
one_file : joined ((7 ∷ 8 ∷ []) ∷ []) ≡ 7 ∷ 8 ∷ []
one_file = refl

no_padding : joined ([] ∷ (7 ∷ 8 ∷ []) ∷ []) ≡ 7 ∷ 8 ∷ []
unfolding padding_at laid_each
no_padding = refl

-- a file of 196 bytes with 4 chunks of 3 records, one of 112 bytes with 2 chunks of 3 records behind it, and a chunk of padding between
with_padding : totals_joined
    (record { chunks = 4; records = 3; bytes = 196; unread = 0 }) (record { chunks = 2; records = 3; bytes = 112; unread = 0 })
    ≡ record { chunks = 7; records = 6; bytes = 65648; unread = 0 }
unfolding padding_at chunk_end_of end_of
with_padding = refl

-- a file that ends at a block, and one of a signature alone behind it
at_a_block : totals_joined
    (record { chunks = 2; records = 1; bytes = 65536; unread = 0 }) (record { chunks = 1; records = 0; bytes = 64; unread = 0 })
    ≡ record { chunks = 3; records = 1; bytes = 65600; unread = 0 }
unfolding padding_at chunk_end_of end_of
at_a_block = refl

-- a chunk's header doesn't fit before the next block, so padding goes on to the one after it
far_padding : totals_joined
    (record { chunks = 2; records = 1; bytes = 65497; unread = 1 }) (record { chunks = 1; records = 0; bytes = 64; unread = 2 })
    ≡ record { chunks = 4; records = 1; bytes = 131136; unread = 3 }
unfolding padding_at chunk_end_of end_of
far_padding = refl

-- room for padding is counted behind each file but the last
bounds : (joined_at_most (196 ∷ []) ≡ 196) × (joined_at_most (196 ∷ 112 ∷ 64 ∷ []) ≡ 262516)
bounds = (refl, refl)
