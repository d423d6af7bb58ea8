-- Promise. Padding up to a block. Source: the Riegeli/records file format specification, "Padding chunk". Own: how much
-- is written.
use Rattle.std.specs.Prelude.{ℕ, ◌+◌, ◌-◌, ◌%◌, List, [], ◌∷◌, replicate, nat_le, ◌==◌, if◌then◌else◌}
use Rattle.block_layout.specs.Layout.{block_size, chunk_header_size, usable_size}
use Rattle.chunk_header.specs.Chunks.{ChunkValue}
use Rattle.chunk_header.specs.Kinds.{padding_kind}

-- the padding chunk of so many zero bytes
abbrev pub padding : ℕ → ChunkValue
padding size = record { kind = padding_kind; num_records = 0; decoded_size = 0; «data» = replicate size 0 }

-- how far the next block is from a position
abbrev pub to_block : ℕ → ℕ
to_block place = block_size - place % block_size

-- that size as a number: the padding ends at the next block, or at the one after it where a chunk's header does
-- not fit before the next
abbrev pub padding_size_of : ℕ → ℕ
padding_size_of place =
    if nat_le chunk_header_size (to_block place) then to_block place - chunk_header_size
    else to_block place + (usable_size - chunk_header_size)

-- the padding from a position to a block: one chunk, or none at a block
unfoldable pub padding_at : ℕ → List ChunkValue
padding_at place = if place % block_size == 0 then [] else padding (padding_size_of place) ∷ []
