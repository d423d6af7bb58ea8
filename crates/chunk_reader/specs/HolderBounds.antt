-- Inside. What the search for the chunk at a position takes at most. Own.
use Rattle.std.specs.Prelude.{ℕ, ◌+◌, ◌*◌}
use Rattle.block_layout.specs.Layout.{block_size, block_header_size, chunk_header_size}

-- to find the chunk that holds a position: the header of a block, and those of the chunks that begin up to the next block
abbrev pub holder_bound : ℕ
holder_bound = block_header_size + 2 * chunk_header_size + block_size
