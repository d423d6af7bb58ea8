-- Promise. A chunk laid at a place, with the block headers that interrupt it. Source: the Riegeli/records file format
-- specification, "File format", "Block header" and "Chunk".
use Rattle.std.specs.Prelude.{◌≡◌, ℕ, ◌+◌, ◌-◌, ◌%◌, ◌<◌, ◌≤◌, List, length, map, nat_lt, if◌then◌else◌, slice_get, slice_index, slice_range}
use Rattle.std.specs.List.{range_with_len}
use Rattle.block_layout.specs.Layout.{block_size, block_header_size, chunk_header_size, IsBlock, IsUsable, IsChunkEnd, room, chunk_end_of}
use Rattle.block_layout.specs.BlockHeaders.{block_header}
use Rattle.chunk_header.specs.Chunks.{ChunkValue, IsChunk, chunk_bytes}

-- the bytes are those of the chunk from its begin to its end. Each usable position has the next of the
-- chunk's bytes, or past these any byte (the padding); each block has its header
pub record IsLaid (begin : ℕ) (k : ChunkValue) (bytes : List ℕ) : Type 0 where
  pub chunk : IsChunk k
  pub end : IsChunkEnd begin (chunk_header_size + length k.«data») k.num_records (begin + length bytes)
  pub own : (p : ℕ) → begin ≤ p → p < begin + length bytes → IsUsable p
      → room begin p < length (chunk_bytes k)
      → slice_get bytes (p - begin) ≡ slice_get (chunk_bytes k) (room begin p)
  pub headers : (b : ℕ) → IsBlock b → begin ≤ b → b < begin + length bytes
      → slice_range bytes (b - begin) (b - begin + block_header_size) ≡ block_header (b - begin) (begin + length bytes - b)

-- where a chunk ends
abbrev pub end_of_chunk : ℕ → ChunkValue → ℕ
end_of_chunk begin k = chunk_end_of begin (chunk_header_size + length k.«data») k.num_records

-- the byte at a position of bytes that are laid from a begin to an end: a block header's byte, the next of these
-- bytes, or zero past them
abbrev pub byte_at : (begin end : ℕ) → List ℕ → ℕ → ℕ
byte_at begin end own p =
    if nat_lt (p % block_size) block_header_size
    then (let b = p - p % block_size in slice_index (block_header (b - begin) (end - b)) (p % block_size))
    else slice_index own (room begin p)

-- bytes laid from a begin to an end. Own: that padding is written as zero
unfoldable pub laid_bytes : (begin end : ℕ) → List ℕ → List ℕ
laid_bytes begin end own = map (byte_at begin end own) (range_with_len begin (end - begin))

-- the chunk's bytes with zero padding
abbrev pub laid : ℕ → ChunkValue → List ℕ
laid begin k = laid_bytes begin (end_of_chunk begin k) (chunk_bytes k)
