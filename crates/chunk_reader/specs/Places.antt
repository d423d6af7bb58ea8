-- Promise. What stands at a place of a file. Source: the Riegeli/records file format specification, "Chunk" and "Chunk
-- header".
use Rattle.std.specs.Prelude.{◌≡◌, ℕ, ◌+◌, ◌-◌, List, drop, slice_range}
use Rattle.block_layout.specs.Layout.{block_header_size, chunk_header_size, usable_bytes_at, chunk_end_of}
use Rattle.block_layout.specs.BlockHeaders.{block_header}
use Rattle.chunk_header.specs.Chunks.{ChunkValue, HeaderValue, header_in}

-- the bytes of the chunk header at a place, or those of its front that the file has
abbrev pub header_bytes_at : List ℕ → ℕ → List ℕ
header_bytes_at file place = usable_bytes_at file place chunk_header_size

-- what they say
abbrev pub header_at : List ℕ → ℕ → HeaderValue
header_at file place = header_in (header_bytes_at file place)

-- where a chunk at a place ends by its header
abbrev pub end_by : ℕ → HeaderValue → ℕ
end_by place header = chunk_end_of place (chunk_header_size + header.data_size) header.num_records

-- where the chunk at a place ends, as its header says
abbrev pub end_at : List ℕ → ℕ → ℕ
end_at file place = end_by place (header_at file place)

-- so many bytes of data behind the chunk header at a place, or all where there are fewer
abbrev pub data_at : List ℕ → ℕ → ℕ → List ℕ
data_at file place size = drop chunk_header_size (usable_bytes_at file place (chunk_header_size + size))

-- the chunk at a place, as its header says
abbrev pub chunk_at : List ℕ → ℕ → ChunkValue
chunk_at file place = record {
  kind = (header_at file place).kind;
  num_records = (header_at file place).num_records;
  decoded_size = (header_at file place).decoded_size;
  «data» = data_at file place (header_at file place).data_size;
}

-- a block's header is the one that it has in a chunk from a begin to an end
abbrev pub HasHeaderOf : List ℕ → ℕ → ℕ → ℕ → Type 0
HasHeaderOf file begin end block =
    slice_range file block (block + block_header_size) ≡ block_header (block - begin) (end - block)
