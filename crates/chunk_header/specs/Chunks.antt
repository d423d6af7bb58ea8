-- Promise. Chunks and their headers. Source: the Riegeli/records file format specification, "Chunk" and "Chunk header".
use Rattle.std.specs.Prelude.{◌≡◌, ℕ, ◌^◌, ◌<◌, List, ◌∷◌, ◌++◌, length, take, slice_index, slice_range}
use Rattle.std.specs.Int.{w64, to_le_bytes, from_le_bytes}
use Rattle.highway_hash.specs.Riegeli.{riegeli_hash, with_hash, BeginsWithHash}
use Rattle.record_values.specs.Bytes.{AreBytes}

-- how many bytes a chunk header has
abbrev pub header_size : ℕ
header_size = 40

-- a chunk: its kind, how many records it holds, their size once decoded, and its data
pub record ChunkValue : Type 0 where
  pub kind : ℕ
  pub num_records : ℕ
  pub decoded_size : ℕ
  pub «data» : List ℕ

-- what a chunk header can hold
pub record IsChunk (k : ChunkValue) : Type 0 where
  pub kind : k.kind < 256
  pub num_records : k.num_records < 2 ^ 56
  pub decoded_size : k.decoded_size < 2 ^ 64
  pub size : length k.«data» < 2 ^ 64
  pub bytes : AreBytes k.«data»

-- the 32 bytes behind a header's hash: the size of the data, the hash of the data, the kind, the number of
-- records in seven bytes, and the decoded size
abbrev pub header_fields : (data_size data_hash kind num_records decoded_size : ℕ) → List ℕ
header_fields data_size data_hash kind num_records decoded_size =
    to_le_bytes w64 data_size
    ++ to_le_bytes w64 data_hash
    ++ kind ∷ take 7 (to_le_bytes w64 num_records)
    ++ to_le_bytes w64 decoded_size

-- the bytes of a chunk's header, of which both hashes are right
abbrev pub header_bytes : ChunkValue → List ℕ
header_bytes k =
    with_hash (header_fields (length k.«data») (riegeli_hash k.«data») k.kind k.num_records k.decoded_size)

-- a chunk header whose own hash matches: as many bytes as a header has, which begin with the hash of the others
abbrev pub IsRightChunkHeader : List ℕ → Type 0
IsRightChunkHeader bytes = (length bytes ≡ header_size) × BeginsWithHash bytes

-- the chunk's bytes: header and data, with no block header between
abbrev pub chunk_bytes : ChunkValue → List ℕ
chunk_bytes k = header_bytes k ++ k.«data»

-- what a chunk header says: the size and the hash of the data, the kind, the number of records and the decoded size
pub record HeaderValue : Type 0 where
  pub data_size : ℕ
  pub data_hash : ℕ
  pub kind : ℕ
  pub num_records : ℕ
  pub decoded_size : ℕ

-- what bytes say as a chunk header, whatever their hash: each field at its place, numbers lowest byte first
abbrev pub header_in : List ℕ → HeaderValue
header_in bytes = record {
  data_size = from_le_bytes w64 (slice_range bytes 8 16);
  data_hash = from_le_bytes w64 (slice_range bytes 16 24);
  kind = slice_index bytes 24;
  num_records = from_le_bytes w64 (slice_range bytes 25 32);
  decoded_size = from_le_bytes w64 (slice_range bytes 32 40);
}
