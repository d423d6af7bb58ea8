-- Inside. What kinds, headers and chunks of the program stand for. Source: the Riegeli/records file format specification,
-- "Chunk types" and "Chunk header".
use Rattle.std.specs.Prelude.{◌≡◌, ℕ, ◌<◌, ◌^◌, List, length}
use Rattle.highway_hash.specs.Riegeli.{riegeli_hash, with_hash}
use Rattle.chunk_header.specs.Chunks.{ChunkValue, HeaderValue, IsChunk, header_fields}
use Rattle.chunk_header.specs.Kinds.{signature_kind, metadata_kind, padding_kind, simple_kind, transposed_kind}
use Rattle.chunk_header.specs.declared.Header.{Header}
use Rattle.chunk_header.specs.declared.Chunk.{Chunk}
use Rattle.chunk_header.specs.declared.kinds.Kind.{Kind}
use Rattle.chunk_header.specs.declared.kinds.Kind.TheVariants.{Signature, Metadata, Padding, Simple, Transposed, Unknown}

-- the byte of a kind
abbrev pub byte_of_kind : Kind → ℕ
byte_of_kind Signature = signature_kind
byte_of_kind Metadata = metadata_kind
byte_of_kind Padding = padding_kind
byte_of_kind Simple = simple_kind
byte_of_kind Transposed = transposed_kind
byte_of_kind (Unknown byte) = byte

-- the 32 bytes of a header behind its hash
abbrev pub fields_of_header : Header → List ℕ
fields_of_header h = header_fields h.data_size h.data_hash h.kind h.num_records h.decoded_size

-- the 40 bytes of a header, of which its own hash is right
abbrev pub bytes_of_header : Header → List ℕ
bytes_of_header h = with_hash (fields_of_header h)

-- what a header says
abbrev pub value_of_header : Header → HeaderValue
value_of_header h = record {
  data_size = h.data_size;
  data_hash = h.data_hash;
  kind = h.kind;
  num_records = h.num_records;
  decoded_size = h.decoded_size;
}

-- each field fits its type
pub record IsHeader (h : Header) : Type 0 where
  pub data_size : h.data_size < 2 ^ 64
  pub data_hash : h.data_hash < 2 ^ 64
  pub kind : h.kind < 2 ^ 8
  pub decoded_size : h.decoded_size < 2 ^ 64

-- the chunk that a header and data stand for
abbrev pub value_of : Header → List ℕ → ChunkValue
value_of h bytes = record {
  kind = h.kind;
  num_records = h.num_records;
  decoded_size = h.decoded_size;
  «data» = bytes;
}

-- the chunk that a chunk of the program stands for, whose header may have another hash
abbrev pub value_of_chunk : Chunk → ChunkValue
value_of_chunk c = value_of c.header c.bytes

-- the header has the data's hash
abbrev pub HasRightHash : Chunk → Type 0
HasRightHash c = c.header.data_hash ≡ riegeli_hash c.bytes

-- a chunk of the program is this one, under the data's hash
pub record IsMadeChunk (k : ChunkValue) (c : Chunk) : Type 0 where
  pub value : value_of_chunk c ≡ k
  pub right : HasRightHash c
  pub sound : IsChunk (value_of_chunk c)

-- a chunk of the program has this header and this data
pub record IsReadChunk (h : Header) («data» : List ℕ) (c : Chunk) : Type 0 where
  pub header : c.header ≡ h
  pub bytes : c.bytes ≡ «data»
  pub sound : IsChunk (value_of_chunk c)

-- all that a header says is said of a chunk
pub record IsHeaderOf (h : Header) (k : ChunkValue) : Type 0 where
  pub size : h.data_size ≡ length k.«data»
  pub hash : h.data_hash ≡ riegeli_hash k.«data»
  pub kind : h.kind ≡ k.kind
  pub num_records : h.num_records ≡ k.num_records
  pub decoded_size : h.decoded_size ≡ k.decoded_size
