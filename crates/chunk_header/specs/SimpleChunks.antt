-- Promise. Simple chunks without compression. Source: the Riegeli/records file format specification, "Simple chunk with
-- records".
use Rattle.std.specs.Prelude.{◌≡◌, ◌≢◌, ℕ, ◌<◌, List, ◌∷◌, ◌++◌, length, map, sum, slice_index}
use Rattle.std.specs.List.{concat, flat_map}
use Rattle.varint_wire.specs.Varint.{Spells, SpellsEach, shortest}
use Rattle.chunk_header.specs.Chunks.{ChunkValue}
use Rattle.chunk_header.specs.Kinds.{simple_kind}

-- the chunk holds these records: the data is a compression type of 0, a spelling of how many bytes the sizes
-- take, a spelling of each record's size, and the records joined
pub record IsSimple (k : ChunkValue) (records : List (List ℕ)) : Type 0 where
  pub kind : k.kind ≡ simple_kind
  pub num_records : k.num_records ≡ length records
  pub decoded_size : k.decoded_size ≡ sum (map length records)
  pub spelled_size : List ℕ
  pub sizes : List ℕ
  pub spells_size : Spells (length sizes) spelled_size
  pub spells_each : SpellsEach (map length records) sizes
  pub «data» : k.«data» ≡ 0 ∷ spelled_size ++ sizes ++ concat records

-- a simple chunk of some records, without compression
abbrev pub IsSimpleChunk : ChunkValue → Type 0
IsSimpleChunk k = (records : List (List ℕ)) × IsSimple k records

-- a simple chunk whose first byte of data says that it is compressed
abbrev pub IsCompressed : ChunkValue → Type 0
IsCompressed k = (k.kind ≡ simple_kind) × (0 < length k.«data») × (slice_index k.«data» 0 ≢ 0)

-- the sizes of records in their shortest spellings
abbrev pub sizes_of : List (List ℕ) → List ℕ
sizes_of records = flat_map (λ record_bytes. shortest (length record_bytes)) records

-- the data of the simple chunk of records with shortest spellings
abbrev pub simple_data : List (List ℕ) → List ℕ
simple_data records = 0 ∷ shortest (length (sizes_of records)) ++ sizes_of records ++ concat records

-- that chunk
abbrev pub simple_chunk : List (List ℕ) → ChunkValue
simple_chunk records = record {
  kind = simple_kind;
  num_records = length records;
  decoded_size = sum (map length records);
  «data» = simple_data records;
}
