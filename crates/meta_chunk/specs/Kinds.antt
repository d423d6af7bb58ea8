-- Promise. Chunks of the kinds, and the rules of these. Source: the Riegeli/records file format specification, "Chunk
-- types". Own: the rules on fields in their details.
use Rattle.std.specs.Prelude.{◌≡◌, ℕ, length}
use Rattle.chunk_header.specs.Chunks.{ChunkValue}
use Rattle.chunk_header.specs.Kinds.{signature_kind, metadata_kind, padding_kind}

-- the rule that a kind has on the fields of its header: a signature has no data, no records and no decoded size,
-- metadata has no records, padding no records and no decoded size, and other kinds have no rule
pub record KeepsRule (kind data_size num_records decoded_size : ℕ) : Type 0 where
  pub signature : kind ≡ signature_kind → (data_size ≡ 0) × (num_records ≡ 0) × (decoded_size ≡ 0)
  pub metadata : kind ≡ metadata_kind → num_records ≡ 0
  pub padding : kind ≡ padding_kind → (num_records ≡ 0) × (decoded_size ≡ 0)

-- a chunk of a kind that keeps the kind's rule
abbrev pub IsOfKind : ℕ → ChunkValue → Type 0
IsOfKind kind k = (k.kind ≡ kind) × KeepsRule kind (length k.«data») k.num_records k.decoded_size

abbrev pub IsSignature : ChunkValue → Type 0
IsSignature = IsOfKind signature_kind

abbrev pub IsMetadata : ChunkValue → Type 0
IsMetadata = IsOfKind metadata_kind

abbrev pub IsPadding : ChunkValue → Type 0
IsPadding = IsOfKind padding_kind
