-- Promise. Why a chunk at a place of a file is refused. Own: the reasons and their order.
use Rattle.std.specs.Prelude.{◌≡◌, ◌≢◌, ℕ, ◌<◌, ◌≤◌, Bool, true, false, ◌⊎◌, Some, List, [], ◌∷◌, length, slice_get}
use Rattle.std.specs.List.{AllByRecursion}
use Rattle.highway_hash.specs.Riegeli.{riegeli_hash}
use Rattle.block_layout.specs.Layout.{chunk_header_size, IsBlock, end_of}
use Rattle.chunk_header.specs.Chunks.{ChunkValue, IsRightChunkHeader}
use Rattle.chunk_header.specs.Kinds.{simple_kind, IsOfNoName}
use Rattle.chunk_header.specs.SimpleChunks.{IsSimpleChunk, IsCompressed}
use Rattle.meta_chunk.specs.Kinds.{KeepsRule}
use Rattle.meta_chunk.specs.Files.{max_data_size, IsTransposed}
use Rattle.chunk_reader.specs.Places.{header_bytes_at, header_at, end_at, chunk_at, HasHeaderOf}
use Rattle.chunk_reader.specs.declared.reasons.Why.{Why}
use Rattle.chunk_reader.specs.declared.reasons.Why.TheVariants as why

-- a chunk that breaks its kind's rule on fields, or a simple one that has no data, or isn't compressed and holds no records
abbrev pub HasBadContents : ChunkValue → Type 0
HasBadContents k =
    (¬ KeepsRule k.kind (length k.«data») k.num_records k.decoded_size)
    ⊎ ((k.kind ≡ simple_kind) × ((k.«data» ≡ []) ⊎ ((slice_get k.«data» 0 ≡ Some 0) × (¬ IsSimpleChunk k))))

-- a reason to refuse the content of a chunk, under the hash that its header has for the data
abbrev pub ContentApplies : ℕ → ChunkValue → Why → Type 0
ContentApplies hash k why.DataHash = riegeli_hash k.«data» ≢ hash
ContentApplies hash k why.Contents = HasBadContents k
ContentApplies hash k why.Compressed = IsCompressed k
ContentApplies hash k why.Transposed = IsTransposed k
ContentApplies hash k why.UnknownKind = IsOfNoName k.kind
ContentApplies hash k other = ⊥

-- a block within the chunk at a place that hasn't the header which that chunk gives it
pub record IsWrongBlock (file : List ℕ) (place block : ℕ) : Type 0 where
  pub is_block : IsBlock block
  pub from : place ≤ block
  pub below : block < end_at file place
  pub differs : ¬ HasHeaderOf file place (end_at file place) block

-- a reason to refuse the chunk at a place
abbrev pub Applies : List ℕ → ℕ → Why → Type 0
Applies file place why.Short = length file < end_of place chunk_header_size
Applies file place why.HeaderHash = ¬ IsRightChunkHeader (header_bytes_at file place)
Applies file place why.Truncated = length file < end_at file place
Applies file place why.TooLarge = max_data_size < (header_at file place).data_size
Applies file place why.BlockHeader = (block : ℕ) × IsWrongBlock file place block
Applies file place other = ContentApplies (header_at file place).data_hash (chunk_at file place) other

-- none of the reasons applies
abbrev pub NoneOf : (Why → Type 0) → List Why → Type 0
NoneOf P reasons = AllByRecursion (λ w. ¬ P w) reasons

-- of the reasons, in their order, this is the first that applies
abbrev pub IsFirstOf : (Why → Type 0) → List Why → Why → Type 0
IsFirstOf P [] first = ⊥
IsFirstOf P (w ∷ reasons) first = (P w × (first ≡ w)) ⊎ ((¬ P w) × IsFirstOf P reasons first)

-- the reasons by which a chunk's header can't be read
abbrev pub header_reasons : List Why
header_reasons = why.Short ∷ why.HeaderHash ∷ []

-- and by which a chunk isn't passed: that, or the file ends before it does
abbrev pub unpassed_reasons : List Why
unpassed_reasons = why.Short ∷ why.HeaderHash ∷ why.Truncated ∷ []

-- the reasons by which a chunk is refused before its data is read
abbrev pub loading_reasons : List Why
loading_reasons = why.Short ∷ why.HeaderHash ∷ why.Truncated ∷ why.TooLarge ∷ []

-- the reasons by which a chunk's content is refused: where unread ones are let through, fewer
abbrev pub content_reasons : (unread_ok : Bool) → List Why
content_reasons false = why.DataHash ∷ why.Contents ∷ why.Compressed ∷ why.Transposed ∷ why.UnknownKind ∷ []
content_reasons true = why.DataHash ∷ why.Contents ∷ why.UnknownKind ∷ []

-- all reasons of strict reading, in order
abbrev pub strict_reasons : (unread_ok : Bool) → List Why
strict_reasons unread_ok =
    why.Short ∷ why.HeaderHash ∷ why.Truncated ∷ why.TooLarge ∷ why.BlockHeader ∷ content_reasons unread_ok
