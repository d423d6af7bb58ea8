-- Inside. What a checker of a simple chunk has taken of the chunk's data. Own.
use Rattle.std.specs.Prelude.{◌≡◌, ℕ, ◌+◌, ◌↔◌, List, ◌∷◌, ◌++◌, length, take}
use Rattle.chunk_header.specs.Chunks.{ChunkValue}
use Rattle.chunk_header.specs.Kinds.{simple_kind}
use Rattle.chunk_header.specs.SimpleChunks.{IsSimpleChunk, IsCompressed}
use Rattle.chunk_header.specs.Views.{value_of}
use Rattle.chunk_header.specs.declared.Header.{Header}
use Rattle.simple_chunk.specs.SizesLeft.{SizesValue, AreLeft}
use Rattle.simple_chunk.specs.declared.checker.Stage.{Stage}
use Rattle.simple_chunk.specs.declared.checker.Stage.TheVariants.{Front, SizesLen, Sizes, Compressed, Wrong}

-- what a checker keeps: the counts of the header, where in the data it is, how many bytes are still to come, the bytes
-- of the varint of how many bytes the sizes take, how many of these are still to come, and what they must be
pub record CheckerValue : Type 0 where
  pub num_records : ℕ
  pub decoded_size : ℕ
  pub stage : Stage
  pub left : ℕ
  pub held : List ℕ
  pub size_bytes : ℕ
  pub sizes : SizesValue

-- the simple chunk of the header's counts and of data
abbrev pub chunk_of : CheckerValue → List ℕ → ChunkValue
chunk_of c bytes = record {
  kind = simple_kind;
  num_records = c.num_records;
  decoded_size = c.decoded_size;
  «data» = bytes;
}

-- with these bytes behind what the checker took, records stand in the data
abbrev pub CompletesAt : Stage → CheckerValue → List ℕ → Type 0
CompletesAt Front c rest = IsSimpleChunk (chunk_of c rest)
CompletesAt SizesLen c rest = IsSimpleChunk (chunk_of c (0 ∷ c.held ++ rest))
CompletesAt Sizes c rest = AreLeft c.sizes (take c.size_bytes rest)
CompletesAt Compressed c rest = ⊥
CompletesAt Wrong c rest = ⊥

abbrev pub Completes : CheckerValue → List ℕ → Type 0
Completes c rest = CompletesAt c.stage c rest

-- with these bytes behind what the checker took, the data is compressed
abbrev pub CompressesAt : Stage → CheckerValue → List ℕ → Type 0
CompressesAt Front c rest = IsCompressed (chunk_of c rest)
CompressesAt SizesLen c rest = ⊥
CompressesAt Sizes c rest = ⊥
CompressesAt Compressed c rest = Unit {0}
CompressesAt Wrong c rest = ⊥

abbrev pub Compresses : CheckerValue → List ℕ → Type 0
Compresses c rest = CompressesAt c.stage c rest

-- the checker of this header has taken these bytes: it knows how many are still to come, and whichever they are, it
-- knows of them what makes the data one of records, or compressed
pub record HasChecked (c : CheckerValue) (h : Header) (bytes : List ℕ) : Type 0 where
  pub left : length bytes + c.left ≡ h.data_size
  pub holds : (rest : List ℕ) → length rest ≡ c.left → IsSimpleChunk (value_of h (bytes ++ rest)) ↔ Completes c rest
  pub compressed : (rest : List ℕ) → length rest ≡ c.left → IsCompressed (value_of h (bytes ++ rest)) ↔ Compresses c rest

-- a checker has taken these bytes since it was the old one
pub record Follows (old new : CheckerValue) (bytes : List ℕ) : Type 0 where
  pub left : length bytes + new.left ≡ old.left
  pub holds : (rest : List ℕ) → length rest ≡ new.left → Completes old (bytes ++ rest) ↔ Completes new rest
  pub compressed : (rest : List ℕ) → length rest ≡ new.left → Compresses old (bytes ++ rest) ↔ Compresses new rest

-- the checker is behind the varint of how many bytes the sizes take
abbrev pub IsBehindFront : Stage → Type 0
IsBehindFront Front = ⊥
IsBehindFront SizesLen = ⊥
IsBehindFront Sizes = Unit {0}
IsBehindFront Compressed = Unit {0}
IsBehindFront Wrong = Unit {0}

-- only bytes are still to come that need not be looked at
abbrev pub IsBehindSizes : CheckerValue → Type 0
IsBehindSizes c = IsBehindFront c.stage × (c.stage ≡ Sizes → c.size_bytes ≡ 0)
