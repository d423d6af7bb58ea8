-- Inside. Chunks at a file's front. Source: the Riegeli/records file format specification, "File format".
use Rattle.std.specs.Prelude.{ℕ, List}
use Rattle.chunk_header.specs.Chunks.{ChunkValue}
use Rattle.meta_chunk.specs.Files.{IsPlain, IsWellFormedChunk, IsChainOf}

-- the file's bytes below the place are plain chunks, the signature first
abbrev pub IsReadableChain : List ChunkValue → List ℕ → ℕ → Type 0
IsReadableChain = IsChainOf IsPlain

-- the same of plain and unread chunks
abbrev pub IsWellFormedChain : List ChunkValue → List ℕ → ℕ → Type 0
IsWellFormedChain = IsChainOf IsWellFormedChunk
