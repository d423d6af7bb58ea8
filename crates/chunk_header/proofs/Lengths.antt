-- How many bytes chunks have.
use Rattle.std.proofs.Common.{◌≡◌, ◌+◌, length}
use Rattle.std.proofs.lemmas.List.{length-append}
use Rattle.chunk_header.specs.Chunks.{ChunkValue, chunk_bytes, header_bytes}

-- a chunk's bytes are its header and its data
pub length-chunk_bytes : (k : ChunkValue) → length (chunk_bytes k) ≡ 40 + length k.«data»
length-chunk_bytes k = length-append (header_bytes k) k.«data»
