-- The bytes of chunks.
use Rattle.std.proofs.Common.{◌≡◌, List, ℕ, ◌++◌, append_assoc, refl, sym, ap, ◌∙◌}
use Rattle.chunk_header.specs.Chunks.{ChunkValue, header_bytes, chunk_bytes}
use Rattle.chunk_header.specs.declared.Chunk.{Chunk}
use Rattle.chunk_header.specs.declared.Header.{Header}
use Rattle.chunk_header.specs.Views.{bytes_of_header, value_of_chunk, HasRightHash, IsHeaderOf}

-- where a header says all of a chunk, its bytes are those of the chunk's header
pub header_bytes-of : (h : Header) (k : ChunkValue) → IsHeaderOf h k → bytes_of_header h ≡ header_bytes k
header_bytes-of h k of = rw (of.size, of.hash, of.kind, of.num_records, of.decoded_size) refl

-- as it does where the data's hash is right
pub IsHeaderOf-right : (c : Chunk) → HasRightHash c → IsHeaderOf c.header (value_of_chunk c)
IsHeaderOf-right c right = record { size = sym c.sized; hash = right; kind = refl; num_records = refl; decoded_size = refl }

-- and with the data they are the chunk's bytes
pub chunk_bytes-right : (c : Chunk) (k : ChunkValue) → value_of_chunk c ≡ k → HasRightHash c
    → bytes_of_header c.header ++ c.bytes ≡ chunk_bytes k
chunk_bytes-right c k is right = ap (λ (xs : List ℕ). xs ++ c.bytes) (header_bytes-of c.header (value_of_chunk c) (IsHeaderOf-right c right)) ∙ ap chunk_bytes is

-- a list to which the header's bytes were appended, and to which the data is
pub chunk_bytes-appended : {header bytes between : List ℕ} (front : List ℕ) (c : Chunk) (k : ChunkValue)
    → value_of_chunk c ≡ k → HasRightHash c
    → header ≡ bytes_of_header c.header → bytes ≡ c.bytes → between ≡ front ++ header
    → between ++ bytes ≡ front ++ chunk_bytes k
chunk_bytes-appended {header} {bytes} {between} front c k is right header_is bytes_are appended =
    let own : header ++ bytes ≡ chunk_bytes k = rw (header_is, bytes_are) (chunk_bytes-right c k is right) in
    ap (λ (xs : List ℕ). xs ++ bytes) appended ∙ append_assoc front header bytes ∙ ap (λ (xs : List ℕ). front ++ xs) own
