-- Chunks of the program whose header has their data's hash.
use Rattle.std.proofs.Common.{◌≡◌, ◌∙◌, ℕ, List, [], ◌∷◌, ◌++◌, refl, sym, ap}
use Rattle.std.proofs.lemmas.List.{append-nil}
use Rattle.chunk_header.specs.Chunks.{ChunkValue, header_bytes}
use Rattle.chunk_header.specs.Views.{HasRightHash, IsHeaderOf, value_of, value_of_chunk}
use Rattle.chunk_header.specs.declared.Chunk.{Chunk}
use Rattle.chunk_header.specs.declared.Header.{Header}
use Rattle.chunk_header.proofs.ChunkBytes.{IsHeaderOf-right, header_bytes-of}
use Rattle.meta_chunk.specs.Laid.{laid, laid_bytes, end_of_chunk}
use Rattle.meta_chunk.specs.Files.{end_of_chunks, laid_each}
use Rattle.meta_chunk.proofs.Joins.{laid_each-append}
use Rattle.ordered_writer.specs.Writers.{laid_as, laid_with}

-- what the header says of data is the chunk
pub value_of-header : (h : Header) (bytes : List ℕ) (k : ChunkValue) → IsHeaderOf h k → bytes ≡ k.«data» → value_of h bytes ≡ k
value_of-header h bytes k of same = rw (of.kind, of.num_records, of.decoded_size, same) refl

-- so the bytes are those of the chunk
pub laid_with-right : (begin : ℕ) (h : Header) (bytes : List ℕ) (k : ChunkValue) → IsHeaderOf h k → bytes ≡ k.«data» → laid_with begin h bytes ≡ laid begin k
laid_with-right begin h bytes k of same =
    ap (λ (header : List ℕ). laid_bytes begin (end_of_chunk begin (value_of h bytes)) (header ++ bytes)) (header_bytes-of h k of)
    ∙ ap (λ (xs : List ℕ). laid_bytes begin (end_of_chunk begin (value_of h bytes)) (header_bytes k ++ xs)) same
    ∙ ap (λ (c : ChunkValue). laid_bytes begin (end_of_chunk begin c) (header_bytes k ++ k.«data»)) (value_of-header h bytes k of same)

pub laid_as-right : (begin : ℕ) (c : Chunk) → HasRightHash c → laid_as begin c ≡ laid begin (value_of_chunk c)
laid_as-right begin c right =
    laid_with-right begin c.header c.bytes (value_of_chunk c) (IsHeaderOf-right c right) refl

-- also behind others
pub laid_each-behind : (place : ℕ) (ks : List ChunkValue) (c : Chunk) → HasRightHash c
    → laid_each place (ks ++ value_of_chunk c ∷ []) ≡ laid_each place ks ++ laid_as (end_of_chunks place ks) c
unfolding laid_each
laid_each-behind place ks c right =
    laid_each-append place ks (value_of_chunk c ∷ [])
    ∙ ap (λ (bytes : List ℕ). laid_each place ks ++ bytes)
    (append-nil (laid (end_of_chunks place ks) (value_of_chunk c)) ∙ sym (laid_as-right (end_of_chunks place ks) c right))
