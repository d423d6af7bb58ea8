-- Chunks that are laid behind others.
use Rattle.std.proofs.Common.{◌≡◌, ◌∙◌, ℕ, ◌+◌, ◌-◌, ◌≤◌, List, [], ◌∷◌, ◌++◌, length, take, drop, refl, sym, ap, subst, append_assoc, length-append, arith}
use Rattle.std.proofs.lemmas.List.{take_at, drop_at}
use Rattle.chunk_header.specs.Chunks.{ChunkValue}
use Rattle.meta_chunk.specs.Laid.{laid, end_of_chunk}
use Rattle.meta_chunk.specs.Files.{AreLaid, end_of_chunks, laid_each}
use Rattle.meta_chunk.proofs.LaidChunks.{end_of_chunk_after, end-IsLaid, end-laid}

-- the others end where these begin
pub end_of_chunks-append : (place : ℕ) (ks more : List ChunkValue) → end_of_chunks place (ks ++ more) ≡ end_of_chunks (end_of_chunks place ks) more
end_of_chunks-append place [] more = refl
end_of_chunks-append place (k ∷ ks) more = end_of_chunks-append (end_of_chunk place k) ks more

-- chunks end at or past their begin
pub end_of_chunks_past : (place : ℕ) (ks : List ChunkValue) → place ≤ end_of_chunks place ks
end_of_chunks_past place [] = omega arith
end_of_chunks_past place (k ∷ ks) = omega (arith, end_of_chunk_after place k, end_of_chunks_past (end_of_chunk place k) ks)

-- bytes of chunks end where these do
pub end-AreLaid : (place : ℕ) (ks : List ChunkValue) (bytes : List ℕ) → AreLaid place ks bytes → place + length bytes ≡ end_of_chunks place ks
end-AreLaid place [] bytes nothing = omega (arith, ap length nothing)
end-AreLaid place (k ∷ ks) bytes (first, rest, same, laid_first, laid_rest) =
    let begin : place + length first ≡ end_of_chunk place k = end-IsLaid place k first laid_first in
    omega (
      arith,
      ap length same,
      length-append first rest,
      end-AreLaid (place + length first) ks rest laid_rest,
      ap (λ (begin : ℕ). end_of_chunks begin ks) begin,
    )

-- bytes of chunks, and behind them bytes of more chunks, are bytes of all of them
pub AreLaid-append : (place : ℕ) (ks more : List ChunkValue) (front back : List ℕ)
    → AreLaid place ks front → AreLaid (end_of_chunks place ks) more back → AreLaid place (ks ++ more) (front ++ back)
AreLaid-append place [] more front back nothing behind =
    subst (λ (xs : List ℕ). AreLaid place more (xs ++ back)) (sym nothing) behind
AreLaid-append place (k ∷ ks) more front back (first, rest, same, laid_first, laid_rest) behind =
    let begin : end_of_chunk place k ≡ place + length first = sym (end-IsLaid place k first laid_first) in (
      first,
      rest ++ back,
      ap (λ (xs : List ℕ). xs ++ back) same ∙ append_assoc first rest back,
      laid_first,
      AreLaid-append (place + length first) ks more rest back laid_rest
          (subst (λ (begin : ℕ). AreLaid (end_of_chunks begin ks) more back) begin behind),
    )

-- bytes of chunks up to one of them, and from there on
AreLaid-parts : (place : ℕ) (ks more : List ChunkValue) (bytes : List ℕ) → AreLaid place (ks ++ more) bytes
    → (front back : List ℕ) × (bytes ≡ front ++ back) × AreLaid place ks front × AreLaid (end_of_chunks place ks) more back
AreLaid-parts place [] more bytes h = ([], bytes, refl, refl, h)
AreLaid-parts place (k ∷ ks) more bytes (first, rest, same, laid_first, laid_rest) =
    let begin : place + length first ≡ end_of_chunk place k = end-IsLaid place k first laid_first in
    let parts = AreLaid-parts (place + length first) ks more rest laid_rest in (
      first ++ parts.0,
      parts.1,
      same ∙ ap (λ (xs : List ℕ). first ++ xs) parts.2 ∙ sym (append_assoc first parts.0 parts.1),
      (first, parts.0, refl, laid_first, parts.3),
      subst (λ (begin : ℕ). AreLaid (end_of_chunks begin ks) more parts.1) begin parts.4,
    )

-- so the front and the rest of bytes of chunks are bytes of chunks
pub AreLaid-split : (place : ℕ) (ks more : List ChunkValue) (bytes : List ℕ) → AreLaid place (ks ++ more) bytes
    → AreLaid place ks (take (end_of_chunks place ks - place) bytes) × AreLaid (end_of_chunks place ks) more (drop (end_of_chunks place ks - place) bytes)
AreLaid-split place ks more bytes h =
    let parts = AreLaid-parts place ks more bytes h in
    let size : length parts.0 ≡ end_of_chunks place ks - place = omega (arith, end-AreLaid place ks parts.0 parts.3) in
    let front : parts.0 ≡ take (end_of_chunks place ks - place) bytes =
    sym (take_at parts.0 parts.1 _ size) ∙ ap (take (end_of_chunks place ks - place)) (sym parts.2) in
    let back : parts.1 ≡ drop (end_of_chunks place ks - place) bytes =
    sym (drop_at parts.0 parts.1 _ size) ∙ ap (drop (end_of_chunks place ks - place)) (sym parts.2) in (
      subst (λ (xs : List ℕ). AreLaid place ks xs) front parts.3,
      subst (λ (xs : List ℕ). AreLaid (end_of_chunks place ks) more xs) back parts.4,
    )

-- the bytes of chunks with zero padding follow one another
pub laid_each-append : (place : ℕ) (ks more : List ChunkValue)
    → laid_each place (ks ++ more) ≡ laid_each place ks ++ laid_each (end_of_chunks place ks) more
unfolding laid_each
laid_each-append place [] more = refl
laid_each-append place (k ∷ ks) more =
    ap (λ (bytes : List ℕ). laid place k ++ bytes) (laid_each-append (end_of_chunk place k) ks more)
    ∙ sym (append_assoc (laid place k) (laid_each (end_of_chunk place k) ks) (laid_each (end_of_chunks (end_of_chunk place k) ks) more))

-- and end where the chunks do
pub end-laid_each : (place : ℕ) (ks : List ChunkValue) → place + length (laid_each place ks) ≡ end_of_chunks place ks
unfolding laid_each
end-laid_each place [] = omega arith
end-laid_each place (k ∷ ks) =
    let rest : List ℕ = laid_each (end_of_chunk place k) ks in
    omega (arith, length-append (laid place k) rest, end-laid place k, end-laid_each (end_of_chunk place k) ks)

pub length-laid_each : (place : ℕ) (ks : List ChunkValue) → length (laid_each place ks) ≡ end_of_chunks place ks - place
length-laid_each place ks = omega (arith, end-laid_each place ks)
