-- The bytes of a chunk that is laid with zero padding are those of the chunk, and of chunks one after another.
use Rattle.std.proofs.Common.{◌≡◌, ◌∙◌, ℕ, ◌+◌, ◌-◌, ◌%◌, ◌<◌, ◌≤◌, List, [], ◌∷◌, Some, length, get_or, drop, ltb, refl, sym, ap, subst, arith}
use Rattle.std.specs.Prelude.{slice_range}
use Rattle.std.specs.List.{AllByRecursion}
use Rattle.std.proofs.lemmas.Bool.{cond-true, cond-false, lt-ltb, le-ltb}
use Rattle.std.proofs.lemmas.List.{ext_get_or, length-take, length-drop, get_or-take, get_or-drop}
use Rattle.std.proofs.lemmas.List.FromFn.{get_or-map-range_with_len}
use Rattle.std.proofs.lemmas.Option.{same_Some, slice_get-get_or}
use Rattle.block_layout.specs.Layout.{IsBlock, IsUsable, IsChunkEnd, room}
use Rattle.block_layout.specs.BlockHeaders.{block_header}
use Rattle.block_layout.proofs.Room.{boundary_past_block}
use Rattle.block_layout.proofs.ChunkEnds.{chunk_end_of_room, chunk_end_of_boundary, chunk_end_of_is_chunk_end, chunk_end_is_chunk_end_of}
use Rattle.chunk_header.specs.Chunks.{ChunkValue, IsChunk, chunk_bytes}
use Rattle.meta_chunk.specs.Laid.{IsLaid, end_of_chunk, byte_at, laid, laid_bytes}
use Rattle.meta_chunk.specs.Files.{AreLaid, laid_each}
use Rattle.meta_chunk.proofs.OneBlock.{length-laid}

-- a chunk ends at or past its begin
pub end_of_chunk_after : (begin : ℕ) (k : ChunkValue) → begin + 40 ≤ end_of_chunk begin k
end_of_chunk_after begin k = omega (arith, chunk_end_of_room begin (40 + length k.«data») k.num_records)

-- a chunk that is laid ends where its end as a number is
pub end-IsLaid : (begin : ℕ) (k : ChunkValue) (bytes : List ℕ) → IsLaid begin k bytes → begin + length bytes ≡ end_of_chunk begin k
end-IsLaid begin k bytes h = chunk_end_is_chunk_end_of begin (40 + length k.«data») k.num_records (begin + length bytes) h.end

-- at a usable position stands the chunk's own byte
pub IsLaid-usable : (begin : ℕ) (k : ChunkValue) (bytes : List ℕ) (p : ℕ) → IsLaid begin k bytes
    → begin ≤ p → p < begin + length bytes → IsUsable p → room begin p < length (chunk_bytes k)
    → get_or bytes (p - begin) 0 ≡ get_or (chunk_bytes k) (room begin p) 0
IsLaid-usable begin k bytes p h low high usable within =
    same_Some (get_or bytes (p - begin) 0) (get_or (chunk_bytes k) (room begin p) 0)
    (sym (slice_get-get_or bytes (p - begin) 0 (omega arith))
    ∙ h.own p low high usable within
    ∙ slice_get-get_or (chunk_bytes k) (room begin p) 0 within)

-- a laid chunk's bytes end where the chunk does
pub end-laid : (begin : ℕ) (k : ChunkValue) → begin + length (laid begin k) ≡ end_of_chunk begin k
end-laid begin k = omega (arith, length-laid begin k, end_of_chunk_after begin k)

-- the byte at a position
get_or-laid : (begin : ℕ) (k : ChunkValue) (p : ℕ) → begin ≤ p → p < end_of_chunk begin k → get_or (laid begin k) (p - begin) 0 ≡ byte_at begin (end_of_chunk begin k) (chunk_bytes k) p
unfolding laid_bytes
get_or-laid begin k p h g =
    get_or-map-range_with_len (byte_at begin (end_of_chunk begin k) (chunk_bytes k)) begin (end_of_chunk begin k - begin) (p - begin) p 0 (omega arith) (omega arith)

-- at a usable position it is the chunk's own byte, or 0 past these
pub laid-usable : (begin : ℕ) (k : ChunkValue) (p : ℕ) → begin ≤ p → p < end_of_chunk begin k → IsUsable p
    → get_or (laid begin k) (p - begin) 0 ≡ get_or (chunk_bytes k) (room begin p) 0
laid-usable begin k p h g u =
    get_or-laid begin k p h g
    ∙ cond-false (ltb (p % 65536) 24) _ _ (le-ltb _ _ u)

-- in a block's header it is the header's
pub laid-header : (begin : ℕ) (k : ChunkValue) (b i : ℕ) → IsBlock b → begin ≤ b → i < 24 → b + i < end_of_chunk begin k
    → get_or (laid begin k) (b + i - begin) 0 ≡ get_or (block_header (b - begin) (end_of_chunk begin k - b)) i 0
laid-header begin k b i block h small g =
    let place : (b + i) % 65536 ≡ i = omega arith in
    let back : b + i - (b + i) % 65536 ≡ b = omega arith in
    get_or-laid begin k (b + i) (omega arith) g
    ∙ cond-true (ltb ((b + i) % 65536) 24) _ _ (lt-ltb _ _ (omega arith))
    ∙ ap (λ (c : ℕ). get_or (block_header (c - begin) (end_of_chunk begin k - c)) ((b + i) % 65536) 0) back
    ∙ ap (λ (n : ℕ). get_or (block_header (b - begin) (end_of_chunk begin k - b)) n 0) place

-- so a block has its header
headers-laid : (begin : ℕ) (k : ChunkValue) (b : ℕ) → IsBlock b → begin ≤ b → b < end_of_chunk begin k
    → slice_range (laid begin k) (b - begin) (b - begin + 24) ≡ block_header (b - begin) (end_of_chunk begin k - b)
headers-laid begin k b block h g =
    let bytes : List ℕ = laid begin k in
    let last : b + 25 ≤ end_of_chunk begin k =
    boundary_past_block b (end_of_chunk begin k) block (chunk_end_of_boundary begin (40 + length k.«data») k.num_records) g in
    let count : b - begin + 24 - (b - begin) ≡ 24 = omega arith in
    let len : length (slice_range bytes (b - begin) (b - begin + 24)) ≡ 24 =
    length-take (b - begin + 24 - (b - begin)) (drop (b - begin) bytes)
    ∙ omega (arith, length-drop (b - begin) bytes, end-laid begin k) in
    ext_get_or 0 (slice_range bytes (b - begin) (b - begin + 24)) (block_header (b - begin) (end_of_chunk begin k - b)) len (λ i small.
    let place : b - begin + i ≡ b + i - begin = omega arith in
    get_or-take (b - begin + 24 - (b - begin)) (drop (b - begin) bytes) i 0 (omega arith)
    ∙ get_or-drop (b - begin) bytes i 0
    ∙ ap (λ (n : ℕ). get_or bytes n 0) place
    ∙ laid-header begin k b i block h (omega arith) (omega arith))

-- the bytes with zero padding are bytes of the chunk from its begin to its end
pub IsLaid-laid : (begin : ℕ) (k : ChunkValue) → IsChunk k → IsLaid begin k (laid begin k)
IsLaid-laid begin k h = record {
  chunk = h;
  end = subst
      (λ (e : ℕ). IsChunkEnd begin (40 + length k.«data») k.num_records e)
      (sym (end-laid begin k))
      (chunk_end_of_is_chunk_end begin (40 + length k.«data») k.num_records);
  own = λ p low high usable within.
      slice_get-get_or (laid begin k) (p - begin) 0 (omega arith)
      ∙ ap Some (laid-usable begin k p low (omega (arith, end-laid begin k)) usable)
      ∙ sym (slice_get-get_or (chunk_bytes k) (room begin p) 0 within);
  headers = λ b block low high.
      headers-laid begin k b block low (omega (arith, end-laid begin k))
      ∙ ap (λ (e : ℕ). block_header (b - begin) (e - b)) (sym (end-laid begin k));
}

-- and so it is with chunks one after another
pub AreLaid-laid_each : (begin : ℕ) (ks : List ChunkValue) → AllByRecursion IsChunk ks → AreLaid begin ks (laid_each begin ks)
unfolding laid_each
AreLaid-laid_each begin [] h = refl
AreLaid-laid_each begin (k ∷ ks) h = (
  laid begin k,
  laid_each (end_of_chunk begin k) ks,
  refl,
  IsLaid-laid begin k h.0,
  subst
      (λ (e : ℕ). AreLaid e ks (laid_each (end_of_chunk begin k) ks))
      (sym (end-laid begin k))
      (AreLaid-laid_each (end_of_chunk begin k) ks h.1),
)
