-- Chunks that are laid within one block.
use Rattle.std.proofs.Common.{◌≡◌, ◌∙◌, ℕ, ◌+◌, ◌-◌, ◌%◌, ◌<◌, ◌≤◌, length, get_or, ltb, refl, ap, arith}
use Rattle.std.proofs.lemmas.Bool.{cond-false, le-ltb}
use Rattle.std.proofs.lemmas.List.{ext_get_or}
use Rattle.std.proofs.lemmas.List.FromFn.{length-map-range_with_len, get_or-map-range_with_len}
use Rattle.block_layout.specs.Layout.{room}
use Rattle.block_layout.proofs.Room.{room-closed}
use Rattle.block_layout.proofs.Ends.{end_of_in_block}
use Rattle.block_layout.proofs.ChunkEnds.{chunk_end_of-few_records}
use Rattle.chunk_header.specs.Chunks.{ChunkValue, chunk_bytes}
use Rattle.chunk_header.proofs.Lengths.{length-chunk_bytes}
use Rattle.meta_chunk.specs.Laid.{end_of_chunk, byte_at, laid, laid_bytes}

-- how many bytes a laid chunk has
pub length-laid : (begin : ℕ) (k : ChunkValue) → length (laid begin k) ≡ end_of_chunk begin k - begin
unfolding laid_bytes
length-laid begin k = length-map-range_with_len (byte_at begin (end_of_chunk begin k) (chunk_bytes k)) begin (end_of_chunk begin k - begin)

-- a chunk that holds no more records than bytes and fits into the rest of a block ends behind its bytes
end_of_chunk-one_block : (begin : ℕ) (k : ChunkValue)
    → 24 ≤ begin % 65536 → begin % 65536 + length (chunk_bytes k) ≤ 65536 → k.num_records ≤ length (chunk_bytes k)
    → end_of_chunk begin k ≡ begin + length (chunk_bytes k)
end_of_chunk-one_block begin k usable fits few =
    let size : ℕ = 40 + length k.«data» in
    let own : length (chunk_bytes k) ≡ size = length-chunk_bytes k in
    omega (
      arith,
      chunk_end_of-few_records begin size k.num_records (omega arith) (omega arith),
      end_of_in_block begin size usable (omega arith),
    )

byte_at-in_block : (begin : ℕ) (k : ChunkValue) (i : ℕ) → 24 ≤ begin % 65536 → begin % 65536 + i < 65536
    → byte_at begin (end_of_chunk begin k) (chunk_bytes k) (begin + i) ≡ get_or (chunk_bytes k) i 0
byte_at-in_block begin k i usable within =
    let r : room begin (begin + i) ≡ i = omega (arith, room-closed begin (begin + i)) in
    cond-false (ltb ((begin + i) % 65536) 24) _ _ (le-ltb _ _ (omega arith))
    ∙ ap (λ (n : ℕ). get_or (chunk_bytes k) n 0) r

-- so its bytes are its own, one after another
laid-in_block : (begin : ℕ) (k : ChunkValue)
    → 24 ≤ begin % 65536 → begin % 65536 + length (chunk_bytes k) ≤ 65536 → k.num_records ≤ length (chunk_bytes k)
    → laid begin k ≡ chunk_bytes k
unfolding laid_bytes
laid-in_block begin k usable fits few =
    let e : end_of_chunk begin k ≡ begin + length (chunk_bytes k) = end_of_chunk-one_block begin k usable fits few in
    let len : length (laid begin k) ≡ length (chunk_bytes k) = omega (arith, length-laid begin k) in
    ext_get_or 0 (laid begin k) (chunk_bytes k) len (λ i h.
    get_or-map-range_with_len (byte_at begin (end_of_chunk begin k) (chunk_bytes k)) begin (end_of_chunk begin k - begin) i (begin + i) 0 (omega arith) refl
    ∙ byte_at-in_block begin k i usable (omega arith))

-- behind the signature, within the first block
pub laid-one_block : (k : ChunkValue) → length (chunk_bytes k) + 64 ≤ 65536 → k.num_records ≤ length (chunk_bytes k)
    → laid 64 k ≡ chunk_bytes k
laid-one_block k fits few = laid-in_block 64 k (omega arith) (omega arith) few
