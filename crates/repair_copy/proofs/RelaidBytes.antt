-- The file of pieces is a list of bytes.
use Rattle.std.proofs.Common.{ℕ, zero, suc, ◌-◌, ◌%◌, ◌<◌, Bool, List, [], ◌∷◌, ◌++◌, get_or, take, length, sym, subst, inl, inr, arith, rules}
use Rattle.std.specs.Prelude.{map, nat_lt}
use Rattle.std.specs.Int.{w64, to_le_bytes}
use Rattle.std.specs.List.{AllByRecursion, range_with_len}
use Rattle.std.proofs.lemmas.Bool.{cases_lt, cond-true, cond-false, lt-ltb, le-ltb}
use Rattle.highway_hash.specs.Riegeli.{riegeli_hash}
use Rattle.record_values.specs.Bytes.{AreBytes}
use Rattle.record_values.proofs.ByteLists.{AreBytes-append}
use Rattle.block_layout.specs.Layout.{room}
use Rattle.block_layout.specs.BlockHeaders.{block_header}
use Rattle.block_layout.proofs.BlockHeaders.{block_header_is_bytes}
use Rattle.chunk_header.specs.Chunks.{ChunkValue, IsChunk, header_bytes, header_fields, chunk_bytes}
use Rattle.meta_chunk.specs.Laid.{end_of_chunk, byte_at, laid_bytes, laid}
use Rattle.meta_chunk.specs.Files.{signature, laid_each}
use Rattle.chunk_reader.proofs.SignedFiles.{IsChunk-signature}
use Rattle.damage_skip.specs.Pieces.{Piece, AreTiles}
use Rattle.repair_copy.specs.RepairPuts.{chunks_in}
use Rattle.repair_copy.specs.RelaidFiles.{relaid}
use Rattle.repair_copy.proofs.RelaidFiles.{tiles_sound}

-- the bytes of a number are bytes
word_bytes : (n : ℕ) → AreBytes (to_le_bytes w64 n)
word_bytes n = search rules

seven_bytes : (n : ℕ) → AreBytes (take 7 (to_le_bytes w64 n))
seven_bytes n = search rules

-- so are those of a chunk that a header can hold
AreBytes-chunk_bytes : (k : ChunkValue) → IsChunk k → AreBytes (chunk_bytes k)
AreBytes-chunk_bytes k h =
    let size : ℕ = length k.«data» in
    let hash : ℕ = riegeli_hash k.«data» in
    let fields : List ℕ = header_fields size hash k.kind k.num_records k.decoded_size in
    let counts : List ℕ = k.kind ∷ take 7 (to_le_bytes w64 k.num_records) in
    let last : List ℕ = to_le_bytes w64 k.decoded_size in
    let are : AreBytes fields =
    AreBytes-append (to_le_bytes w64 size) (to_le_bytes w64 hash ++ counts ++ last) (word_bytes size)
    (AreBytes-append (to_le_bytes w64 hash) (counts ++ last) (word_bytes hash)
    (AreBytes-append counts last (h.kind, seven_bytes k.num_records) (word_bytes k.decoded_size))) in
    AreBytes-append (header_bytes k) k.«data»
    (AreBytes-append (to_le_bytes w64 (riegeli_hash fields)) fields (word_bytes (riegeli_hash fields)) are) h.bytes

-- one of some bytes is a byte, and so is 0 past them
byte_in : (bytes : List ℕ) (i : ℕ) → AreBytes bytes → get_or bytes i 0 < 256
byte_in [] i h = omega arith
byte_in (b ∷ bytes) zero h = h.0
byte_in (b ∷ bytes) (suc i) h = byte_in bytes i h.1

-- each byte that is laid is one
byte_laid : (begin end : ℕ) (own : List ℕ) (p : ℕ) → AreBytes own → byte_at begin end own p < 256
byte_laid begin end own p h =
    let b : ℕ = p - p % 65536 in
    let header : ℕ = get_or (block_header (b - begin) (end - b)) (p % 65536) 0 in
    let other : ℕ = get_or own (room begin p) 0 in
    elim (cases_lt (p % 65536) 24) [
      | inl inside ↦
          subst (λ (n : ℕ). n < 256) (sym (cond-true (nat_lt (p % 65536) 24) header other (lt-ltb _ _ inside)))
          (byte_in (block_header (b - begin) (end - b)) (p % 65536) (block_header_is_bytes (b - begin) (end - b)))
      | inr usable ↦
          subst (λ (n : ℕ). n < 256) (sym (cond-false (nat_lt (p % 65536) 24) header other (le-ltb _ _ usable)))
          (byte_in own (room begin p) h)
    ]

AreBytes-map : (f : ℕ → ℕ) → ((p : ℕ) → f p < 256) → (places : List ℕ) → AreBytes (map f places)
AreBytes-map f each [] = tt
AreBytes-map f each (p ∷ places) = (each p, AreBytes-map f each places)

AreBytes-laid : (begin : ℕ) (k : ChunkValue) → IsChunk k → AreBytes (laid begin k)
unfolding laid_bytes
AreBytes-laid begin k h =
    let end : ℕ = end_of_chunk begin k in
    AreBytes-map (byte_at begin end (chunk_bytes k))
    (λ p. byte_laid begin end (chunk_bytes k) p (AreBytes-chunk_bytes k h))
    (range_with_len begin (end - begin))

-- and so are those of chunks one after another
pub AreBytes-laid_each : (place : ℕ) (ks : List ChunkValue) → AllByRecursion IsChunk ks → AreBytes (laid_each place ks)
unfolding laid_each
AreBytes-laid_each place [] h = tt
AreBytes-laid_each place (k ∷ ks) h =
    AreBytes-append (laid place k) (laid_each (end_of_chunk place k) ks) (AreBytes-laid place k h.0)
    (AreBytes-laid_each (end_of_chunk place k) ks h.1)

pub AreBytes-relaid : (unread_ok : Bool) (file : List ℕ) (place : ℕ) (pieces : List Piece) → AreBytes file → AreTiles unread_ok file 0 place pieces
    → AreBytes (relaid pieces)
AreBytes-relaid unread_ok file place pieces bytes h =
    AreBytes-laid_each 0 (signature ∷ chunks_in pieces) (IsChunk-signature, tiles_sound unread_ok file bytes 0 place pieces h)
