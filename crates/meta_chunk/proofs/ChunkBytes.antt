-- A chunk's bytes, found in a file at its begin.
use Rattle.std.proofs.Common.{◌≡◌, ◌∙◌, ℕ, ◌+◌, ◌-◌, ◌<◌, ◌≤◌, List, ◌++◌, Some, length, get_or, take, drop, refl, sym, ap, subst, arith}
use Rattle.std.specs.Prelude.{slice_range}
use Rattle.std.proofs.lemmas.List.{ext_get_or, get_or-take, length-take, length-take-le, length-drop, take_at, take-take, drop-take, drop-drop, take-append-drop, take-append-le}
use Rattle.std.proofs.lemmas.Option.{slice_get-get_or}
use Rattle.block_layout.specs.Layout.{IsBlock, IsChunkEnd, room, usable_below, usable_at, usable_bytes, usable_bytes_at}
use Rattle.block_layout.specs.BlockHeaders.{block_header}
use Rattle.block_layout.proofs.Room.{boundary_past_block}
use Rattle.block_layout.proofs.ChunkEnds.{room_before_chunk_end, chunk_end_of_boundary, chunk_end_of_is_chunk_end}
use Rattle.block_layout.proofs.UsableBytes.{length-usable_bytes, get_or-usable_bytes, usable_place, usable_bytes-append}
use Rattle.chunk_header.specs.Chunks.{ChunkValue, IsChunk, header_bytes, chunk_bytes}
use Rattle.chunk_header.proofs.Lengths.{length-chunk_bytes}
use Rattle.meta_chunk.specs.Laid.{IsLaid, end_of_chunk}
use Rattle.meta_chunk.proofs.LaidChunks.{end_of_chunk_after, end-IsLaid, IsLaid-usable}

-- a laid chunk has at least as many bytes at usable positions as are its own
length-own-usable : (begin : ℕ) (k : ChunkValue) (bytes : List ℕ) → IsLaid begin k bytes
    → length (chunk_bytes k) ≤ length (usable_bytes begin bytes)
length-own-usable begin k bytes h =
    let last : begin + length bytes ≡ end_of_chunk begin k = end-IsLaid begin k bytes h in
    omega (
      arith,
      length-usable_bytes begin bytes,
      ap (room begin) last,
      room_before_chunk_end begin (40 + length k.«data») k.num_records,
      length-chunk_bytes k,
    )

-- the first of them are its own
pub own-IsLaid : (begin : ℕ) (k : ChunkValue) (bytes : List ℕ) → IsLaid begin k bytes
    → take (length (chunk_bytes k)) (usable_bytes begin bytes) ≡ chunk_bytes k
own-IsLaid begin k bytes h =
    let usable : List ℕ = usable_bytes begin bytes in
    let own : List ℕ = chunk_bytes k in
    let enough : length own ≤ length usable = length-own-usable begin k bytes h in
    let size : length usable ≡ room begin (begin + length bytes) = length-usable_bytes begin bytes in
    let taken : length (take (length own) usable) ≡ length own = length-take-le (length own) usable enough in
    ext_get_or 0 (take (length own) usable) own taken (λ i small.
    let place : ℕ = usable_at (usable_below begin + i) in
    let at = usable_place begin (begin + length bytes) i (omega arith) in
    let before : room begin place ≡ i = at.3 in
    get_or-take (length own) usable i 0 (omega arith)
    ∙ ap (λ (n : ℕ). get_or usable n 0) (sym before)
    ∙ get_or-usable_bytes begin bytes place at.1 at.2 at.0
    ∙ IsLaid-usable begin k bytes place h at.1 at.2 at.0 (omega arith)
    ∙ ap (λ (n : ℕ). get_or own n 0) before)

-- and so it is with whatever stands behind the chunk
pub own-front : (begin : ℕ) (k : ChunkValue) (bytes rest : List ℕ) → IsLaid begin k bytes
    → take (length (chunk_bytes k)) (usable_bytes begin (bytes ++ rest)) ≡ chunk_bytes k
own-front begin k bytes rest h =
    let behind : List ℕ = usable_bytes (begin + length bytes) rest in
    ap (take (length (chunk_bytes k))) (usable_bytes-append begin bytes rest)
    ∙ take-append-le (length (chunk_bytes k)) (usable_bytes begin bytes) behind (length-own-usable begin k bytes h)
    ∙ own-IsLaid begin k bytes h

-- in a file, the usable bytes at the chunk's begin are its own
pub usable_bytes_at-IsLaid : (begin : ℕ) (k : ChunkValue) (file : List ℕ) (end : ℕ) → IsLaid begin k (slice_range file begin end)
    → usable_bytes_at file begin (40 + length k.«data») ≡ chunk_bytes k
usable_bytes_at-IsLaid begin k file end h =
    ap (usable_bytes_at file begin) (sym (length-chunk_bytes k))
    ∙ ap (λ (xs : List ℕ). take (length (chunk_bytes k)) (usable_bytes begin xs)) (sym (take-append-drop (end - begin) (drop begin file)))
    ∙ own-front begin k (slice_range file begin end) (drop (end - begin) (drop begin file)) h

-- and of them the first 40 are its header
pub header_at-IsLaid : (begin : ℕ) (k : ChunkValue) (file : List ℕ) (end : ℕ) → IsLaid begin k (slice_range file begin end)
    → usable_bytes_at file begin 40 ≡ header_bytes k
header_at-IsLaid begin k file end h =
    sym (take-take 40 (40 + length k.«data») (usable_bytes begin (drop begin file)) (omega arith))
    ∙ ap (take 40) (usable_bytes_at-IsLaid begin k file end h)
    ∙ take_at (header_bytes k) k.«data» 40 refl

-- a range within a range of a list is one of the list
slice_range-within : (xs : List ℕ) (begin end place count : ℕ) → begin ≤ place → place + count ≤ end
    → slice_range (slice_range xs begin end) (place - begin) (place - begin + count) ≡ slice_range xs place (place + count)
slice_range-within xs begin end place count low high =
    let inner : place - begin + count - (place - begin) ≡ count = omega arith in
    let outer : count ≡ place + count - place = omega arith in
    let cut : end - begin ≡ place - begin + (end - place) = omega arith in
    let start : begin + (place - begin) ≡ place = omega arith in
    ap (λ (n : ℕ). take n (drop (place - begin) (slice_range xs begin end))) inner
    ∙ ap (λ (n : ℕ). take count (drop (place - begin) (take n (drop begin xs)))) cut
    ∙ ap (take count) (drop-take (place - begin) (end - place) (drop begin xs))
    ∙ take-take count (end - place) (drop (place - begin) (drop begin xs)) (omega arith)
    ∙ ap (take count) (drop-drop (place - begin) begin xs ∙ ap (λ (n : ℕ). drop n xs) start)
    ∙ ap (λ (n : ℕ). take n (drop place xs)) outer

-- in a file, each block of the chunk has its header
pub headers-IsLaid : (begin : ℕ) (k : ChunkValue) (file : List ℕ) (end b : ℕ) → IsLaid begin k (slice_range file begin end)
    → IsBlock b → begin ≤ b → b < end_of_chunk begin k
    → slice_range file b (b + 24) ≡ block_header (b - begin) (end_of_chunk begin k - b)
headers-IsLaid begin k file end b h block low high =
    let bytes : List ℕ = slice_range file begin end in
    let last : begin + length bytes ≡ end_of_chunk begin k = end-IsLaid begin k bytes h in
    let size : length bytes ≤ end - begin = omega (arith, length-take (end - begin) (drop begin file)) in
    let behind : b + 25 ≤ end_of_chunk begin k =
    boundary_past_block b (end_of_chunk begin k) block (chunk_end_of_boundary begin (40 + length k.«data») k.num_records) high in
    sym (slice_range-within file begin end b 24 low (omega arith))
    ∙ h.headers b block low (omega arith)
    ∙ ap (λ (e : ℕ). block_header (b - begin) (e - b)) last

-- and where its bytes and these headers stand, the chunk is laid
pub IsLaid-from_usable_bytes : (begin : ℕ) (k : ChunkValue) (file : List ℕ) → IsChunk k → end_of_chunk begin k ≤ length file
    → usable_bytes_at file begin (40 + length k.«data») ≡ chunk_bytes k
    → ((b : ℕ) → IsBlock b → begin ≤ b → b < end_of_chunk begin k
    → slice_range file b (b + 24) ≡ block_header (b - begin) (end_of_chunk begin k - b))
    → IsLaid begin k (slice_range file begin (end_of_chunk begin k))
IsLaid-from_usable_bytes begin k file h fits own headers =
    let end : ℕ = end_of_chunk begin k in
    let bytes : List ℕ = slice_range file begin end in
    let behind : List ℕ = drop begin file in
    let after : begin + 40 ≤ end = end_of_chunk_after begin k in
    let last : begin + length bytes ≡ end = omega (arith, length-take (end - begin) behind, length-drop begin file) in
    record {
      chunk = h;
      end = subst
          (λ (e : ℕ). IsChunkEnd begin (40 + length k.«data») k.num_records e)
          (sym last)
          (chunk_end_of_is_chunk_end begin (40 + length k.«data») k.num_records);
      own = λ p low high usable within.
          slice_get-get_or bytes (p - begin) 0 (omega arith)
          ∙ ap Some (get_or-take (end - begin) behind (p - begin) 0 (omega arith)
          ∙ sym (get_or-usable_bytes begin behind p low (omega (arith, length-drop begin file)) usable)
          ∙ sym (get_or-take (40 + length k.«data») (usable_bytes begin behind) (room begin p) 0 (omega (arith, length-chunk_bytes k)))
          ∙ ap (λ (xs : List ℕ). get_or xs (room begin p) 0) own)
          ∙ sym (slice_get-get_or (chunk_bytes k) (room begin p) 0 within);
      headers = λ b block low high.
          let header_end : b + 25 ≤ end = boundary_past_block b end block
          (chunk_end_of_boundary begin (40 + length k.«data») k.num_records) (omega arith) in
          slice_range-within file begin end b 24 low (omega arith)
          ∙ headers b block low (omega arith)
          ∙ ap (λ (e : ℕ). block_header (b - begin) (e - b)) (sym last);
    }
