-- Lemmas on the ends of chunks.
use Rattle.std.proofs.Common.{◌≡◌, ℕ, ◌+◌, ◌*◌, ◌%◌, ◌<◌, ◌≤◌, max, refl, sym, subst, ap, ◌∙◌, arith}
use Rattle.block_layout.specs.Layout.{IsBoundary, IsChunkEnd, room, end_of, boundary_from, chunk_end_of}
use Rattle.block_layout.proofs.Ends.{end_of_is_end, end_is_end_of, end_of_above, end_of_room, end_of_boundary, end_of_in_block, end_of_shift, boundary_from_after, boundary_from_boundary, boundary_from_least, boundary_from_is, boundary_from_shift}
use Rattle.block_layout.proofs.Room.{room_mono}

-- a chunk's end as a number, opened once
pub chunk_end_of-opened : (begin size num_records : ℕ)
    → chunk_end_of begin size num_records ≡ boundary_from (max (end_of begin size) (begin + num_records))
unfolding chunk_end_of
chunk_end_of-opened begin size num_records = refl

-- it is a boundary
pub chunk_end_of_boundary : (begin size num_records : ℕ) → IsBoundary (chunk_end_of begin size num_records)
unfolding chunk_end_of
chunk_end_of_boundary begin size num_records = boundary_from_boundary (max (end_of begin size) (begin + num_records))

-- it is at or past the end of the bytes
pub chunk_end_of_past_bytes : (begin size num_records : ℕ) → end_of begin size ≤ chunk_end_of begin size num_records
chunk_end_of_past_bytes begin size num_records =
    let limit = max (end_of begin size) (begin + num_records) in
    omega (arith, chunk_end_of-opened begin size num_records, boundary_from_after limit)

-- and so many positions past the begin
pub chunk_end_of_past_records : (begin size num_records : ℕ) → begin + num_records ≤ chunk_end_of begin size num_records
chunk_end_of_past_records begin size num_records =
    let limit = max (end_of begin size) (begin + num_records) in
    omega (arith, chunk_end_of-opened begin size num_records, boundary_from_after limit)

-- it is the least such boundary
pub chunk_end_of_least : (begin size num_records e : ℕ)
    → IsBoundary e → end_of begin size ≤ e → begin + num_records ≤ e → chunk_end_of begin size num_records ≤ e
chunk_end_of_least begin size num_records e h g k =
    let limit = max (end_of begin size) (begin + num_records) in
    omega (arith, chunk_end_of-opened begin size num_records, boundary_from_least limit e h (omega arith))

-- the number is the chunk's end
pub chunk_end_of_is_chunk_end : (begin size num_records : ℕ)
    → IsChunkEnd begin size num_records (chunk_end_of begin size num_records)
chunk_end_of_is_chunk_end begin size num_records = record {
  bytes_end = end_of begin size;
  is_end = end_of_is_end begin size;
  boundary = chunk_end_of_boundary begin size num_records;
  past_bytes = chunk_end_of_past_bytes begin size num_records;
  past_records = chunk_end_of_past_records begin size num_records;
  least = λ e h g k. chunk_end_of_least begin size num_records e h g k;
}

-- a chunk has one end, and it is the number
pub chunk_end_is_chunk_end_of : (begin size num_records e : ℕ)
    → IsChunkEnd begin size num_records e → e ≡ chunk_end_of begin size num_records
chunk_end_is_chunk_end_of begin size num_records e h =
    let same : h.bytes_end ≡ end_of begin size = end_is_end_of begin size h.bytes_end h.is_end in
    let low : chunk_end_of begin size num_records ≤ e =
    chunk_end_of_least begin size num_records e h.boundary (omega (arith, same, h.past_bytes)) h.past_records in
    let high : e ≤ chunk_end_of begin size num_records =
    h.least (chunk_end_of begin size num_records) (chunk_end_of_boundary begin size num_records)
    (omega (arith, same, chunk_end_of_past_bytes begin size num_records))
    (chunk_end_of_past_records begin size num_records) in
    omega (arith, low, high)

-- a number that is it is the chunk's end
pub chunk_end_from_number : (begin size num_records e : ℕ)
    → e ≡ chunk_end_of begin size num_records → IsChunkEnd begin size num_records e
chunk_end_from_number begin size num_records e h =
    let P : ℕ → Type 0 = IsChunkEnd begin size num_records in
    subst P (sym h) (chunk_end_of_is_chunk_end begin size num_records)

-- without padding a chunk ends with its bytes
pub chunk_end_of-end_of : (begin size num_records : ℕ)
    → begin + num_records ≤ end_of begin size → IsBoundary (end_of begin size)
    → chunk_end_of begin size num_records ≡ end_of begin size
chunk_end_of-end_of begin size num_records h g =
    omega (arith, chunk_end_of_past_bytes begin size num_records, chunk_end_of_least begin size num_records (end_of begin size) g (omega arith) h)

-- so do one byte or more of no more records than bytes
pub chunk_end_of-few_records : (begin size num_records : ℕ)
    → 1 ≤ size → num_records ≤ size → chunk_end_of begin size num_records ≡ end_of begin size
chunk_end_of-few_records begin size num_records h g =
    chunk_end_of-end_of begin size num_records (omega (arith, end_of_room begin size)) (end_of_boundary begin size h)

-- a chunk of one byte or more ends past its begin
pub chunk_end_of_above : (begin size num_records : ℕ) → 1 ≤ size → begin < chunk_end_of begin size num_records
chunk_end_of_above begin size num_records h =
    omega (arith, end_of_above begin size h, chunk_end_of_past_bytes begin size num_records)

-- the bytes are within
pub chunk_end_of_room : (begin size num_records : ℕ) → begin + size ≤ chunk_end_of begin size num_records
chunk_end_of_room begin size num_records =
    omega (arith, end_of_room begin size, chunk_end_of_past_bytes begin size num_records)

-- positions past a boundary within its block are boundaries
boundary_in_block : (p n : ℕ) → 25 ≤ p % 65536 → p % 65536 + n ≤ 65536 → IsBoundary (p + n)
boundary_in_block p n h g = grind arith

-- a chunk within a block, its padding too, ends behind the more of its bytes and its records
pub chunk_end_of_in_block : (begin size num_records : ℕ)
    → 25 ≤ begin % 65536 → begin % 65536 + size ≤ 65536 → begin % 65536 + num_records ≤ 65536
    → chunk_end_of begin size num_records ≡ begin + max size num_records
chunk_end_of_in_block begin size num_records h g k =
    let last = begin + max size num_records in
    let bytes : end_of begin size ≡ begin + size = end_of_in_block begin size (omega arith) g in
    let same : max (end_of begin size) (begin + num_records) ≡ last = omega (arith, bytes) in
    let own : boundary_from last ≡ last = boundary_from_is last (boundary_in_block begin (max size num_records) h (omega arith)) in
    chunk_end_of-opened begin size num_records ∙ ap (λ p. boundary_from p) same ∙ own

-- chunks' ends move by whole blocks with their begins
pub chunk_end_of_shift : (begin size num_records k : ℕ)
    → chunk_end_of (begin + k * 65536) size num_records ≡ chunk_end_of begin size num_records + k * 65536
chunk_end_of_shift begin size num_records k =
    let limit = max (end_of begin size) (begin + num_records) in
    let same : max (end_of (begin + k * 65536) size) (begin + k * 65536 + num_records) ≡ limit + k * 65536 =
    omega (arith, end_of_shift begin size k) in
    omega (
      arith,
      chunk_end_of-opened (begin + k * 65536) size num_records ∙ ap (λ p. boundary_from p) same,
      boundary_from_shift limit k,
      chunk_end_of-opened begin size num_records,
    )

-- all of a chunk's bytes have room before its end
pub room_before_chunk_end : (begin size num_records : ℕ) → size ≤ room begin (chunk_end_of begin size num_records)
room_before_chunk_end begin size num_records =
    let last = chunk_end_of begin size num_records in
    omega (arith, (end_of_is_end begin size).holds, room_mono begin (end_of begin size) last (chunk_end_of_past_bytes begin size num_records))

-- what a function that finds a chunk's end asks for
pub ruleset chunk_end_steps = (chunk_end_of-opened, chunk_end_of_past_bytes, chunk_end_of_room)
