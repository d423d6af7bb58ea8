-- A chunk is known by its bytes, so at a place of a file at most one is laid.
use Rattle.std.proofs.Common.{◌≡◌, ◌∙◌, ℕ, ◌-◌, ◌/◌, ◌%◌, ◌^◌, ◌<◌, List, ◌++◌, length, get_or, take, drop, refl, sym, ap, arith}
use Rattle.std.specs.Prelude.{slice_range}
use Rattle.std.specs.Int.{w64, to_le_bytes, from_le_bytes}
use Rattle.std.proofs.lemmas.List.{append_assoc, take_at, drop_at, take-append-drop}
use Rattle.std.proofs.lemmas.Nat.{from_le_bytes-to_le_bytes_8}
use Rattle.block_layout.specs.Layout.{usable_bytes}
use Rattle.chunk_header.specs.Chunks.{ChunkValue, IsChunk, header_bytes, chunk_bytes}
use Rattle.meta_chunk.specs.Laid.{IsLaid}
use Rattle.meta_chunk.proofs.ChunkBytes.{own-front}

-- a word is known by its bytes
word-inj : (x y : ℕ) → x < 2 ^ 64 → y < 2 ^ 64 → to_le_bytes w64 x ≡ to_le_bytes w64 y → x ≡ y
word-inj x y small small' same =
    sym (from_le_bytes-to_le_bytes_8 x small) ∙ ap (from_le_bytes w64) same ∙ from_le_bytes-to_le_bytes_8 y small'

-- seven bytes of numbers below 2^56
seven-inj : (x y : ℕ) → x < 2 ^ 56 → y < 2 ^ 56 → take 7 (to_le_bytes w64 x) ≡ take 7 (to_le_bytes w64 y) → x ≡ y
seven-inj x y small small' same =
    word-inj x y (omega arith) (omega arith) (
    let top : x / 2 ^ 56 % 256 ≡ y / 2 ^ 56 % 256 = omega arith in
    cc)

-- chunks of the same kind, numbers and data are one
pub same_chunk : (k l : ChunkValue) → k.kind ≡ l.kind → k.num_records ≡ l.num_records → k.decoded_size ≡ l.decoded_size
    → k.«data» ≡ l.«data» → k ≡ l
same_chunk k l kind records decoded content =
    ap (λ (x : ℕ). record { kind = x; num_records = k.num_records; decoded_size = k.decoded_size; «data» = k.«data» }) kind
    ∙ ap (λ (x : ℕ). record { kind = l.kind; num_records = x; decoded_size = k.decoded_size; «data» = k.«data» }) records
    ∙ ap (λ (x : ℕ). record { kind = l.kind; num_records = l.num_records; decoded_size = x; «data» = k.«data» }) decoded
    ∙ ap (λ (x : List ℕ). record { kind = l.kind; num_records = l.num_records; decoded_size = l.decoded_size; «data» = x }) content

-- a chunk's bytes are its header and its data
header_first : (k : ChunkValue) (rest : List ℕ) → chunk_bytes k ++ rest ≡ header_bytes k ++ (k.«data» ++ rest)
header_first k rest = append_assoc (header_bytes k) k.«data» rest

-- a chunk is known by its bytes, whatever follows these
chunk_bytes-inj : (k l : ChunkValue) (rest more : List ℕ) → IsChunk k → IsChunk l → chunk_bytes k ++ rest ≡ chunk_bytes l ++ more → k ≡ l
chunk_bytes-inj k l rest more h g same =
    let whole : header_bytes k ++ (k.«data» ++ rest) ≡ header_bytes l ++ (l.«data» ++ more) =
    sym (header_first k rest) ∙ same ∙ header_first l more in
    let header : header_bytes k ≡ header_bytes l =
    sym (take_at (header_bytes k) (k.«data» ++ rest) 40 refl)
    ∙ ap (take 40) whole
    ∙ take_at (header_bytes l) (l.«data» ++ more) 40 refl in
    let behind : k.«data» ++ rest ≡ l.«data» ++ more =
    sym (drop_at (header_bytes k) (k.«data» ++ rest) 40 refl)
    ∙ ap (drop 40) whole
    ∙ drop_at (header_bytes l) (l.«data» ++ more) 40 refl in
    let size : length k.«data» ≡ length l.«data» =
    word-inj (length k.«data») (length l.«data») h.size g.size (ap (λ (xs : List ℕ). take 8 (drop 8 xs)) header) in
    same_chunk k l
    (ap (λ (xs : List ℕ). get_or xs 24 0) header)
    (seven-inj k.num_records l.num_records h.num_records g.num_records (ap (λ (xs : List ℕ). take 7 (drop 25 xs)) header))
    (word-inj k.decoded_size l.decoded_size h.decoded_size g.decoded_size (ap (drop 32) header))
    (sym (take_at k.«data» rest (length k.«data») refl)
    ∙ ap (take (length k.«data»)) behind
    ∙ take_at l.«data» more (length k.«data») (sym size))

-- at the front of bytes one chunk is laid at most
pub IsLaid-one : (begin : ℕ) (k l : ChunkValue) (bytes rest others more : List ℕ) → IsLaid begin k bytes → IsLaid begin l others
    → bytes ++ rest ≡ others ++ more → k ≡ l
IsLaid-one begin k l bytes rest others more h g same =
    let usable : List ℕ = usable_bytes begin (bytes ++ rest) in
    let m : ℕ = length (chunk_bytes k) in
    let n : ℕ = length (chunk_bytes l) in
    chunk_bytes-inj k l (drop m usable) (drop n usable) h.chunk g.chunk
    (ap (λ (xs : List ℕ). xs ++ drop m usable) (sym (own-front begin k bytes rest h))
    ∙ take-append-drop m usable
    ∙ sym (take-append-drop n usable)
    ∙ ap (λ (xs : List ℕ). xs ++ drop n usable)
    (ap (λ (xs : List ℕ). take n (usable_bytes begin xs)) same ∙ own-front begin l others more g))

-- so it is at a place of a file
pub IsLaid-one_at : (begin : ℕ) (k l : ChunkValue) (file : List ℕ) (end other : ℕ)
    → IsLaid begin k (slice_range file begin end) → IsLaid begin l (slice_range file begin other) → k ≡ l
IsLaid-one_at begin k l file end other h g =
    IsLaid-one begin k l
    (slice_range file begin end) (drop (end - begin) (drop begin file))
    (slice_range file begin other) (drop (other - begin) (drop begin file))
    h g
    (take-append-drop (end - begin) (drop begin file) ∙ sym (take-append-drop (other - begin) (drop begin file)))
