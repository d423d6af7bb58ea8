-- The chunk that is laid at a place of a file is the chunk at that place.
use Rattle.std.proofs.Common.{◌≡◌, ◌∙◌, ℕ, List, length, drop, refl, sym, ap, subst}
use Rattle.std.specs.Prelude.{slice_range}
use Rattle.std.proofs.lemmas.List.{drop_at}
use Rattle.highway_hash.specs.Riegeli.{riegeli_hash}
use Rattle.highway_hash.proofs.FrontHash.{BeginsWithHash-with_hash}
use Rattle.chunk_header.specs.Chunks.{ChunkValue, HeaderValue, IsRightChunkHeader, header_fields, header_bytes}
use Rattle.chunk_header.proofs.HeaderValues.{header_in-chunk}
use Rattle.meta_chunk.specs.Laid.{IsLaid, end_of_chunk}
use Rattle.meta_chunk.proofs.OneChunk.{same_chunk}
use Rattle.meta_chunk.proofs.ChunkBytes.{usable_bytes_at-IsLaid, header_at-IsLaid, headers-IsLaid}
use Rattle.chunk_reader.specs.Places.{header_bytes_at, header_at, end_by, end_at, data_at, chunk_at}
use Rattle.chunk_reader.specs.PlaceChecks.{HaveHeadersOf}
use Rattle.chunk_header.specs.Chunks.{header_in}

-- what a chunk's header says
abbrev pub header_of : ChunkValue → HeaderValue
header_of k = record {
  data_size = length k.«data»;
  data_hash = riegeli_hash k.«data»;
  kind = k.kind;
  num_records = k.num_records;
  decoded_size = k.decoded_size;
}

-- the header at its place says the chunk's fields
pub header_at-laid : (begin : ℕ) (k : ChunkValue) (file : List ℕ) (end : ℕ) → IsLaid begin k (slice_range file begin end)
    → header_at file begin ≡ header_of k
header_at-laid begin k file end h = ap header_in (header_at-IsLaid begin k file end h) ∙ header_in-chunk k h.chunk

-- and its hash is right
pub right_header-laid : (begin : ℕ) (k : ChunkValue) (file : List ℕ) (end : ℕ) → IsLaid begin k (slice_range file begin end)
    → IsRightChunkHeader (header_bytes_at file begin)
right_header-laid begin k file end h =
    let same : header_bytes_at file begin ≡ header_bytes k = header_at-IsLaid begin k file end h in
    (ap length same, BeginsWithHash-with_hash (header_bytes_at file begin) (header_fields (length k.«data») (riegeli_hash k.«data») k.kind k.num_records k.decoded_size) same)

-- the end by this header is the chunk's
pub end_at-laid : (begin : ℕ) (k : ChunkValue) (file : List ℕ) (end : ℕ) → IsLaid begin k (slice_range file begin end)
    → end_at file begin ≡ end_of_chunk begin k
end_at-laid begin k file end h = ap (end_by begin) (header_at-laid begin k file end h)

-- the data behind it is the chunk's
pub data_at-laid : (begin : ℕ) (k : ChunkValue) (file : List ℕ) (end : ℕ) → IsLaid begin k (slice_range file begin end)
    → data_at file begin (header_at file begin).data_size ≡ k.«data»
data_at-laid begin k file end h =
    ap (λ (v : HeaderValue). data_at file begin v.data_size) (header_at-laid begin k file end h)
    ∙ ap (drop 40) (usable_bytes_at-IsLaid begin k file end h)
    ∙ drop_at (header_bytes k) k.«data» 40 refl

-- so it is the chunk at its place
pub chunk_at-laid : (begin : ℕ) (k : ChunkValue) (file : List ℕ) (end : ℕ) → IsLaid begin k (slice_range file begin end)
    → chunk_at file begin ≡ k
chunk_at-laid begin k file end h =
    let same : header_at file begin ≡ header_of k = header_at-laid begin k file end h in
    same_chunk (chunk_at file begin) k
    (ap (λ (v : HeaderValue). v.kind) same)
    (ap (λ (v : HeaderValue). v.num_records) same)
    (ap (λ (v : HeaderValue). v.decoded_size) same)
    (data_at-laid begin k file end h)

-- the data has the hash that the header says
pub data_hash-laid : (begin : ℕ) (k : ChunkValue) (file : List ℕ) (end : ℕ) → IsLaid begin k (slice_range file begin end)
    → (header_at file begin).data_hash ≡ riegeli_hash k.«data»
data_hash-laid begin k file end h = ap (λ (v : HeaderValue). v.data_hash) (header_at-laid begin k file end h)

-- and each block within has the header that the chunk gives it
pub headers-laid : (begin : ℕ) (k : ChunkValue) (file : List ℕ) (end : ℕ) → IsLaid begin k (slice_range file begin end)
    → HaveHeadersOf file begin (end_at file begin) begin (end_at file begin)
headers-laid begin k file end h =
    subst (λ (e : ℕ). HaveHeadersOf file begin e begin e) (sym (end_at-laid begin k file end h))
    (λ block is_block low high. headers-IsLaid begin k file end block h is_block low high)
