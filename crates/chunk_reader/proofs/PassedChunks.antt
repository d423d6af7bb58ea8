-- The chunk at a place is laid there where its header and data are right, and its blocks have their headers.
use Rattle.std.proofs.Common.{◌≡◌, ◌∙◌, ℕ, ◌+◌, ◌%◌, ◌^◌, ◌<◌, ◌≤◌, List, [], ◌∷◌, ◌++◌, length, take, drop, sym, ap, subst, inl, inr, arith}
use Rattle.std.specs.Prelude.{slice_range}
use Rattle.std.proofs.lemmas.Bool.{cases_lt}
use Rattle.std.proofs.lemmas.List.{take-append-drop, take-take, length-drop}
use Rattle.std.proofs.lemmas.List.Elements.{All-from_recursion, recursion_from_All, All-take, All-drop}
use Rattle.highway_hash.specs.Riegeli.{riegeli_hash, with_hash}
use Rattle.record_values.specs.Bytes.{AreBytes}
use Rattle.block_layout.specs.Layout.{usable_bytes, usable_bytes_at, end_of, chunk_end_of}
use Rattle.block_layout.proofs.UsableBytes.{usable_bytes-nil, usable_bytes-usable, usable_bytes-header, usable_bytes_at_whole}
use Rattle.block_layout.proofs.ChunkEnds.{chunk_end_of_past_bytes, chunk_end_of_room}
use Rattle.block_layout.proofs.Ends.{end_of_after}
use Rattle.chunk_header.specs.Chunks.{ChunkValue, HeaderValue, IsChunk, header_in, header_fields, header_bytes, chunk_bytes}
use Rattle.chunk_header.specs.declared.Header.{Header}
use Rattle.chunk_header.specs.Views.{IsHeader, bytes_of_header, value_of_header}
use Rattle.chunk_header.proofs.HeaderValues.{header_in-header}
use Rattle.meta_chunk.specs.Laid.{IsLaid, end_of_chunk}
use Rattle.meta_chunk.proofs.ChunkBytes.{IsLaid-from_usable_bytes}
use Rattle.chunk_reader.specs.Places.{header_bytes_at, header_at, end_at, data_at, chunk_at}
use Rattle.chunk_reader.specs.PlaceChecks.{HaveHeadersOf}
use Rattle.chunk_reader.proofs.LaidAt.{header_of}

-- the header at a place, of which the bytes are told
pub header_at-header : (file : List ℕ) (place : ℕ) (h : Header) → IsHeader h → header_bytes_at file place ≡ bytes_of_header h
    → header_at file place ≡ value_of_header h
header_at-header file place h sound same = ap header_in same ∙ header_in-header h sound

-- where the file has the whole chunk, it has all of the data
pub length-data_at : (file : List ℕ) (place size num_records : ℕ)
    → chunk_end_of place (40 + size) num_records ≤ length file
    → length (data_at file place size) ≡ size
length-data_at file place size num_records fits =
    let end : end_of place (40 + size) ≤ length file = omega (arith, chunk_end_of_past_bytes place (40 + size) num_records) in
    let whole : length (usable_bytes_at file place (40 + size)) ≡ 40 + size =
    (usable_bytes_at_whole file place (40 + size) (omega (arith, end_of_after place (40 + size)))).1 end in
    omega (arith, length-drop 40 (usable_bytes_at file place (40 + size)))

-- the usable bytes at a place are a header and data
usable_bytes_at-parts : (file : List ℕ) (place size : ℕ)
    → usable_bytes_at file place (40 + size) ≡ header_bytes_at file place ++ data_at file place size
usable_bytes_at-parts file place size =
    let own : List ℕ = usable_bytes_at file place (40 + size) in
    sym (take-append-drop 40 own)
    ∙ ap (λ (xs : List ℕ). xs ++ drop 40 own) (take-take 40 (40 + size) (usable_bytes place (drop place file)) (omega arith))

-- a file of bytes has bytes at a place
AreBytes-usable_bytes : (place : ℕ) (bytes : List ℕ) → AreBytes bytes → AreBytes (usable_bytes place bytes)
AreBytes-usable_bytes place [] h = subst AreBytes (sym (usable_bytes-nil place)) tt
AreBytes-usable_bytes place (b ∷ bytes) h =
    let rest : AreBytes (usable_bytes (place + 1) bytes) = AreBytes-usable_bytes (place + 1) bytes h.1 in
    elim (cases_lt (place % 65536) 24) [
      | inl header ↦ subst AreBytes (sym (usable_bytes-header place b bytes header)) rest
      | inr usable ↦ subst AreBytes (sym (usable_bytes-usable place b bytes usable)) (h.0, rest)
    ]

AreBytes-take : (n : ℕ) (bytes : List ℕ) → AreBytes bytes → AreBytes (take n bytes)
AreBytes-take n bytes h =
    recursion_from_All (λ b. b < 256) (take n bytes) (All-take (λ b. b < 256) n bytes (All-from_recursion (λ b. b < 256) bytes h))

AreBytes-drop : (n : ℕ) (bytes : List ℕ) → AreBytes bytes → AreBytes (drop n bytes)
AreBytes-drop n bytes h =
    recursion_from_All (λ b. b < 256) (drop n bytes) (All-drop (λ b. b < 256) n bytes (All-from_recursion (λ b. b < 256) bytes h))

pub AreBytes-usable_bytes_at : (file : List ℕ) (place size : ℕ) → AreBytes file → AreBytes (usable_bytes_at file place size)
AreBytes-usable_bytes_at file place size h =
    AreBytes-take size (usable_bytes place (drop place file)) (AreBytes-usable_bytes place (drop place file) (AreBytes-drop place file h))

pub AreBytes-data_at : (file : List ℕ) (place size : ℕ) → AreBytes file → AreBytes (data_at file place size)
AreBytes-data_at file place size h =
    AreBytes-drop 40 (usable_bytes_at file place (40 + size)) (AreBytes-usable_bytes_at file place (40 + size) h)

-- what is right of a chunk at a place: its header is one whose bytes are told, the file has the chunk, its data are bytes
-- with the hash that the header says, and its blocks have their headers
pub record IsRightAt (file : List ℕ) (place : ℕ) (h : Header) : Type 0 where
  pub sound : IsHeader h
  pub header : header_bytes_at file place ≡ bytes_of_header h
  pub whole : end_at file place ≤ length file
  pub bytes : AreBytes (chunk_at file place).«data»
  pub hash : riegeli_hash (chunk_at file place).«data» ≡ (header_at file place).data_hash
  pub blocks : HaveHeadersOf file place (end_at file place) place (end_at file place)

-- bytes of equal fields are equal
same_fields : (a b k n d a' b' k' n' d' : ℕ) → a ≡ a' → b ≡ b' → k ≡ k' → n ≡ n' → d ≡ d'
    → header_fields a b k n d ≡ header_fields a' b' k' n' d'
same_fields a b k n d a' b' k' n' d' pa pb pk pn pd =
    ap (λ (x : ℕ). header_fields x b k n d) pa
    ∙ ap (λ (x : ℕ). header_fields a' x k n d) pb
    ∙ ap (λ (x : ℕ). header_fields a' b' x n d) pk
    ∙ ap (λ (x : ℕ). header_fields a' b' k' x d) pn
    ∙ ap (λ (x : ℕ). header_fields a' b' k' n' x) pd

-- so the header that says a chunk's fields has the bytes of the chunk's header
header_bytes-same : (h : Header) (k : ChunkValue) → value_of_header h ≡ header_of k → bytes_of_header h ≡ header_bytes k
header_bytes-same h k same =
    ap with_hash (same_fields h.data_size h.data_hash h.kind h.num_records h.decoded_size
    (length k.«data») (riegeli_hash k.«data») k.kind k.num_records k.decoded_size
    (ap (λ (v : HeaderValue). v.data_size) same)
    (ap (λ (v : HeaderValue). v.data_hash) same)
    (ap (λ (v : HeaderValue). v.kind) same)
    (ap (λ (v : HeaderValue). v.num_records) same)
    (ap (λ (v : HeaderValue). v.decoded_size) same))

-- where the file has the whole chunk, its data is as long as its header says
pub length-data : (file : List ℕ) (place : ℕ) → end_at file place ≤ length file
    → length (chunk_at file place).«data» ≡ (header_at file place).data_size
length-data file place fits = length-data_at file place (header_at file place).data_size (header_at file place).num_records fits

-- and ends where the header says
pub end_of_chunk-at : (file : List ℕ) (place : ℕ) → end_at file place ≤ length file
    → end_of_chunk place (chunk_at file place) ≡ end_at file place
end_of_chunk-at file place fits =
    ap (λ (n : ℕ). chunk_end_of place (40 + n) (header_at file place).num_records) (length-data file place fits)

-- where the hash is the data's, the header says the chunk's fields
header_of-chunk_at : (file : List ℕ) (place : ℕ) → end_at file place ≤ length file
    → riegeli_hash (chunk_at file place).«data» ≡ (header_at file place).data_hash
    → header_at file place ≡ header_of (chunk_at file place)
header_of-chunk_at file place fits hash =
    let v : HeaderValue = header_at file place in
    ap (λ (x : ℕ). record { data_size = x; data_hash = v.data_hash; kind = v.kind; num_records = v.num_records; decoded_size = v.decoded_size })
    (sym (length-data file place fits))
    ∙ ap (λ (x : ℕ). record { data_size = length (chunk_at file place).«data»; data_hash = x; kind = v.kind; num_records = v.num_records; decoded_size = v.decoded_size })
    (sym hash)

-- the chunk of a header can be held
pub IsChunk-at : (file : List ℕ) (place : ℕ) (h : Header) → IsHeader h → header_bytes_at file place ≡ bytes_of_header h
    → end_at file place ≤ length file → AreBytes (chunk_at file place).«data»
    → IsChunk (chunk_at file place)
IsChunk-at file place h sound same fits bytes =
    let value : header_at file place ≡ value_of_header h = header_at-header file place h sound same in
    let kind : (header_at file place).kind ≡ h.kind = ap (λ (v : HeaderValue). v.kind) value in
    let records : (header_at file place).num_records ≡ h.num_records = ap (λ (v : HeaderValue). v.num_records) value in
    let decoded : (header_at file place).decoded_size ≡ h.decoded_size = ap (λ (v : HeaderValue). v.decoded_size) value in
    let size : (header_at file place).data_size ≡ h.data_size = ap (λ (v : HeaderValue). v.data_size) value in
    record {
      kind = subst (λ (n : ℕ). n < 256) (sym kind) sound.kind;
      num_records = subst (λ (n : ℕ). n < 2 ^ 56) (sym records) h.few_records;
      decoded_size = subst (λ (n : ℕ). n < 2 ^ 64) (sym decoded) sound.decoded_size;
      size = subst (λ (n : ℕ). n < 2 ^ 64) (sym (length-data file place fits ∙ size)) sound.data_size;
      bytes = bytes;
    }

-- such a chunk is laid at its place
pub IsLaid-right : (file : List ℕ) (place : ℕ) (h : Header) → IsRightAt file place h
    → IsLaid place (chunk_at file place) (slice_range file place (end_at file place))
IsLaid-right file place h right =
    let k : ChunkValue = chunk_at file place in
    let size : length k.«data» ≡ (header_at file place).data_size = length-data file place right.whole in
    let end : end_of_chunk place k ≡ end_at file place = end_of_chunk-at file place right.whole in
    let value : value_of_header h ≡ header_of k =
    sym (header_at-header file place h right.sound right.header) ∙ header_of-chunk_at file place right.whole right.hash in
    let own : usable_bytes_at file place (40 + length k.«data») ≡ chunk_bytes k =
    ap (λ (n : ℕ). usable_bytes_at file place (40 + n)) size
    ∙ usable_bytes_at-parts file place (header_at file place).data_size
    ∙ ap (λ (xs : List ℕ). xs ++ k.«data») (right.header ∙ header_bytes-same h k value) in
    subst (λ (e : ℕ). IsLaid place k (slice_range file place e)) end
    (IsLaid-from_usable_bytes place k file
    (IsChunk-at file place h right.sound right.header right.whole right.bytes)
    (subst (λ (e : ℕ). e ≤ length file) (sym end) right.whole)
    own
    (subst (λ (e : ℕ). HaveHeadersOf file place e place e) (sym end) right.blocks))

-- its end is behind its header
pub end_at_after : (file : List ℕ) (place : ℕ) → place + 40 ≤ end_at file place
end_at_after file place =
    omega (arith, chunk_end_of_room place (40 + (header_at file place).data_size) (header_at file place).num_records)
