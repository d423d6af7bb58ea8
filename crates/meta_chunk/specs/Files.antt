-- Promise. Files of chunks, and what is counted over them. Source: the Riegeli/records file format specification, "File
-- format", "File signature" and "Chunk types". Own: which chunks are plain and which are unread, the limit on their
-- data, and the counts.
use Rattle.std.specs.Prelude.{◌≡◌, ◌≢◌, ℕ, ◌+◌, ◌^◌, ◌<◌, ◌≤◌, ◌⊎◌, Bool, not, ◌&&◌, ◌||◌, List, [], ◌∷◌, ◌++◌, length, take, slice_index, ◌==◌, count_by, if◌then◌else◌}
use Rattle.std.specs.List.{AllByRecursion, flat_map, enumerate_from, sum_by}
use Rattle.record_values.specs.declared.file_totals.Totals.{Totals}
use Rattle.chunk_header.specs.Chunks.{ChunkValue}
use Rattle.chunk_header.specs.Kinds.{signature_kind, simple_kind, transposed_kind}
use Rattle.chunk_header.specs.SimpleChunks.{IsSimple, IsSimpleChunk, IsCompressed}
use Rattle.meta_chunk.specs.Kinds.{IsSignature, IsMetadata, IsPadding}
use Rattle.meta_chunk.specs.Laid.{IsLaid, laid, end_of_chunk}

-- the signature chunk
abbrev pub signature : ChunkValue
signature = record { kind = signature_kind; num_records = 0; decoded_size = 0; «data» = [] }

-- the bytes that a file begins with
abbrev pub signature_bytes : List ℕ
signature_bytes = laid 0 signature

-- how many bytes of data a chunk may have that is read
abbrev pub max_data_size : ℕ
max_data_size = 2 ^ 26

-- a chunk that is read: a simple chunk of records, or a signature, metadata or padding chunk that keeps its rule
abbrev pub IsPlain : ChunkValue → Type 0
IsPlain k = (length k.«data» ≤ max_data_size) × (IsSimpleChunk k ⊎ IsSignature k ⊎ IsMetadata k ⊎ IsPadding k)

-- a transposed chunk
abbrev pub IsTransposed : ChunkValue → Type 0
IsTransposed k = k.kind ≡ transposed_kind

-- a chunk that is left unread: its bytes are read and hashed, but not what is packed in them
abbrev pub IsUnread : ChunkValue → Type 0
IsUnread k = (length k.«data» ≤ max_data_size) × (IsTransposed k ⊎ IsCompressed k)

-- a chunk that is read or left unread
abbrev pub IsWellFormedChunk : ChunkValue → Type 0
IsWellFormedChunk k = IsPlain k ⊎ IsUnread k

-- the bytes are those of the chunks, each laid where the one before ends
abbrev pub AreLaid : ℕ → List ChunkValue → List ℕ → Type 0
AreLaid begin [] bytes = bytes ≡ []
AreLaid begin (k ∷ ks) bytes =
    (front rest : List ℕ) × (bytes ≡ front ++ rest) × IsLaid begin k front × AreLaid (begin + length front) ks rest

-- nothing, or a signature first
abbrev pub BeginsSigned : List ChunkValue → Type 0
BeginsSigned [] = Unit {0}
BeginsSigned (k ∷ ks) = k ≡ signature

-- the file's bytes below the place are those chunks, the signature first, each of which meets P
pub record IsChainOf (P : ChunkValue → Type 0) (ks : List ChunkValue) (file : List ℕ) (place : ℕ) : Type 0 where
  pub signed : BeginsSigned ks
  pub each : AllByRecursion P ks
  pub within : place ≤ length file
  pub laid : AreLaid 0 ks (take place file)

-- the whole file is those chunks, each of which meets P
abbrev pub IsFileOf : (ChunkValue → Type 0) → List ChunkValue → List ℕ → Type 0
IsFileOf P ks file = (ks ≢ []) × IsChainOf P ks file (length file)

-- the file is readable: plain chunks alone
abbrev pub IsReadable : List ChunkValue → List ℕ → Type 0
IsReadable = IsFileOf IsPlain

-- the file is well formed: plain and unread chunks
abbrev pub IsWellFormed : List ChunkValue → List ℕ → Type 0
IsWellFormed = IsFileOf IsWellFormedChunk

-- the records that a chunk holds: a simple chunk its own, and every other chunk none
abbrev pub Holds : ChunkValue → List (List ℕ) → Type 0
Holds k records = IsSimple k records ⊎ ((¬ IsSimpleChunk k) × (records ≡ []))

-- the lists of records that chunks hold, chunk by chunk
abbrev pub HoldEach : List ChunkValue → List (List (List ℕ)) → Type 0
HoldEach [] lists = lists ≡ []
HoldEach (k ∷ ks) [] = ⊥
HoldEach (k ∷ ks) (records ∷ lists) = Holds k records × HoldEach ks lists

-- the records of chunks: those that the chunks hold, joined
abbrev pub AreRecordsOf : List ChunkValue → List (List ℕ) → Type 0
AreRecordsOf ks records = (lists : List (List (List ℕ))) × HoldEach ks lists × (records ≡ flat_map (λ held. held) lists)

-- where chunks end that are laid one after another from a place on
abbrev pub end_of_chunks : ℕ → List ChunkValue → ℕ
end_of_chunks place [] = place
end_of_chunks place (k ∷ ks) = end_of_chunks (end_of_chunk place k) ks

-- where chunk j of a file begins; for j past the last chunk, where that one ends
abbrev pub begin_of : List ChunkValue → ℕ → ℕ
begin_of ks j = end_of_chunks 0 (take j ks)

-- the position lies between the begin and the end of the chunk of this number
pub record LiesIn (ks : List ChunkValue) (position i : ℕ) : Type 0 where
  pub number : i < length ks
  pub begins : begin_of ks i ≤ position
  pub ends : position < begin_of ks (i + 1)

-- the records of chunks that begin at a place, each with its position: its chunk's begin, and its number in the chunk
abbrev pub placed_from : ℕ → List ChunkValue → List (List (List ℕ)) → List (ℕ × List ℕ)
placed_from place [] lists = []
placed_from place (k ∷ ks) [] = []
placed_from place (k ∷ ks) (records ∷ lists) = enumerate_from place records ++ placed_from (end_of_chunk place k) ks lists

-- the records of a file's chunks, each with its position
abbrev pub ArePlaced : List ChunkValue → List (ℕ × List ℕ) → Type 0
ArePlaced ks placed = (lists : List (List (List ℕ))) × HoldEach ks lists × (placed ≡ placed_from 0 ks lists)

-- the bytes of chunks laid one after another from a place on, with zero padding
unfoldable pub laid_each : ℕ → List ChunkValue → List ℕ
laid_each place [] = []
laid_each place (k ∷ ks) = laid place k ++ laid_each (end_of_chunk place k) ks

-- whether a chunk that is read or left unread is left unread
abbrev pub is_unread : ChunkValue → Bool
is_unread k = (k.kind == transposed_kind) || ((k.kind == simple_kind) && not (slice_index k.«data» 0 == 0))

-- the totals of such chunks from the front of a file: the chunks, the records that can be read, the bytes, and the
-- chunks that are left unread
abbrev pub totals_of : List ChunkValue → Totals
totals_of ks = record {
  chunks = length ks;
  records = sum_by (λ k. if is_unread k then 0 else k.num_records) ks;
  bytes = end_of_chunks 0 ks;
  unread = count_by is_unread ks;
}
