-- Promise. What damage leaves of a file, told from the undamaged file alone. Own.
use Rattle.std.specs.Prelude.{◌≡◌, ◌≢◌, ℕ, ◌+◌, ◌<◌, ◌≤◌, ◌⊎◌, ◌↔◌, Bool, true, false, ◌&&◌, if◌then◌else◌, max, Some, None, List, [], ◌∷◌, length, slice_get, slice_range}
use Rattle.std.specs.List.{filter_map}
use Rattle.highway_hash.specs.Riegeli.{riegeli_hash}
use Rattle.block_layout.specs.Layout.{block_header_size, IsBlock}
use Rattle.block_layout.specs.BlockHeaders.{IsRightBlockHeader}
use Rattle.chunk_header.specs.Chunks.{ChunkValue, IsRightChunkHeader}
use Rattle.chunk_header.specs.SimpleChunks.{IsCompressed}
use Rattle.meta_chunk.specs.Files.{IsTransposed, IsWellFormed, begin_of, LiesIn}
use Rattle.chunk_reader.specs.Places.{header_bytes_at, data_at}
use Rattle.chunk_reader.specs.declared.reasons.Why.TheVariants as why
use Rattle.damage_skip.specs.Pieces.{PieceKind, Skipped, Piece, IsFoundAs}

-- what is intact of a file's chunks, by their numbers, and of its block headers, by their blocks
pub record Intact : Type 0 where
  pub header : ℕ → Bool
  pub «data» : ℕ → Bool
  pub block : ℕ → Bool

-- a file of chunks that are read or left unread, and another of the same length in which so much of it is intact. Where a
-- header, the data behind an intact header or a block header has changed, its hash shows that. Padding is free
pub record IsDamaged (ks : List ChunkValue) (file damaged : List ℕ) (intact : Intact) : Type 0 where
  pub well_formed : IsWellFormed ks file
  pub same_length : length damaged ≡ length file
  pub header : (j : ℕ) → j < length ks
      → (intact.header j ≡ true) ↔ (header_bytes_at damaged (begin_of ks j) ≡ header_bytes_at file (begin_of ks j))
  pub «data» : (j : ℕ) (k : ChunkValue) → slice_get ks j ≡ Some k
      → (intact.«data» j ≡ true) ↔ (data_at damaged (begin_of ks j) (length k.«data») ≡ k.«data»)
  pub block : (b : ℕ) → IsBlock b → b < length file
      → (intact.block b ≡ true) ↔ (slice_range damaged b (b + block_header_size) ≡ slice_range file b (b + block_header_size))
  pub header_shows : (j : ℕ) → j < length ks → intact.header j ≡ false
      → ¬ IsRightChunkHeader (header_bytes_at damaged (begin_of ks j))
  pub data_shows : (j : ℕ) (k : ChunkValue) → slice_get ks j ≡ Some k → intact.header j ≡ true → intact.«data» j ≡ false
      → riegeli_hash (data_at damaged (begin_of ks j) (length k.«data»)) ≢ riegeli_hash k.«data»
  pub block_shows : (b : ℕ) → IsBlock b → b < length file → intact.block b ≡ false
      → ¬ IsRightBlockHeader (slice_range damaged b (b + block_header_size))

-- a block from a chunk's begin on, below the file's end, whose header is intact
pub record IsIntactFrom (ks : List ChunkValue) (intact : Intact) (j b : ℕ) : Type 0 where
  pub is_block : IsBlock b
  pub from : begin_of ks j ≤ b
  pub below : b < begin_of ks (length ks)
  pub is_intact : intact.block b ≡ true

-- the first of these blocks
pub record IsFirstIntactFrom (ks : List ChunkValue) (intact : Intact) (j b : ℕ) : Type 0 where
  pub here : IsIntactFrom ks intact j b
  pub first : (c : ℕ) → IsIntactFrom ks intact j c → b ≤ c

-- which chunk is reached after chunk j: the one behind it where its header is intact; else the one that contains the first
-- block from its begin on whose header is intact, if that one is behind it; and none where there is no such block
abbrev pub IsNext : List ChunkValue → Intact → (j next : ℕ) → Type 0
IsNext ks intact j next =
    ((intact.header j ≡ true) × (next ≡ j + 1))
    ⊎ ((intact.header j ≡ false)
    × (((b i : ℕ) × IsFirstIntactFrom ks intact j b × LiesIn ks b i × (next ≡ max i (j + 1)))
    ⊎ (((b : ℕ) → ¬ IsIntactFrom ks intact j b) × (next ≡ length ks))))

-- the chunks that are reached from chunk j on, before one that is reached behind them, or before the end
abbrev pub AreReached : List ChunkValue → Intact → (j to : ℕ) → List ℕ → Type 0
AreReached ks intact j to [] = j ≡ to
AreReached ks intact j to (i ∷ is) =
    (i ≡ j) × (j < length ks) × ((next : ℕ) × IsNext ks intact j next × AreReached ks intact next to is)

-- what damage leaves of a chunk that is reached
abbrev pub DamageLeaves : (unread_ok header «data» : Bool) → ChunkValue → PieceKind → Type 0
DamageLeaves unread_ok false «data» k what = what ≡ Skipped why.HeaderHash
DamageLeaves unread_ok true false k what = what ≡ Skipped why.DataHash
DamageLeaves true true true k what = IsFoundAs true k what
DamageLeaves false true true k what =
    IsFoundAs false k what
    ⊎ (IsCompressed k × (what ≡ Skipped why.Compressed))
    ⊎ (IsTransposed k × (what ≡ Skipped why.Transposed))

-- the pieces that it leaves of a file from chunk j on, before one that is reached behind it or before the end: one for each
-- chunk that is reached, up to the next one
abbrev pub DamageLeavesEach : Bool → List ChunkValue → Intact → (j to : ℕ) → List Piece → Type 0
DamageLeavesEach unread_ok ks intact j to [] = j ≡ to
DamageLeavesEach unread_ok ks intact j to (piece ∷ pieces) =
    (k : ChunkValue) × (next : ℕ) × (slice_get ks j ≡ Some k) × IsNext ks intact j next
    × (piece.begin ≡ begin_of ks j) × (piece.end ≡ begin_of ks next)
    × DamageLeaves unread_ok (intact.header j) (intact.«data» j) k piece.what
    × DamageLeavesEach unread_ok ks intact next to pieces

-- of the chunks of these numbers those whose header and data are intact
abbrev pub untouched : List ChunkValue → Intact → List ℕ → List ChunkValue
untouched ks intact numbers =
    filter_map (λ j. if intact.header j && intact.«data» j then slice_get ks j else None) numbers

-- a chunk that isn't among those reached before one is behind a broken header, and ends at or before each block from that one's
-- begin on whose header is intact
abbrev pub AreLostUpToABlock : List ChunkValue → Intact → (to : ℕ) → List ℕ → Type 0
AreLostUpToABlock ks intact to numbers =
    (lost : ℕ) → lost < to → ((i : ℕ) → slice_get numbers i ≢ Some lost)
    → (j : ℕ) × (j < lost) × (intact.header j ≡ false)
    × ((b : ℕ) → IsIntactFrom ks intact j b → begin_of ks (lost + 1) ≤ b)
