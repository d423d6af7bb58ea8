-- Promise. Which record a search finds, told from a file's chunks and records alone. Own.
use Rattle.std.specs.Prelude.{◌≡◌, ℕ, ◌-◌, ◌<◌, ◌≤◌, ◌⊎◌, Option, Some, None, List, [], length, slice_get}
use Rattle.chunk_header.specs.Chunks.{ChunkValue}
use Rattle.meta_chunk.specs.Files.{begin_of}
use Rattle.chunk_reader.specs.PositionSearches.{HasRecordFrom}

-- the chunk of this number has a record at or past a position
pub record MayAnswer (ks : List ChunkValue) (position j : ℕ) (k : ChunkValue) : Type 0 where
  pub stands : slice_get ks j ≡ Some k
  pub has : HasRecordFrom position (begin_of ks j) k.num_records

-- the chunk of this number is the first that has
pub record IsAnswering (ks : List ChunkValue) (position j : ℕ) (k : ChunkValue) : Type 0 where
  pub may : MayAnswer ks position j k
  pub first : (i : ℕ) (other : ChunkValue) → MayAnswer ks position i other → j ≤ i

-- the number of that chunk, or where there is none of all chunks
abbrev pub IsAnsweringNumber : List ChunkValue → (position j : ℕ) → Type 0
IsAnsweringNumber ks position j =
    ((k : ChunkValue) × IsAnswering ks position j k)
    ⊎ ((j ≡ length ks) × ((i : ℕ) (k : ChunkValue) → ¬ MayAnswer ks position i k))

-- what a search by key may find among records, of which some stand before what is looked for: one that doesn't, and that is
-- the first record or has one that does right before it; or nothing, where there is no record or the last one does
abbrev pub IsKeyFound : {R : Type 0} → (Before : R → Type 0) → List R → Option R → Type 0
IsKeyFound {R} Before records (Some found) =
    (¬ Before found)
    × ((i : ℕ) × (slice_get records i ≡ Some found)
    × ((i ≡ 0) ⊎ ((last : R) × (slice_get records (i - 1) ≡ Some last) × Before last)))
IsKeyFound {R} Before records None =
    (records ≡ []) ⊎ ((last : R) × (slice_get records (length records - 1) ≡ Some last) × Before last)

-- of records with their positions, those stand before whose bytes do
abbrev pub BytesStandBefore : (Before : List ℕ → Type 0) → ℕ × List ℕ → Type 0
BytesStandBefore Before placed = Before placed.1

-- so many records at the front stand before, and no other does
pub record OnlyFrontStandsBefore {R : Type 0} (Before : R → Type 0) (records : List R) (count : ℕ) : Type 0 where
  pub front : (i : ℕ) (r : R) → slice_get records i ≡ Some r → i < count → Before r
  pub others : (i : ℕ) (r : R) → slice_get records i ≡ Some r → count ≤ i → ¬ Before r
