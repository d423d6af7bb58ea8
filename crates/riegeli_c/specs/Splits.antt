-- Promise. Where a file is split, to be read by many. Own.
use Rattle.std.specs.Prelude.{◌≡◌, ℕ, ◌<◌, ◌≤◌, ◌⊎◌, List, length}
use Rattle.chunk_header.specs.Chunks.{ChunkValue}
use Rattle.meta_chunk.specs.Files.{begin_of}
use Rattle.chunk_reader.specs.Holders.{IsHolder}
use Rattle.chunk_reader.specs.Places.{end_at}

-- where a file is split at a position: there, if the chunk that holds it begins there, and else where that chunk ends
abbrev pub IsSplit : List ℕ → (position place : ℕ) → Type 0
IsSplit file position place =
    (IsHolder file position position × (place ≡ position))
    ⊎ ((holder : ℕ) × IsHolder file position holder × (holder < position) × (place ≡ end_at file holder))

-- of the chunks of a file this is where the first begins that does so at or past a position, or where the last one ends
pub record IsFirstBegin (ks : List ChunkValue) (position place : ℕ) : Type 0 where
  pub number : ℕ
  pub within : number ≤ length ks
  pub begin : place ≡ begin_of ks number
  pub past : number < length ks → position ≤ place
  pub first : (i : ℕ) → i < length ks → position ≤ begin_of ks i → number ≤ i
