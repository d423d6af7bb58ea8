-- Inside. What is made of the headers of the blocks within a chunk while its data is read. Own.
use Rattle.std.specs.Prelude.{ℕ, ◌+◌, ◌-◌, ◌*◌, ◌<◌, ◌≤◌, List, [], max}
use Rattle.block_layout.specs.Layout.{block_header_size, chunk_header_size, IsBlock, blocks_below, end_of}

-- the blocks from a place up to another may be judged: the judge fits the file, and they are among those that it judges
pub record MayJudge (Fits : Type 0) (begin end from to : ℕ) : Type 0 where
  pub fits : Fits
  pub begun : begin ≤ from
  pub ordered : from ≤ to
  pub within : to ≤ end

-- P holds of each block from a place up to another
abbrev pub EachBlock : (ℕ → Type 0) → (from to : ℕ) → Type 0
EachBlock P from to = (block : ℕ) → IsBlock block → from ≤ block → block < to → P block

-- of the blocks from a place up to another this is the first that isn't accepted, of which this is told
pub record IsFirstRefused (Accepts : ℕ → Type 0) (Tells : ℕ → ℕ → Type 0) (from to block told : ℕ) : Type 0 where
  pub is_block : IsBlock block
  pub from_place : from ≤ block
  pub below : block < to
  pub tells : Tells block told
  pub before : EachBlock Accepts from block

-- reading from a place up to another stopped at the first block that isn't accepted, and took nothing behind its header
abbrev pub StopsAtBlock : (ℕ → Type 0) → (ℕ → ℕ → Type 0) → (from to told taken : ℕ) → Type 0
StopsAtBlock Accepts Tells from to told taken =
    (block : ℕ) × IsFirstRefused Accepts Tells from to block told × (from + taken ≤ block + block_header_size)

-- reading of a chunk from its header on stopped so, and took nothing behind that but in the chunk's header
abbrev pub StopsAtBlockInChunk : (ℕ → Type 0) → (ℕ → ℕ → Type 0) → (begin end told taken : ℕ) → Type 0
StopsAtBlockInChunk Accepts Tells begin end told taken =
    (block : ℕ) × IsFirstRefused Accepts Tells begin end block told
    × (begin + chunk_header_size + taken ≤ max (end_of begin chunk_header_size) (block + block_header_size))

-- so many bytes are taken of the headers of the blocks from a place up to another, and of none behind one that isn't accepted
pub record JudgesUpTo (Accepts : ℕ → Type 0) (from to taken : ℕ) : Type 0 where
  pub up_to : ℕ
  pub within : up_to ≤ to
  pub accepted : EachBlock Accepts from (up_to - 1)
  pub few : taken ≤ block_header_size * (blocks_below up_to - blocks_below from)

-- what takes data has taken none of so much
pub record IsUnfed (has_taken : List ℕ → Type 0) (has_left : ℕ → Type 0) (size : ℕ) : Type 0 where
  pub none : has_taken []
  pub all_left : has_left size
