-- Inside. Room for usable bytes at a place of a file, and the block headers of a chunk there. Own.
use Rattle.std.specs.Prelude.{ℕ, ◌^◌, ◌<◌, ◌≤◌, Option, IsSomeAnd, List}
use Rattle.block_layout.specs.Layout.{IsBlock, end_of}
use Rattle.chunk_reader.specs.Places.{HasHeaderOf}

-- a size was told up to which so many usable bytes from a place have room, within the limit of files
abbrev pub HasUsableBytes : Option ℕ → ℕ → ℕ → Type 0
HasUsableBytes told place count = IsSomeAnd told (λ size. (end_of place count ≤ 2 ^ 60) × (end_of place count ≤ size))

-- each block from a place up to another has the header that it has in a chunk from a begin to an end
abbrev pub HaveHeadersOf : List ℕ → ℕ → ℕ → ℕ → ℕ → Type 0
HaveHeadersOf file begin end from to =
    (block : ℕ) → IsBlock block → from ≤ block → block < to → HasHeaderOf file begin end block

-- of the blocks from a place up to another, this is the first that has another header
pub record IsFirstWrong (file : List ℕ) (begin end from to block : ℕ) : Type 0 where
  pub is_block : IsBlock block
  pub from_place : from ≤ block
  pub below : block < to
  pub differs : ¬ HasHeaderOf file begin end block
  pub first : HaveHeadersOf file begin end from block
