-- Inside. What is known of a file's size, and of a chunk's place in it, before it is read. Own.
use Rattle.std.specs.Prelude.{◌≡◌, ℕ, ◌^◌, ◌<◌, ◌≤◌, Option, IsSomeAnd}
use Rattle.record_io.specs.Calls.{HasSize}
use Rattle.block_layout.specs.Layout.{IsBlock, IsBoundary}
use Rattle.chunk_header.specs.Chunks.{HeaderValue}
use Rattle.chunk_reader.specs.Places.{end_by}

-- a file has a size, and a place of it is one where a chunk may begin
pub record MayBeginAt (told : Option ℕ) (size place : ℕ) : Type 0 where
  pub sized : HasSize told size
  pub from_boundary : IsBoundary place
  pub below : place < size

-- a file has a size, and a block of it is at this place
pub record HasBlock (told : Option ℕ) (size block : ℕ) : Type 0 where
  pub sized : HasSize told size
  pub at_block : IsBlock block
  pub below : block < size

-- a file was told to have what is, by this header, a chunk from a begin to an end, within the limit of files
pub record HasSpan (told : Option ℕ) (begin end : ℕ) (header : HeaderValue) : Type 0 where
  pub within : IsSomeAnd told (λ size. end ≤ size)
  pub in_reach : end ≤ 2 ^ 60
  pub from_boundary : IsBoundary begin
  pub is_end : end ≡ end_by begin header
