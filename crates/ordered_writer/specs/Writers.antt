-- Inside. Chunks that are written one after another, with zero padding. Own.
use Rattle.std.specs.Prelude.{◌≡◌, ℕ, ◌≤◌, Bool, true, false, Result, List, ◌++◌, OnOk, OnErr}
use Rattle.block_layout.specs.Layout.{IsBoundary}
use Rattle.chunk_header.specs.declared.Chunk.{Chunk}
use Rattle.chunk_header.specs.declared.Header.{Header}
use Rattle.chunk_header.specs.Views.{bytes_of_header, value_of}
use Rattle.meta_chunk.specs.Laid.{laid_bytes, end_of_chunk}

-- a writer: where its next chunk begins, and whether a call of it failed
pub record Writer : Type 0 where
  pub position : ℕ
  pub spent : Bool

-- the writer that goes on at a position, and the one that failed in a call that began there
abbrev pub writer_at : ℕ → Writer
writer_at position = record { position = position; spent = false }

abbrev pub spent_writer_at : ℕ → Writer
spent_writer_at position = record { position = position; spent = true }

-- no call of a writer failed, and where it goes on to lies within a limit
pub record MayReach (writer : Writer) (end most : ℕ) : Type 0 where
  pub unspent : writer.spent ≡ false
  pub in_reach : end ≤ most

-- a boundary that lies within a limit
pub record IsBoundaryWithin (place most : ℕ) : Type 0 where
  pub boundary : IsBoundary place
  pub in_reach : place ≤ most

-- a writer goes on at this end after a call, and is spent where the call failed
pub record GoesOnTo {X E : Type 0} (result : Result X E) (end : ℕ) (before after : Writer) : Type 0 where
  pub moved : OnOk result (after ≡ writer_at end)
  pub spent : OnErr result (after ≡ spent_writer_at before.position)

-- the bytes of a chunk of this data from its begin to its end, with zero padding and with a header, whose hash of the data may
-- be another than the data's
abbrev pub laid_with : ℕ → Header → List ℕ → List ℕ
laid_with begin h bytes = laid_bytes begin (end_of_chunk begin (value_of h bytes)) (bytes_of_header h ++ bytes)

-- those of a chunk of the program
abbrev pub laid_as : ℕ → Chunk → List ℕ
laid_as begin c = laid_with begin c.header c.bytes
