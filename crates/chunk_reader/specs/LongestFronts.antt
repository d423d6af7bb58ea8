-- Inside. How far a file is well formed. Own.
use Rattle.std.specs.Prelude.{◌≡◌, ℕ, true, MatchOption, List}
use Rattle.chunk_header.specs.Chunks.{ChunkValue}
use Rattle.meta_chunk.specs.Files.{totals_of, IsWellFormed}
use Rattle.chunk_reader.specs.Faults.{IsAllowed, IsFault, IsLongest}
use Rattle.chunk_reader.specs.declared.verifying.Front.{Front}

-- of a file these are the totals of its longest front of well-formed chunks, unread ones too, and its fault, or none where the
-- whole file is those chunks
pub record IsFrontOf (file : List ℕ) (front : Front) : Type 0 where
  pub ks : List ChunkValue
  pub longest : IsLongest (IsAllowed true) ks file front.totals.bytes
  pub totals : front.totals ≡ totals_of ks
  pub fault : MatchOption front.fault (IsWellFormed ks file) (IsFault true file)
