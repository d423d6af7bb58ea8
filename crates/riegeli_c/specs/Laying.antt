-- Inside. Chunks that are laid by way of a writer and a sink. Own.
use Rattle.std.specs.Prelude.{◌≡◌, ℕ, Option, Result, List, OnOk}
use Rattle.record_io.specs.Outside.{Takes, TakesShort}
use Rattle.record_io.specs.Calls.{OnlyCounts}
use Rattle.chunk_header.specs.Chunks.{ChunkValue}
use Rattle.meta_chunk.specs.Files.{end_of_chunks, laid_each}
use Rattle.ordered_writer.specs.Writers.{Writer, writer_at}

-- a sink took the bytes of chunks from where a writer was on, which goes on behind them
pub record AreLaidBy (before after : Option (List ℕ)) (old new : Writer) (ks : List ChunkValue) : Type 0 where
  pub bytes : Takes before after (laid_each old.position ks)
  pub moved : new ≡ writer_at (end_of_chunks old.position ks)

-- a call lays chunks; where the sink fails, it takes a front of their bytes and not all, and is the cause
pub record LaysBy {M K X E : Type 0} (taken : M → Option (List ℕ)) (lent : M → K) (faults : M → ℕ) (Fails : Type 0)
    (result : Result X E) (old new : Writer) (ks : List ChunkValue) (before after : M) : Type 0 where
  pub whole : OnOk result (AreLaidBy (taken before) (taken after) old new ks)
  pub short : Fails → TakesShort (taken before) (taken after) (laid_each old.position ks)
  pub counts : OnlyCounts lent faults Fails before after
