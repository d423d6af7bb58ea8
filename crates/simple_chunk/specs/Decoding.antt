-- Inside. How the records of a simple chunk are read. Own.
use Rattle.std.specs.Prelude.{◌≡◌, ◌↔◌, ℕ, Result, Err, List, length, IsOkUnless}
use Rattle.varint_wire.specs.Varint.{SpellsEach}
use Rattle.chunk_header.specs.Chunks.{ChunkValue}
use Rattle.chunk_header.specs.SimpleChunks.{IsSimpleChunk, IsCompressed}
use Rattle.simple_chunk.specs.Records.{AreHeldEnds, sizes_between}
use Rattle.simple_chunk.specs.declared.decoding.SimpleFault.{SimpleFault}
use Rattle.simple_chunk.specs.declared.decoding.SimpleFault.TheVariants.{Compressed, Contents, Memory}

-- a chunk is refused as compressed exactly where it is, as bad only where it is neither that nor one of some records, and where
-- it is one of some records only for want of memory
pub record JudgesSimple {X : Type 0} (k : ChunkValue) (result : Result X SimpleFault) : Type 0 where
  pub compressed : (result ≡ Err Compressed) ↔ IsCompressed k
  pub contents : result ≡ Err Contents → (¬ IsCompressed k) × (¬ IsSimpleChunk k)
  pub accepted : IsSimpleChunk k → IsOkUnless result Memory

-- records of so many bytes together end at these places, as many as are wanted, and these bytes are spellings of their sizes
pub record AreEndsOf (count whole : ℕ) (bytes places : List ℕ) : Type 0 where
  pub ends : AreHeldEnds places whole
  pub counted : length places ≡ count
  pub spelled : SpellsEach (sizes_between 0 places) bytes
