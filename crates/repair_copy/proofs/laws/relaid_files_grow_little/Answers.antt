use Rattle.std.proofs.Common.{arith}
use Rattle.meta_chunk.proofs.LaidChunks.{end_of_chunk_after}
use Rattle.repair_copy.proofs.Growth.{end_of_chunk_moved, place_moved, relaid_small}
use Rattle.repair_copy.proofs.laws.relaid_files_grow_little.Goals as goal

pub returns : goal.returns
returns c = record {
  chunk = λ begin place k. omega (arith, end_of_chunk_moved begin place k, end_of_chunk_after begin k, end_of_chunk_after place k);
  more = place_moved;
  file = relaid_small;
}
