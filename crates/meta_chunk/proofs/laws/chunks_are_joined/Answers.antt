use Rattle.meta_chunk.proofs.Joins.{end_of_chunks-append, AreLaid-append, AreLaid-split, laid_each-append, length-laid_each}
use Rattle.meta_chunk.proofs.laws.chunks_are_joined.Goals as goal

pub returns : goal.returns
returns c = record {
  end = end_of_chunks-append;
  bytes = laid_each-append;
  size = length-laid_each;
  joined = AreLaid-append;
  parted = AreLaid-split;
}
