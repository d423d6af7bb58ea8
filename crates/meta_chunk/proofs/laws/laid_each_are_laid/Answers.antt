use Rattle.meta_chunk.proofs.LaidChunks.{AreLaid-laid_each}
use Rattle.meta_chunk.proofs.laws.laid_each_are_laid.Goals as goal

pub returns : goal.returns
returns c = record { are_laid = AreLaid-laid_each }
