use Rattle.meta_chunk.proofs.LaidChunks.{IsLaid-laid}
use Rattle.meta_chunk.proofs.laws.laid_is_laid.Goals as goal

pub returns : goal.returns
returns c = record { is_laid = IsLaid-laid }
