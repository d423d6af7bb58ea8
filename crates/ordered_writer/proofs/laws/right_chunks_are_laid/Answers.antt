use Rattle.ordered_writer.proofs.RightChunks.{laid_as-right, laid_each-behind}
use Rattle.ordered_writer.proofs.laws.right_chunks_are_laid.Goals as goal

pub returns : goal.returns
returns c = record { laid = laid_as-right; behind = laid_each-behind }
