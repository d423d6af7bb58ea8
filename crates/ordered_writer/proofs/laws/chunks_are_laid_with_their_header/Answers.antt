use Rattle.std.proofs.Common.{refl}
use Rattle.ordered_writer.proofs.RightChunks.{laid_with-right}
use Rattle.ordered_writer.proofs.laws.chunks_are_laid_with_their_header.Goals as goal

pub returns : goal.returns
returns c = λ begin h k of. laid_with-right begin h k.«data» k of refl
