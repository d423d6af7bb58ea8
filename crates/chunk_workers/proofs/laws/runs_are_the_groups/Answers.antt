use Rattle.chunk_workers.proofs.RunLists.{runs-all}
use Rattle.chunk_workers.proofs.laws.runs_are_the_groups.Goals as goal

pub returns : goal.returns
returns c = λ step groups some. runs-all step groups some
