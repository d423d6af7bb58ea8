use Rattle.chunk_workers.proofs.Ones.{drawn_after_run}
use Rattle.chunk_workers.proofs.laws.runs_draw_each_once.Goals as goal

pub returns : goal.returns
returns c = drawn_after_run
