use Rattle.chunk_workers.proofs.Sorted.{coded_in_order}
use Rattle.chunk_workers.proofs.laws.runs_are_in_order.Goals as goal

pub returns : goal.returns
returns c = coded_in_order
