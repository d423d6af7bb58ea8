use Rattle.std.proofs.Common.{arith}
use Rattle.simple_chunk.proofs.Parts.{length-parts_from}
use Rattle.simple_chunk.proofs.record_list.Records.len.Goals as goal

pub returns : goal.returns
returns c = rw (← c.self.view_is) (omega (arith, length-parts_from))
