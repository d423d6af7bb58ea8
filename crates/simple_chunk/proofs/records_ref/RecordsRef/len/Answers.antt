use Rattle.std.proofs.Common.{sym}
use Rattle.simple_chunk.proofs.Parts.{length-parts_from}
use Rattle.simple_chunk.proofs.records_ref.RecordsRef.len.Goals as goal

pub returns : goal.returns
returns c = rw (← c.self.view_is) (sym (length-parts_from c.self.inside.begin c.self.inside.ends.now c.self.inside.values.now))
