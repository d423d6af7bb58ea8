use Rattle.std.proofs.Common.{arith}
use Rattle.simple_chunk.proofs.GroupLists.{length-groups}
use Rattle.simple_chunk.proofs.record_groups.RecordGroups.len.Goals as goal

pub returns-clause-count : goal.returns-clause-count
returns-clause-count c = omega (arith, c.len.ensures, length-groups c.self.inside.cuts.items c.self.inside.records c.args.self.now c.self.view_is)
