use Rattle.std.proofs.Common.{arith}
use Rattle.simple_chunk.proofs.CostLemmas.{cost_of-is}
use Rattle.record_group.proofs.grouper.Grouper.room_needed.Goals as goal

pub overflow_add-result : goal.overflow_add-result
overflow_add-result c = omega (arith, c.self.invariant.costs, cost_of-is c.self.inside.group)
