use Rattle.std.proofs.Common.{arith}
use Rattle.chunk_header.proofs.SimpleChunks.{length-sizes_of}
use Rattle.simple_chunk.proofs.CostLemmas.{cost_of-is}
use Rattle.simple_chunk.proofs.Sizes.{length-sizes_of-drop}
use Rattle.simple_chunk.proofs.encoding.sizes_len.Goals as goal

pub overflow_add-len : goal.overflow_add-len
overflow_add-len c =
    omega (arith, length-sizes_of-drop c.args.records.now c.loop-i.i c.get.result.now c.get.ensures, length-sizes_of c.args.records.now, cost_of-is c.args.records.now)

pub loop-i-preserved : goal.loop-i-preserved
loop-i-preserved c = omega (arith, length-sizes_of-drop c.args.records.now c.loop-i.i c.get.result.now c.get.ensures)

pub returns-clause-few : goal.returns-clause-few
returns-clause-few c = omega (arith, c.loop-i.invariant, length-sizes_of c.args.records.now, cost_of-is c.args.records.now)
