use Rattle.std.proofs.Common.{length, ap, arith}
use Rattle.simple_chunk.proofs.CostLemmas.{cost_of-is}
use Rattle.simple_chunk.proofs.SimpleChunks.{IsHeaderOf-simple_chunk}
use Rattle.chunk_workers.proofs.coded_chunks.simple_header.Goals as goal

pub of_parts-requires-clause-few : goal.of_parts-requires-clause-few
of_parts-requires-clause-few c = omega (arith, cost_of-is c.args.group.now, c.len.ensures, c.requires.few)

pub returns : goal.returns
returns c =
    IsHeaderOf-simple_chunk c.args.group.now c.of_parts.result c.len.result (length c.values-values.result.now) c.args.front.now c.values-values.result.now
    (rw c.byte.ensures at c.of_parts.ensures) c.len.ensures (ap length c.values-values.ensures.value) c.requires.front c.values-values.ensures.value
