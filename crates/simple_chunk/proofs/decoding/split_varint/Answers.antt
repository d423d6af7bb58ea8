use Rattle.std.proofs.Common.{arith}
use Rattle.simple_chunk.proofs.SizeLemmas.{IsSplit-small}
use Rattle.simple_chunk.proofs.decoding.split_varint.Goals as goal

pub returns-clause-found : goal.returns-clause-found
returns-clause-found c =
    IsSplit-small c.from.result c.in-Some.rest.now c.args.bytes.now (omega arith) (rw c.from.ensures c.in-Some.ensures.cases.0)
