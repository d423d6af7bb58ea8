use Rattle.std.proofs.Common.{arith}
use Rattle.varint_wire.proofs.Spellings.{length-shortest}
use Rattle.simple_chunk.proofs.encoding.front_len.Goals as goal

pub overflow_add-result : goal.overflow_add-result
overflow_add-result c = omega (arith, length-shortest c.args.sizes_len)

pub overflow_add-result-2 : goal.overflow_add-result-2
overflow_add-result-2 c = omega (arith, length-shortest c.args.sizes_len)
