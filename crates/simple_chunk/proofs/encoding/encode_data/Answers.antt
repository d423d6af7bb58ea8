use Rattle.std.proofs.Common.{arith, ap, length}
use Rattle.varint_wire.proofs.Spellings.{length-shortest}
use Rattle.simple_chunk.proofs.CostLemmas.{cost_of-is}
use Rattle.simple_chunk.proofs.encoding.encode_data.Goals as goal

pub overflow_add-front_len : goal.overflow_add-front_len
overflow_add-front_len c =
    omega (
      arith,
      c.sizes_len-sizes_len.ensures.few,
      length-shortest c.sizes_len-sizes_len.result,
      cost_of-is c.args.records.now,
      ap length c.values-values.ensures.value,
    )
