use Rattle.std.proofs.Common.{length, ap, arith}
use Rattle.simple_chunk.proofs.Parts.{length-parts_from}
use Rattle.simple_chunk.proofs.record_list.Records.range.Goals as goal

pub between-requires-clause-within : goal.between-requires-clause-within
between-requires-clause-within c =
    omega (arith, c.requires.within, ap length c.self.view_is, length-parts_from 0 c.self.inside.ends.items c.self.inside.values, ap length c.deref.ensures.value)
