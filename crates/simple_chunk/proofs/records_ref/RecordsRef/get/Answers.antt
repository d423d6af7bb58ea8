use Rattle.std.proofs.Common.{length, ap, arith}
use Rattle.simple_chunk.proofs.Parts.{length-parts_from}
use Rattle.simple_chunk.proofs.records_ref.RecordsRef.get.Goals as goal

pub record_at-requires-clause-within : goal.record_at-requires-clause-within
record_at-requires-clause-within c =
    omega (arith, c.requires, ap length c.self.view_is, length-parts_from c.self.inside.begin c.self.inside.ends.now c.self.inside.values.now)
