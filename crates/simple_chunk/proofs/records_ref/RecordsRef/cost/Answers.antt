use Rattle.std.proofs.Common.{length, ap, arith}
use Rattle.simple_chunk.proofs.CostLemmas.{cost_of-is}
use Rattle.simple_chunk.proofs.Parts.{length-parts_from}
use Rattle.simple_chunk.proofs.records_ref.RecordsRef.cost.Goals as goal

pub returns : goal.returns
returns c =
    omega (
      arith,
      cost_of-is c.args.self.now,
      ap length c.values.ensures.value,
      ap length c.self.view_is,
      length-parts_from c.self.inside.begin c.self.inside.ends.now c.self.inside.values.now,
    )
