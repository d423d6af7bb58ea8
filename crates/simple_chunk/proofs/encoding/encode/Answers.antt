use Rattle.std.proofs.Common.{◌∙◌, arith, ap, length}
use Rattle.simple_chunk.proofs.CostLemmas.{cost_of-is}
use Rattle.simple_chunk.proofs.SimpleChunks.{simple_chunk-made, IsSimple-cost}
use Rattle.simple_chunk.proofs.encoding.encode.Goals as goal

pub new-requires : goal.new-requires
new-requires c = omega (arith, cost_of-is c.args.records.now)

pub returns-clause-made : goal.returns-clause-made
returns-clause-made c = record {
  value =
      simple_chunk-made c.args.records.now _ _ _ _ (rw c.byte.ensures at c.new.ensures.value) c.len.ensures (ap length c.values.ensures.value) (c.from.ensures ∙ rw c.as_ref.ensures at c.in_ok-data.ensures);
  right = c.new.ensures.right;
  sound = c.new.ensures.sound;
}

pub returns-clause-holds : goal.returns-clause-holds
returns-clause-holds c =
    rw (simple_chunk-made c.args.records.now _ _ _ _ (rw c.byte.ensures at c.new.ensures.value) c.len.ensures (ap length c.values.ensures.value) (c.from.ensures ∙ rw c.as_ref.ensures at c.in_ok-data.ensures))
    (IsSimple-cost c.args.records.now c.requires)
