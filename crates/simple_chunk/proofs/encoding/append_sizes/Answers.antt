use Rattle.std.proofs.Common.{arith, length, ap, ◌∙◌, ℕ}
use Rattle.std.proofs.lemmas.List.{length-append}
use Rattle.simple_chunk.proofs.Sizes.{length-sizes_of-drop, sizes_of-written}
use Rattle.simple_chunk.proofs.encoding.append_sizes.Goals as goal

pub append_varint-requires : goal.append_varint-requires
append_varint-requires c =
    omega (arith, length-sizes_of-drop c.args.records.now c.loop-i.i c.get.result.now c.get.ensures, ap length c.loop-i.invariant.items, length-append {A = ℕ})

pub loop-i-preserved : goal.loop-i-preserved
loop-i-preserved c = record {
  items = rw c.append_varint.ensures.items (sizes_of-written c.loop-i.out.items c.args.records.now c.loop-i.i c.get.result.now c.get.ensures ∙ c.loop-i.invariant.items);
  room = omega arith;
}
