use Rattle.std.proofs.Common.{◌≡◌, None, replicate, vec_len}
use Rattle.std.specs.Vec.{vec_capacity}
use Rattle.ordered_writer.proofs.reorder.Reorder.new.Given as goal

abbrev pub invariant-loop : goal.invariant-loop
invariant-loop g l = record {
  slots : l.slots.items ≡ replicate l.counter None;
  counted : vec_len l.slots ≡ l.counter;
  room : vec_capacity l.slots ≡ l.room;
}
