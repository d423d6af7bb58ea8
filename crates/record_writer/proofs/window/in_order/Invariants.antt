use Rattle.std.proofs.Common.{◌≡◌}
use Rattle.std.specs.Vec.Iter.{into_iter_items}
use Rattle.ordered_writer.specs.Reorders.{CanHoldEach, reordering_from, room_of, with_each}
use Rattle.record_writer.proofs.window.in_order.Given as goal

abbrev pub invariant-loop-number : goal.invariant-loop-number
invariant-loop-number l = record {
  wanted : l.order.wanted ≡ 0;
  room : room_of l.order ≡ l.count;
  can_hold : CanHoldEach l.order (into_iter_items l.number-iterator);
  held : with_each l.order (into_iter_items l.number-iterator) ≡ with_each (reordering_from 0 l.count) l.fn.places.items;
}
