use Rattle.std.proofs.Common.{◌≡◌, ◌+◌, ◌++◌, length, vec_len}
use Rattle.std.specs.Vec.{vec_capacity}
use Rattle.std.specs.Vec.Iter.{into_iter_items}
use Rattle.record_collect.specs.Orders.{lists_in}
use Rattle.record_collect.proofs.placed.lists_alone.Given as goal

abbrev pub invariant-loop-e : goal.invariant-loop-e
invariant-loop-e l = record {
  lists : l.lists.items ≡ lists_in l.yielded;
  rest : l.yielded ++ into_iter_items l.e-iterator ≡ into_iter_items l.initial.e-iterator;
  room : vec_len l.lists + length (into_iter_items l.e-iterator) ≡ vec_capacity l.lists;
}
