use Rattle.std.proofs.Common.{◌≡◌, ◌++◌, map}
use Rattle.std.specs.Vec.Iter.{into_iter_items}
use Rattle.record_collect.specs.Orders.{place_in}
use Rattle.record_collect.proofs.placed.place_all.Given as goal

abbrev pub invariant-loop-e : goal.invariant-loop-e
invariant-loop-e l = record {
  items : l.all.items ≡ l.initial.all.items ++ map (place_in l.pass) l.yielded;
  rest : l.yielded ++ into_iter_items l.e-iterator ≡ into_iter_items l.initial.e-iterator;
}
