use Rattle.std.proofs.Common.{◌≡◌, length, take}
use Rattle.record_collect.specs.Batches.{numbers_in}
use Rattle.record_collect.specs.Orders.{places_of, records_in}
use Rattle.record_collect.proofs.placed.spans_of.Given as goal

abbrev pub invariant-loop-e : goal.invariant-loop-e
invariant-loop-e l = record {
  numbers : numbers_in l.spans.items ≡ places_of l.pass 0 (take l.e-index l.all);
  first : l.first ≡ length (records_in (take l.e-index l.all));
}
