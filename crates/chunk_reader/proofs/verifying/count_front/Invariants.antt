use Rattle.std.proofs.Common.{◌+◌, ◌-◌, ◌≤◌, true, IfSome}
use Rattle.record_io.specs.Calls.{OnlyAsks}
use Rattle.chunk_reader.specs.Progress.{AreInBounds, AreReadFrom}
use Rattle.chunk_reader.proofs.verifying.count_front.Given as goal

abbrev pub invariant-loop-totals : goal.invariant-loop-totals
invariant-loop-totals g l = record {
  bounds : AreInBounds l.fn.size l.totals;
  signed : 64 ≤ l.totals.bytes;
  read : IfSome (g.S.Store.bytes l.fn.store) (λ file. AreReadFrom true file l.totals);
  handed : g.S.Store.handed l.store ≤ g.S.Store.handed l.fn.store + l.totals.bytes;
  asks : OnlyAsks g.S.Store.bytes g.S.Store.told g.S.Store.name g.S.Store.faults ⊥ l.fn.store l.store;
}

abbrev pub decreases-loop-totals : goal.decreases-loop-totals
decreases-loop-totals g l = l.size - l.totals.bytes
