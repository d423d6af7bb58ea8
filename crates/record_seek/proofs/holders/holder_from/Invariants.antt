use Rattle.std.proofs.Common.{◌-◌, ◌≤◌, IfSome}
use Rattle.record_io.specs.Calls.{OnlyAsks}
use Rattle.block_layout.specs.Layout.{IsBoundary}
use Rattle.record_seek.proofs.Ways.{IsWayFrom, IsPaid}
use Rattle.record_seek.proofs.holders.holder_from.Given as goal

abbrev pub invariant-loop-passed : goal.invariant-loop-passed
invariant-loop-passed g l = record {
  boundary : IsBoundary l.place;
  before : l.place ≤ l.at;
  way : IfSome (g.S.Store.bytes l.fn.store) (IsWayFrom l.at l.begin l.place);
  paid : IfSome (g.S.Store.bytes l.fn.store) (IsPaid l.at l.begin l.place (g.S.Store.handed l.fn.store) (g.S.Store.handed l.store));
  asks : OnlyAsks g.S.Store.bytes g.S.Store.told g.S.Store.name g.S.Store.faults ⊥ l.fn.store l.store;
}

abbrev pub decreases-loop-passed : goal.decreases-loop-passed
decreases-loop-passed g l = l.size - l.place
