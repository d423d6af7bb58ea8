use Rattle.std.proofs.Common.{◌-◌, ◌≤◌, IfSome}
use Rattle.record_io.specs.Calls.{OnlyAsks}
use Rattle.block_layout.specs.Layout.{IsBoundary}
use Rattle.record_seek.proofs.ReadingOn.{IsEmptyTo}
use Rattle.record_seek.proofs.finds.next_records.Given as goal

abbrev pub invariant-loop-place : goal.invariant-loop-place
invariant-loop-place g l = record {
  boundary : IsBoundary l.place;
  advanced : l.from ≤ l.place;
  within : l.place ≤ l.size;
  empty : IfSome (g.S.Store.bytes l.fn.store) (λ file. IsEmptyTo file l.from l.place (g.S.Store.handed l.fn.store) (g.S.Store.handed l.store));
  asks : OnlyAsks g.S.Store.bytes g.S.Store.told g.S.Store.name g.S.Store.faults ⊥ l.fn.store l.store;
}

abbrev pub decreases-loop-place : goal.decreases-loop-place
decreases-loop-place g l = l.size - l.place
