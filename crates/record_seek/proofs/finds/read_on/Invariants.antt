use Rattle.std.proofs.Common.{◌-◌, ◌≤◌, IfSome}
use Rattle.record_io.specs.Calls.{OnlyAsks}
use Rattle.block_layout.specs.Layout.{IsBoundary}
use Rattle.record_seek.specs.KeyTests.{StandsBefore}
use Rattle.record_seek.specs.Steps.{AreReadTo}
use Rattle.record_seek.proofs.ReadCosts.{IsPaidRead}
use Rattle.record_seek.proofs.finds.read_on.Given as goal

abbrev pub invariant-loop-chunk : goal.invariant-loop-chunk
invariant-loop-chunk g l = record {
  boundary : IsBoundary l.place;
  within : l.place ≤ l.size;
  read : IfSome (g.S.Store.bytes l.fn.store) (λ file. AreReadTo (StandsBefore g.F.Fn l.test.test) file l.begin l.place);
  paid : IfSome (g.S.Store.bytes l.fn.store) (IsPaidRead (StandsBefore g.F.Fn l.test.test) l.begin l.place (g.S.Store.handed l.fn.store) (g.S.Store.handed l.store));
  asks : OnlyAsks g.S.Store.bytes g.S.Store.told g.S.Store.name g.S.Store.faults ⊥ l.fn.store l.store;
}

abbrev pub decreases-loop-chunk : goal.decreases-loop-chunk
decreases-loop-chunk g l = l.size - l.place
