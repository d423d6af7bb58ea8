use Rattle.std.proofs.Common.{◌+◌, ◌-◌, ◌*◌, ◌/◌, ◌<◌, ◌≤◌, IfSome}
use Rattle.record_io.specs.Calls.{OnlyAsks}
use Rattle.record_seek.specs.KeyTests.{StandsBefore}
use Rattle.record_seek.specs.Steps.{IsLook}
use Rattle.record_seek.proofs.Finding.{BeginsBefore}
use Rattle.record_seek.proofs.Halves.{IsHalved}
use Rattle.record_seek.proofs.finds.find.Given as goal

abbrev pub invariant-loop-high : goal.invariant-loop-high
invariant-loop-high g l = record {
  ordered : l.low ≤ l.high;
  within : l.high ≤ (l.size + 65535) / 65536;
  below : 0 < l.low → l.low * 65536 < l.size;
  begins : IfSome (g.S.Store.bytes l.fn.store) (BeginsBefore (StandsBefore g.F.Fn l.test.test) l.low);
  halved : IfSome (g.S.Store.bytes l.fn.store) (IsHalved (StandsBefore g.F.Fn l.test.test) l.size l.low l.high (g.S.Store.handed l.fn.store) (g.S.Store.handed l.store));
  below_look : IfSome l.below (λ look. IfSome (g.S.Store.bytes l.fn.store) (IsLook (StandsBefore g.F.Fn l.test.test) look));
  above_look : IfSome l.above (λ look. IfSome (g.S.Store.bytes l.fn.store) (IsLook (StandsBefore g.F.Fn l.test.test) look));
  asks : OnlyAsks g.S.Store.bytes g.S.Store.told g.S.Store.name g.S.Store.faults ⊥ l.fn.store l.store;
}

abbrev pub decreases-loop-high : goal.decreases-loop-high
decreases-loop-high g l = l.high - l.low
