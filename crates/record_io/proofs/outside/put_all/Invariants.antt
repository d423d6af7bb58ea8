use Rattle.std.proofs.Common.{length, ◌-◌, ◌≤◌, take}
use Rattle.record_io.specs.Outside.{Takes}
use Rattle.record_io.specs.Calls.{OnlyCounts}
use Rattle.record_io.proofs.outside.put_all.Given as goal

abbrev pub invariant-loop-at : goal.invariant-loop-at
invariant-loop-at g l = record {
  within : l.at ≤ length l.piece;
  taken : Takes (g.M.Sink.taken l.fn.sink) (g.M.Sink.taken l.sink) (take l.at l.piece);
  counts : OnlyCounts g.M.Sink.lent g.M.Sink.faults ⊥ l.fn.sink l.sink;
}

abbrev pub decreases-loop-at : goal.decreases-loop-at
decreases-loop-at g l = length l.piece - l.at
