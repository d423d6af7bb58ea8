use Rattle.std.proofs.Common.{length, ◌-◌, ◌≡◌, ◌≤◌, [], ◌++◌}
use Rattle.record_io.specs.Buffers.{TakesAndHolds}
use Rattle.record_io.specs.Calls.{OnlyCounts}
use Rattle.ordered_writer.specs.Layings.{laid_between}
use Rattle.ordered_writer.proofs.laying.Laying.finish.Given as goal

abbrev pub invariant-loop-self : goal.invariant-loop-self
invariant-loop-self g l = record {
  begin : l.self.begin ≡ l.fn.self.begin;
  end : l.self.end ≡ l.fn.self.end;
  after : l.fn.self.place ≤ l.self.place;
  taken : TakesAndHolds (g.M.Sink.taken l.fn.sink) (g.M.Sink.taken l.sink)
      (l.fn.buffer ++ laid_between l.fn.self.begin l.fn.self.end l.fn.self.place l.self.place []) l.buffer;
  fits : length l.fn.buffer ≤ g.row.N → length l.buffer ≤ g.row.N;
  counts : OnlyCounts g.M.Sink.lent g.M.Sink.faults ⊥ l.fn.sink l.sink;
}

abbrev pub decreases-loop-self : goal.decreases-loop-self
decreases-loop-self g l = l.self.end - l.self.place
