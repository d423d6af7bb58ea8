use Rattle.std.proofs.Common.{length, ◌-◌, ◌≡◌, ◌≤◌, ◌++◌}
use Rattle.block_layout.specs.Layout.{end_of}
use Rattle.record_io.specs.Buffers.{TakesAndHolds}
use Rattle.record_io.specs.Calls.{OnlyCounts}
use Rattle.ordered_writer.specs.Layings.{laid_between}
use Rattle.ordered_writer.proofs.laying.Laying.put.Given as goal

abbrev pub invariant-loop-at : goal.invariant-loop-at
invariant-loop-at g l = record {
  within : l.at ≤ length l.bytes;
  place : l.self.place ≡ end_of l.fn.self.place l.at;
  begin : l.self.begin ≡ l.fn.self.begin;
  end : l.self.end ≡ l.fn.self.end;
  taken : TakesAndHolds (g.M.Sink.taken l.fn.sink) (g.M.Sink.taken l.sink)
      (l.fn.buffer ++ laid_between l.fn.self.begin l.fn.self.end l.fn.self.place l.self.place l.bytes) l.buffer;
  fits : length l.fn.buffer ≤ g.row.N → length l.buffer ≤ g.row.N;
  counts : OnlyCounts g.M.Sink.lent g.M.Sink.faults ⊥ l.fn.sink l.sink;
}

abbrev pub decreases-loop-at : goal.decreases-loop-at
decreases-loop-at g l = length l.bytes - l.at
