use Rattle.std.proofs.Common.{◌≤◌, ◌-◌, ◌++◌, length, take}
use Rattle.record_io.specs.Buffers.{TakesAndHolds}
use Rattle.record_io.specs.Calls.{OnlyCounts}
use Rattle.show_command.specs.ShowProgress.{plain_lines}
use Rattle.show_command.proofs.plain_lines.put_plain.Given as goal

abbrev pub invariant-loop-number : goal.invariant-loop-number
invariant-loop-number g l = record {
  within : l.number ≤ length l.records;
  whole : TakesAndHolds (g.O.Sink.taken l.fn.out) (g.O.Sink.taken l.out) (l.fn.lines ++ plain_lines (take l.number l.records)) l.lines;
  counts : OnlyCounts g.O.Sink.lent g.O.Sink.faults ⊥ l.fn.out l.out;
}

abbrev pub decreases-loop-number : goal.decreases-loop-number
decreases-loop-number g l = length l.records - l.number
