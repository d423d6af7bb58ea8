use Rattle.std.proofs.Common.{◌++◌, take}
use Rattle.std.specs.List.{enumerate_from}
use Rattle.record_io.specs.Buffers.{TakesAndHolds}
use Rattle.record_io.specs.Calls.{OnlyCounts}
use Rattle.show_command.specs.ShowProgress.{record_lines}
use Rattle.show_command.proofs.record_lines.put_records.Given as goal

abbrev pub invariant-loop-number : goal.invariant-loop-number
invariant-loop-number g l = record {
  whole : TakesAndHolds (g.O.Sink.taken l.fn.out) (g.O.Sink.taken l.out)
      (l.fn.lines ++ record_lines l.form (take l.number (enumerate_from l.begin l.records))) l.lines;
  counts : OnlyCounts g.O.Sink.lent g.O.Sink.faults ⊥ l.fn.out l.out;
}
