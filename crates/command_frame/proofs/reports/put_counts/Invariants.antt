use Rattle.std.proofs.Common.{map, take}
use Rattle.std.specs.List.{concat}
use Rattle.record_io.specs.Buffers.{TakesAndHolds}
use Rattle.record_io.specs.Calls.{OnlyCounts}
use Rattle.command_frame.specs.FileAnswers.{count_line}
use Rattle.command_frame.proofs.reports.put_counts.Given as goal

abbrev pub invariant-loop-count : goal.invariant-loop-count
invariant-loop-count g l = record {
  whole : TakesAndHolds (g.O.Sink.taken l.fn.out) (g.O.Sink.taken l.out)
      (concat (take l.count-index (map (λ count. count_line count.0.now count.1) l.counts))) l.lines;
  counts : OnlyCounts g.O.Sink.lent g.O.Sink.faults ⊥ l.fn.out l.out;
}
