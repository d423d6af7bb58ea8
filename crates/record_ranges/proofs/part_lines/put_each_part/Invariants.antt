use Rattle.std.proofs.Common.{◌++◌, take}
use Rattle.record_io.specs.Buffers.{TakesAndHolds}
use Rattle.record_io.specs.Calls.{OnlyCounts}
use Rattle.record_ranges.specs.RangesEnds.{all_texts}
use Rattle.record_ranges.proofs.part_lines.put_each_part.Given as goal

abbrev pub invariant-loop-number : goal.invariant-loop-number
invariant-loop-number g l = record {
  whole : TakesAndHolds (g.O.Sink.taken l.fn.out) (g.O.Sink.taken l.out) (l.fn.lines ++ all_texts (take l.number l.parts)) l.lines;
  counts : OnlyCounts g.O.Sink.lent g.O.Sink.faults ⊥ l.fn.out l.out;
}
