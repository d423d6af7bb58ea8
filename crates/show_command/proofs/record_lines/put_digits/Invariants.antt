use Rattle.std.proofs.Common.{◌≤◌, ◌-◌, ◌++◌, length, take}
use Rattle.hex.specs.Hex.{encode_lower}
use Rattle.record_io.specs.Buffers.{TakesAndHolds}
use Rattle.record_io.specs.Calls.{OnlyCounts}
use Rattle.show_command.proofs.record_lines.put_digits.Given as goal

abbrev pub invariant-loop-at : goal.invariant-loop-at
invariant-loop-at g l = record {
  within : l.at ≤ length l.bytes;
  whole : TakesAndHolds (g.O.Sink.taken l.fn.out) (g.O.Sink.taken l.out) (l.fn.lines ++ encode_lower (take l.at l.bytes)) l.lines;
  counts : OnlyCounts g.O.Sink.lent g.O.Sink.faults ⊥ l.fn.out l.out;
}

abbrev pub decreases-loop-at : goal.decreases-loop-at
decreases-loop-at g l = length l.bytes - l.at
