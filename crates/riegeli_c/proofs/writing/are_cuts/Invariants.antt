use Rattle.std.proofs.Common.{length}
use Rattle.riegeli_c.specs.Writes.{AreCuts}
use Rattle.riegeli_c.proofs.writing.are_cuts.Given as goal

abbrev pub invariant-loop-end : goal.invariant-loop-end
invariant-loop-end l = record {
  left : AreCuts 0 l.fn.ends l.size → AreCuts l.begin l.rest l.size;
  all : AreCuts l.begin l.rest l.size → AreCuts 0 l.fn.ends l.size;
}

abbrev pub decreases-loop-end : goal.decreases-loop-end
decreases-loop-end l = length l.rest
