use Rattle.std.proofs.Common.{◌≡◌, ◌+◌, ◌-◌, ◌^◌, ◌≤◌, false, length}
use Rattle.record_io.specs.Calls.{OnlyCounts}
use Rattle.simple_chunk.specs.Records.{parts_from}
use Rattle.record_group.specs.Groupings.{groups_from}
use Rattle.record_writer.specs.MadeFiles.{reach_of}
use Rattle.riegeli_c.specs.Writes.{AreCuts, records_cut}
use Rattle.riegeli_c.proofs.ClosedGroups.{AreClosed}
use Rattle.riegeli_c.proofs.laying.lay_closed.Given as goal

abbrev pub invariant-loop-end : goal.invariant-loop-end
invariant-loop-end g l = record {
  closed : AreClosed (g.M.Sink.taken l.fn.made) (g.M.Sink.taken l.made) l.fn.writer l.writer
      (groups_from l.fn.grouper (records_cut l.fn.values l.fn.ends)) l.grouper (parts_from l.begin l.rest l.fn.values);
  going : l.writer.spent ≡ false;
  cuts : AreCuts l.begin l.rest (length l.fn.values);
  within : l.begin ≤ length l.fn.values;
  in_reach : reach_of l.writer.position l.grouper (length l.fn.values - l.begin + length l.rest) ≤ 2 ^ 61;
  counts : OnlyCounts g.M.Sink.lent g.M.Sink.faults ⊥ l.fn.made l.made;
}

abbrev pub decreases-loop-end : goal.decreases-loop-end
decreases-loop-end g l = length l.rest
