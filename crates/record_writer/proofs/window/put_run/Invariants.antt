use Rattle.std.proofs.Common.{take}
use Rattle.record_io.specs.Calls.{OnlyCounts}
use Rattle.chunk_workers.specs.Runs.{run_of}
use Rattle.record_writer.specs.MadeFiles.{Lays, chunks_of_groups}
use Rattle.record_writer.proofs.window.put_run.Given as goal

abbrev pub invariant-loop-i : goal.invariant-loop-i
invariant-loop-i g l = record {
  laid : Lays (g.M.Sink.taken l.fn.made) (g.M.Sink.taken l.made) l.fn.file l.file (chunks_of_groups (take l.i (run_of l.fn.step l.fn.groups.groups l.fn.number)));
  counts : OnlyCounts g.M.Sink.lent g.M.Sink.faults ⊥ l.fn.made l.made;
}
