use Rattle.std.proofs.Common.{◌≡◌, ◌+◌, ◌*◌, ◌^◌, ◌≤◌, length, take}
use Rattle.record_io.specs.Calls.{OnlyCounts}
use Rattle.chunk_workers.specs.Runs.{run_count}
use Rattle.ordered_writer.specs.Reorders.{coming, count_held, room_of}
use Rattle.record_writer.specs.EncodedWindows.{ArePlaces}
use Rattle.record_writer.specs.MadeFiles.{Lays, chunks_of_groups}
use Rattle.record_writer.proofs.window.put_runs.Given as goal

abbrev pub invariant-loop-place : goal.invariant-loop-place
invariant-loop-place g l = record {
  laid : Lays (g.M.Sink.taken l.fn.made) (g.M.Sink.taken l.made) l.fn.file l.file (chunks_of_groups (take (l.order.wanted * l.fn.step) l.fn.groups.groups));
  places : ArePlaces l.fn.step l.fn.groups.groups l.fn.runs l.order.wanted (coming l.order);
  all : l.order.wanted + length (coming l.order) ≡ run_count l.fn.step (length l.fn.groups.groups);
  some_room : 1 ≤ room_of l.order;
  in_reach : l.order.wanted + count_held l.order + room_of l.order ≤ 2 ^ 40;
  counts : OnlyCounts g.M.Sink.lent g.M.Sink.faults ⊥ l.fn.made l.made;
}

abbrev pub decreases-loop-place : goal.decreases-loop-place
decreases-loop-place g l = count_held l.order
