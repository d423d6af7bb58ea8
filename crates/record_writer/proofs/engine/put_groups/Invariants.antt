use Rattle.std.proofs.Common.{ℕ, ◌++◌, List}
use Rattle.record_io.specs.Calls.{OnlyCounts}
use Rattle.record_writer.specs.MadeFiles.{Lays, chunks_of_groups}
use Rattle.record_writer.specs.Windows.{StandInOrder, TakesGroups}
use Rattle.record_writer.proofs.Windows.{to_take}
use Rattle.record_writer.proofs.engine.put_groups.Given as goal

abbrev pub invariant-loop-part : goal.invariant-loop-part
invariant-loop-part g l = record {
  laid : (given : List (List (List ℕ)))
      × Lays (g.M.Sink.taken l.fn.made) (g.M.Sink.taken l.made) l.fn.file l.file (chunks_of_groups given)
      × TakesGroups g.L.RecordFeed.rest g.L.RecordFeed.bound g.L.RecordFeed.going g.L.RecordFeed.origin g.L.RecordFeed.faults
      l.fn.feed l.feed l.fn.pipeline.coming.taker l.pipeline.coming.taker
      (given ++ (l.pipeline.next.groups ++ l.pipeline.coming.taken.groups)) l.part;
  windows : StandInOrder l.pipeline.next l.pipeline.coming.free;
  made : OnlyCounts g.M.Sink.lent g.M.Sink.faults ⊥ l.fn.made l.made;
}

abbrev pub decreases-loop-part : goal.decreases-loop-part
decreases-loop-part g l = to_take l.part (g.L.RecordFeed.bound l.feed)
