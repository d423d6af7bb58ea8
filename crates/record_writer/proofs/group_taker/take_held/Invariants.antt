use Rattle.std.proofs.Common.{◌≡◌, ℕ, ◌≤◌, []}
use Rattle.record_writer.specs.FeedSteps.{ReadsNothing}
use Rattle.record_writer.specs.MadeFiles.{AreGiven, reach_of}
use Rattle.record_writer.proofs.group_taker.take_held.Given as goal

abbrev pub invariant-loop : goal.invariant-loop
invariant-loop g l = record {
  given : AreGiven (g.L.RecordFeed.rest l.fn.feed) (g.L.RecordFeed.rest l.feed) l.fn.buffer.grouping l.buffer.grouping [];
  closed : l.buffer.closed ≡ l.fn.buffer.closed;
  lowers : g.L.RecordFeed.bound l.feed ≤ g.L.RecordFeed.bound l.fn.feed;
  in_reach : (place : ℕ) → reach_of place l.buffer.grouping (g.L.RecordFeed.bound l.feed) ≤ reach_of place l.fn.buffer.grouping (g.L.RecordFeed.bound l.fn.feed);
  keeps : ReadsNothing g.L.RecordFeed.going g.L.RecordFeed.origin g.L.RecordFeed.faults l.fn.feed l.feed;
}

abbrev pub decreases-loop : goal.decreases-loop
decreases-loop g l = g.L.RecordFeed.bound l.feed
