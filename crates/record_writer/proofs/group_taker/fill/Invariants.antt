use Rattle.std.proofs.Common.{◌≡◌, true}
use Rattle.record_writer.proofs.Taking.{TakesSome}
use Rattle.record_writer.proofs.group_taker.fill.Given as goal

abbrev pub invariant-loop-feed : goal.invariant-loop-feed
invariant-loop-feed g l = record {
  taken : TakesSome g.L.RecordFeed.rest g.L.RecordFeed.bound g.L.RecordFeed.origin g.L.RecordFeed.faults l.fn.feed l.feed
      l.fn.buffer.grouping l.buffer.grouping l.buffer.closed;
  feed_going : g.L.RecordFeed.going l.feed ≡ true;
}

abbrev pub decreases-loop-feed : goal.decreases-loop-feed
decreases-loop-feed g l = g.L.RecordFeed.bound l.feed
