use Rattle.std.proofs.Common.{◌≡◌, length}
use Rattle.record_writer.specs.FeedSteps.{left_of}
use Rattle.record_writer.proofs.records_feed.RecordsFeed.next_record.Given as goal

abbrev pub invariant-loop-first : goal.invariant-loop-first
invariant-loop-first l = left_of l.self.lists.now l.self.at ≡ left_of l.fn.self.lists.now l.fn.self.at

abbrev pub decreases-loop-first : goal.decreases-loop-first
decreases-loop-first l = length l.self.lists.now
