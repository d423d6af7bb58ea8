use Rattle.std.proofs.Common.{length}
use Rattle.record_collect.proofs.slots.+slots.Given as goal

abbrev pub decreases-join_mut+arg2 : goal.decreases-join_mut+arg2
decreases-join_mut+arg2 g l = length l.front.now

abbrev pub decreases-join_mut+arg3 : goal.decreases-join_mut+arg3
decreases-join_mut+arg3 g l = length l.back.now

abbrev pub decreases-feed_slots : goal.decreases-feed_slots
decreases-feed_slots g l = length l.stores.now
