use Rattle.std.proofs.Common.{drop}
use Rattle.record_ranges.specs.Stretches.{MeetUpTo}
use Rattle.record_ranges.proofs.meeting.meet.Given as goal

abbrev pub invariant-loop-stretch : goal.invariant-loop-stretch
invariant-loop-stretch g l = MeetUpTo l.size l.last l.end (drop l.stretch-index l.stretches) → MeetUpTo l.size 0 0 l.stretches
