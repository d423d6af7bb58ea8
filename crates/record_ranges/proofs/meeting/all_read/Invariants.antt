use Rattle.std.proofs.Common.{◌≡◌, ◌++◌, Ok, map}
use Rattle.std.specs.Vec.Iter.{into_iter_items}
use Rattle.record_ranges.proofs.meeting.all_read.Given as goal

abbrev pub invariant-loop-answer : goal.invariant-loop-answer
invariant-loop-answer g l = map (λ s. Ok s) l.all.items ++ into_iter_items l.answer-iterator ≡ l.fn.answers.items
