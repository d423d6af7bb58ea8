use Rattle.std.proofs.Common.{◌≡◌, vec_len}
use Rattle.std.specs.Vec.{vec_capacity}
use Rattle.record_ranges.proofs.reading.unanswered.Given as goal

abbrev pub invariant-loop : goal.invariant-loop
invariant-loop g l = record {
  counted : vec_len l.answers ≡ l.counter;
  room : vec_capacity l.answers ≡ l.count;
}
