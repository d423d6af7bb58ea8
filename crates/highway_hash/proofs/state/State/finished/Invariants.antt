use Rattle.std.proofs.Common.{◌≡◌}
use Rattle.highway_hash.proofs.Rounds.{after_rounds}
use Rattle.highway_hash.proofs.state.State.finished.Given as goal

abbrev pub invariant-loop-round : goal.invariant-loop-round
invariant-loop-round g l = l.self ≡ after_rounds l.initial.self l._round
