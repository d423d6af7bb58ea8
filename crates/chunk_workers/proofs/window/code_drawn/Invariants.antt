use Rattle.std.proofs.Common.{◌≡◌, ◌-◌}
use Rattle.chunk_workers.specs.Coded.{AreCoded}
use Rattle.chunk_workers.specs.Runs.{groups_of_runs}
use Rattle.chunk_workers.specs.Seats.{BelongsTo, numbers_at}
use Rattle.chunk_workers.proofs.Rising.{bound_of}
use Rattle.chunk_workers.proofs.window.code_drawn.Given as goal

abbrev pub invariant-loop-number : goal.invariant-loop-number
invariant-loop-number g l = record {
  belongs : BelongsTo l.draws l.seat;
  numbers : l.numbers.items ≡ numbers_at l.seat.hand.mine;
  coded : AreCoded (g.C.Coder.chunk_of l.coder) (groups_of_runs l.step l.groups.groups l.numbers.items) l.chunks;
}

abbrev pub decreases-loop-number : goal.decreases-loop-number
decreases-loop-number g l = l.draws.n - bound_of (numbers_at l.seat.hand.mine)
