use Rattle.chunk_workers.specs.Seats.{BelongsTo}
use Rattle.layer_tests.proofs.draws.draw_to_the_end.Given as goal

abbrev pub invariant-loop : goal.invariant-loop
invariant-loop l = BelongsTo l.draws l.seat
