use Rattle.std.proofs.Common.{◌≡◌, ◌+◌, All, vec_len}
use Rattle.std.specs.Vec.Iter.{into_iter_items, into_iter_len}
use Rattle.number_shares.specs.Machine.{empty_hand}
use Rattle.chunk_workers.specs.Runs.{CanDraw}
use Rattle.chunk_workers.specs.Seats.{BelongsTo}
use Rattle.chunk_workers.proofs.workers.with_memory.Given as goal

abbrev pub invariant-loop-seat : goal.invariant-loop-seat
invariant-loop-seat l = record {
  rest : All (λ seat. BelongsTo l.draws seat × (seat.hand ≡ empty_hand)) (into_iter_items l.seat-iterator);
  len : vec_len l.ready + into_iter_len l.seat-iterator ≡ vec_len l.fn.seats;
  each : All (λ w. CanDraw l.draws w.seat w.runs) l.ready.items;
}
