use Rattle.std.proofs.Common.{◌≡◌, ◌+◌, ◌-◌, [], All, vec_len}
use Rattle.std.specs.Vec.{vec_capacity}
use Rattle.number_shares.specs.Machine.{empty_hand}
use Rattle.chunk_workers.specs.Seats.{ones}
use Rattle.chunk_workers.proofs.draws.Draws.new.Given as goal

abbrev pub invariant-loop : goal.invariant-loop
invariant-loop l = record {
  counted : vec_len l.seats + 1 ≡ l.counter;
  room : vec_capacity l.seats ≡ l.workers;
  seats : All (λ seat. (seat.table ≡ l.table.shared.table_id) × (seat.n ≡ l.n) × (seat.hand ≡ empty_hand)) l.seats.items;
  table : l.first.table_id ≡ l.table.shared.table_id;
  first : l.first.me ≡ (record { mine = []; past = []; weight = l.workers - vec_len l.seats; bounds = ones l.n }, []);
}
