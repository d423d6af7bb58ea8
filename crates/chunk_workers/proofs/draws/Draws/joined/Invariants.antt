use Rattle.std.proofs.Common.{◌≡◌, ◌+◌, ◌++◌, ◌≤◌, [], All, vec_len}
use Rattle.std.specs.List.{flat_map}
use Rattle.chunk_workers.specs.Seats.{BelongsTo, SeatValue, ones}
use Rattle.chunk_workers.proofs.draws.Draws.joined.Given as goal

abbrev pub invariant-loop-other : goal.invariant-loop-other
invariant-loop-other l = record {
  each : All (BelongsTo l.self) l.seats.items;
  table : l.whole.table_id ≡ l.self.table;
  mine : flat_map (λ (s : SeatValue). s.hand.mine) l.seats.items ++ l.whole.me.0.mine ≡ flat_map (λ (s : SeatValue). s.hand.mine) l.fn.seats.items;
  past : flat_map (λ (s : SeatValue). s.hand.past) l.seats.items ++ l.whole.me.0.past ≡ flat_map (λ (s : SeatValue). s.hand.past) l.fn.seats.items;
  weight : vec_len l.seats + l.whole.me.0.weight ≡ vec_len l.fn.seats;
  some : 1 ≤ l.whole.me.0.weight;
  bounds : l.whole.me.0.bounds ≡ ones l.self.n;
  slots : l.whole.me.1 ≡ [];
}

abbrev pub decreases-loop-other : goal.decreases-loop-other
decreases-loop-other l = goal.left-loop-other l
