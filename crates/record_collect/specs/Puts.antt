-- Inside. The pieces that puts of records take. Own.
use Rattle.std.specs.Prelude.{◌≡◌, ℕ, ◌+◌, ◌^◌, ◌<◌, ◌≤◌, [], ◌∷◌, ◌++◌, min}
use Rattle.std.specs.List.{AllByRecursion}
use Rattle.atomic_table.specs.Table.{Me}
use Rattle.simple_chunk.specs.Costs.{cost_of}
use Rattle.number_shares.specs.declared.table.Bounds.{Bounds}
use Rattle.number_shares.specs.declared.table.Piece.{Piece}
use Rattle.number_shares.specs.declared.table.SeatView.{SeatView}
use Rattle.record_collect.specs.declared.collector.Batch.{Batch}
use Rattle.record_collect.specs.Limits.{limit}

-- records take as many numbers as they cost: 8 for each, and as many as they have bytes; where that is more than the limit, one
-- more than it
abbrev pub puts : Bounds
puts = record { limit = limit; least = 8; most = 2 ^ 26 + 1 }

-- the piece of accepted records
abbrev pub batch_piece : Batch → Piece
batch_piece b = record { at = b.at; cost = cost_of b.records }

-- the seat of a pass that hasn't ended
pub record CanStep (me : Me (Unit {0}) SeatView) : Type 0 where
  pub going : me.0.past ≡ []
  pub weight : me.0.weight ≡ 1
  pub bounds : me.0.bounds ≡ puts

-- the seat took this piece, which ends at or below the limit, behind all that it had
pub record TakesPiece (old : Me (Unit {0}) SeatView) (at cost : ℕ) (new : Me (Unit {0}) SeatView) : Type 0 where
  pub ends : at + cost ≤ limit
  pub above : AllByRecursion (λ x. x.at + x.cost ≤ at) old.0.mine
  pub view : new.0 ≡ record old.0 { mine = old.0.mine ++ record { at = at; cost = cost } ∷ [] }
  pub slots : new.1 ≡ old.1

-- the seat took a piece from this number on, which ends above the limit
pub record EndsAbove (old : Me (Unit {0}) SeatView) (held cost : ℕ) (new : Me (Unit {0}) SeatView) : Type 0 where
  pub over : limit < held + cost
  pub view : new.0 ≡ record old.0 { past = record { at = held; cost = min cost (limit + 1) } ∷ [] }
  pub slots : new.1 ≡ old.1
