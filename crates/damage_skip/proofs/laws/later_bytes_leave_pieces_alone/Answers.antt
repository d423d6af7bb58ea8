use Rattle.damage_skip.proofs.LaterBytes.{tiles_left_alone, tiles_settled}
use Rattle.damage_skip.proofs.laws.later_bytes_leave_pieces_alone.Goals as goal

pub returns : goal.returns
returns c = record {
  kept = tiles_left_alone;
  settled = tiles_settled;
}
