use Rattle.damage_skip.proofs.OnePiece.{piece_one, piece_past, piece_of_place}
use Rattle.damage_skip.proofs.laws.one_piece_begins_at_a_place.Goals as goal

pub returns : goal.returns
returns c = record {
  one = piece_one;
  past = λ unread_ok file begin end what below h.
      let step = piece_past unread_ok file begin end what below h in (step.past, step.within, step.boundary);
  some = piece_of_place;
}
