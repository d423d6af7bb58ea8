use Rattle.std.proofs.Common.{arith}
use Rattle.damage_skip.proofs.Tiles.{tiles_one, tiles_front, tiles_to_end, events_one, events_of}
use Rattle.damage_skip.proofs.laws.a_file_has_one_list_of_pieces.Goals as goal

pub returns : goal.returns
returns c = record {
  one = tiles_one;
  front = tiles_front;
  to_end = tiles_to_end;
  pieces = λ unread_ok file. tiles_to_end unread_ok file 0 (omega arith);
  one_events = events_one;
  events = events_of;
}
