use Rattle.std.proofs.Common.{length, arith}
use Rattle.damage_skip.proofs.Tiles.{tiles_append, tiles_parted, events-append, pieces_at_boundaries, pieces_within, tiles_rise, tiles_last, tiles_hold}
use Rattle.damage_skip.proofs.EventPieces.{events_hold, events_are, events_rise}
use Rattle.damage_skip.proofs.laws.pieces_tile_the_file.Goals as goal

pub returns : goal.returns
returns c = record {
  joined = tiles_append;
  parted = tiles_parted;
  events = events-append;
  boundary = pieces_at_boundaries;
  within = pieces_within;
  rise = λ unread_ok file pieces h. tiles_rise unread_ok file 0 (length file) pieces h;
  last = λ unread_ok file pieces piece h. tiles_last unread_ok file 0 (length file) pieces piece h;
  holder = λ unread_ok file pieces position h below. tiles_hold unread_ok file 0 (length file) position pieces h (omega arith) below;
  events_hold = events_hold;
  events_are = events_are;
  events_rise = λ unread_ok file pieces h. events_rise unread_ok file 0 (length file) pieces h;
}
