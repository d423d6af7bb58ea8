use Rattle.damage_skip.proofs.Tiles.{met_front, met_on, met_within, goes_on_piece, goes_on_append, goes_on_one, goes_on_whole, goes_on_front}
use Rattle.damage_skip.proofs.laws.walks_go_on.Goals as goal

pub returns : goal.returns
returns c = record {
  front = met_front;
  met = met_on;
  within = met_within;
  piece = goes_on_piece;
  joined = goes_on_append;
  one = goes_on_one;
  whole = goes_on_whole;
  first = goes_on_front;
}
