use Rattle.riegeli_c.proofs.ToldPieces.{front_is_fine, goes_onward, told_one, told_tiles, told_of_tiles}
use Rattle.riegeli_c.proofs.laws.told_pieces_are_those_of_the_file.Goals as goal

pub returns : goal.returns
returns c = record {
  begins = front_is_fine;
  onward = goes_onward;
  one = told_one;
  tiles = told_tiles;
  told = told_of_tiles;
}
