use Rattle.damage_skip.proofs.Untouched.{lost_up_to_a_block, lost_up_to_first}
use Rattle.damage_skip.proofs.laws.chunks_are_lost_up_to_a_block.Goals as goal

pub returns : goal.returns
returns c = record {
  lost = lost_up_to_a_block;
  first_block = lost_up_to_first;
}
