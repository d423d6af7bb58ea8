use Rattle.damage_skip.proofs.Reached.{next_past, next_one, next_of, reached_one, reached_of, left_one, left_of, left_begins}
use Rattle.damage_skip.proofs.laws.what_damage_leaves_is_one.Goals as goal

pub returns : goal.returns
returns c = record {
  next_one = next_one;
  next_past = next_past;
  next = next_of;
  reached_one = reached_one;
  reached = reached_of;
  left_one = left_one;
  left = left_of;
  begins = left_begins;
}
