use Rattle.repair_copy.proofs.LeftChunks.{left_chunks, chunks_left, well_formed_left}
use Rattle.repair_copy.proofs.laws.what_damage_leaves_is_repaired.Goals as goal

pub returns : goal.returns
returns c = record {
  left = λ unread_ok ks intact j to pieces is formed. left_chunks unread_ok ks intact formed j to pieces is;
  whole = chunks_left;
  well_formed = well_formed_left;
}
