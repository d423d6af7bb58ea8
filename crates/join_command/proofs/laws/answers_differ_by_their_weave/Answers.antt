use Rattle.join_command.proofs.OneCollected.{answers_alike, each_weave, whole_collected}
use Rattle.join_command.proofs.laws.answers_differ_by_their_weave.Goals as goal

pub returns : goal.returns
returns c = record {
  status = λ files a b h g. (answers_alike files a b h g).0;
  notes = λ files a b h g. (answers_alike files a b h g).1;
  one = λ files a b h g other. (answers_alike files a b h g).2 other;
  woven = λ files answer h well. (whole_collected files answer h well).1;
  each = each_weave;
}
