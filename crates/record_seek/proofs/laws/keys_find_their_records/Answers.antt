use Rattle.std.proofs.Common.{IsTrue}
use Rattle.record_seek.proofs.OneFound.{found_in_order}
use Rattle.record_seek.proofs.laws.keys_find_their_records.Goals as goal

pub returns : goal.returns
returns c = λ before placed count found front. found_in_order (λ p. IsTrue (before p)) placed count front found
