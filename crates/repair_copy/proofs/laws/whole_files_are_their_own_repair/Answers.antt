use Rattle.std.proofs.Common.{true}
use Rattle.repair_copy.proofs.RelaidFiles.{whole_chunks, whole_plain, whole_zero}
use Rattle.repair_copy.proofs.laws.whole_files_are_their_own_repair.Goals as goal

pub returns : goal.returns
returns c = record {
  chunks = whole_chunks;
  plain = whole_plain;
  well_formed = λ ks file pieces whole active h. whole_zero true ks file pieces whole active h;
}
