use Rattle.riegeli_c.proofs.HeldGroups.{laid-all}
use Rattle.riegeli_c.proofs.WrittenChunks.{whole-chunks, whole-file, behind-chunks}
use Rattle.riegeli_c.proofs.laws.written_at_once.Goals as goal

pub returns : goal.returns
returns c = record {
  chunks = whole-chunks;
  file = whole-file;
  behind = behind-chunks;
  all = laid-all;
}
