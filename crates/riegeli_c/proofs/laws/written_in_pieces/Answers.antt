use Rattle.riegeli_c.proofs.HeldGroups.{laid-front, laid-more}
use Rattle.riegeli_c.proofs.WrittenChunks.{pieces, bytes-pieces}
use Rattle.riegeli_c.proofs.laws.written_in_pieces.Goals as goal

pub returns : goal.returns
returns c = record {
  front = laid-front;
  chunks = pieces;
  bytes = bytes-pieces;
  records = laid-more;
}
