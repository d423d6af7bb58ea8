use Rattle.std.proofs.Common.{length, ap, arith}
use Rattle.chunk_workers.proofs.CodedLists.{length-coded_of}
use Rattle.chunk_workers.proofs.coded_chunks.CodedChunks.len.Goals as goal

pub returns : goal.returns
returns c =
    omega (arith, ap length c.self.view_is, length-coded_of c.self.inside.heads.items c.self.inside.fronts c.self.invariant, c.len.ensures)
