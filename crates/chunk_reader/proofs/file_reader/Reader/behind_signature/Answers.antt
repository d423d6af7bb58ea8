use Rattle.std.proofs.Common.{sym}
use Rattle.chunk_reader.proofs.FirstChunks.{signature_chain_in, signature_read, totals_of-signature}
use Rattle.chunk_reader.proofs.file_reader.Reader.behind_signature.Goals as goal

pub returns-clause-reads : goal.returns-clause-reads
returns-clause-reads g c = record {
  size = c.requires.sized.is_told;
  in_reach = c.requires.sized.in_reach;
  read = signature_read c.args.unread_ok _ c.in_ok-check_signature.ensures.signed;
}

pub returns-clause-totals : goal.returns-clause-totals
returns-clause-totals g c = sym totals_of-signature

pub returns-clause-chain : goal.returns-clause-chain
returns-clause-chain g c = signature_chain_in c.args.unread_ok _ c.in_ok-check_signature.ensures.signed
