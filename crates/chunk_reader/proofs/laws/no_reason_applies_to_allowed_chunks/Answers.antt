use Rattle.chunk_reader.proofs.NoReason.{no_reason}
use Rattle.chunk_reader.proofs.NoReasonLaid.{laid_where_none, allowed_where_none}
use Rattle.chunk_reader.proofs.laws.no_reason_applies_to_allowed_chunks.Goals as goal

pub returns : goal.returns
returns c = record {
  none = λ unread_ok file place end k h allowed. no_reason unread_ok place k file end h allowed;
  laid = laid_where_none;
  allowed = allowed_where_none;
}
