use Rattle.chunk_reader.proofs.LaidAt.{header_at-laid, chunk_at-laid, end_at-laid, headers-laid}
use Rattle.chunk_reader.proofs.NoReason.{within-laid}
use Rattle.chunk_reader.proofs.laws.laid_chunks_stand_at_their_places.Goals as goal

pub returns : goal.returns
returns c = record {
  header = λ file place end k h. header_at-laid place k file end h;
  chunk = λ file place end k h. chunk_at-laid place k file end h;
  end = λ file place end k h. (end_at-laid place k file end h, within-laid place k file end h);
  blocks = λ file place end k h. headers-laid place k file end h;
}
