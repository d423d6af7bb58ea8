use Rattle.chunk_reader.proofs.SignedFiles.{chunk_at-signature, end_at-signature, no_reason-signature, begins_signed}
use Rattle.chunk_reader.proofs.laws.files_begin_with_the_signature.Goals as goal

pub returns : goal.returns
returns c = record {
  chunk = λ file begins. (chunk_at-signature file begins, end_at-signature file begins);
  none = no_reason-signature;
  begins = λ unread_ok k ks file place h. begins_signed k ks file place h;
}
