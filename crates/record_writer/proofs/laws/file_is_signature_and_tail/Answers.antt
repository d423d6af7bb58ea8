use Rattle.record_writer.proofs.Wholes.{file_under-signed}
use Rattle.record_writer.proofs.laws.file_is_signature_and_tail.Goals as goal

pub returns : goal.returns
returns c = file_under-signed
