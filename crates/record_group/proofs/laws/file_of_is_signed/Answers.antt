use Rattle.record_group.proofs.Signed.{file_of-signed, length-file_of-signed}
use Rattle.record_group.proofs.laws.file_of_is_signed.Goals as goal

pub returns : goal.returns
returns c = record { bytes = file_of-signed; size = length-file_of-signed }
