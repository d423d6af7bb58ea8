use Rattle.chunk_header.proofs.OneList.{records_are_one}
use Rattle.chunk_header.proofs.DecidedRecords.{records_decided}
use Rattle.chunk_header.proofs.laws.records_are_one.Goals as goal

pub returns : goal.returns
returns c = record { one = records_are_one; decided = records_decided }
