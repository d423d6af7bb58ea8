use Rattle.chunk_header.proofs.FewRecords.{few_records, few_bytes}
use Rattle.chunk_header.proofs.laws.records_are_few.Goals as goal

pub returns : goal.returns
returns c = record { count = few_records; bytes = few_bytes }
