use Rattle.record_group.proofs.RecordFiles.{AreLaid-record_chunks, AreLaid-one, IsPlain-record_chunks, HoldEach-record_chunks, AreRecordsOf-record_chunks}
use Rattle.record_group.proofs.laws.record_chunks_are_laid.Goals as goal

pub returns : goal.returns
returns c = record {
  laid = AreLaid-record_chunks;
  one = AreLaid-one;
  plain = IsPlain-record_chunks;
  lists = HoldEach-record_chunks;
  records = AreRecordsOf-record_chunks;
}
