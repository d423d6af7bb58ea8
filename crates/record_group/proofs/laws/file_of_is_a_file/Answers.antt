use Rattle.record_group.proofs.RecordFiles.{IsReadable-file_of, file_of-is, HoldEach-chunks_of, AreRecordsOf-chunks_of}
use Rattle.record_group.proofs.laws.file_of_is_a_file.Goals as goal

pub returns : goal.returns
returns c = record {
  file = IsReadable-file_of;
  one = file_of-is;
  lists = HoldEach-chunks_of;
  records = AreRecordsOf-chunks_of;
}
