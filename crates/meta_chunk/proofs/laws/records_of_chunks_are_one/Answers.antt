use Rattle.meta_chunk.proofs.Held.{plain_or_unread, HoldEach-well_formed, HoldEach-one, AreRecordsOf-one, Holds-counted, AreRecordsOf-append}
use Rattle.meta_chunk.proofs.laws.records_of_chunks_are_one.Goals as goal

pub returns : goal.returns
returns c = record {
  apart = λ k unread plain. plain_or_unread k plain unread;
  held = HoldEach-well_formed;
  one_each = HoldEach-one;
  one = AreRecordsOf-one;
  count = Holds-counted;
  joined = AreRecordsOf-append;
}
