use Rattle.damage_skip.proofs.FoundPieces.{file_of_plain, pieces_found}
use Rattle.damage_skip.proofs.FoundRecords.{events_not_skipped, events_records, events_placed}
use Rattle.damage_skip.proofs.laws.files_without_fault_are_walked_whole.Goals as goal

pub returns : goal.returns
returns c = record {
  plain = file_of_plain;
  pieces = pieces_found;
  none_skipped = events_not_skipped;
  records = events_records;
  placed = events_placed;
}
