use Rattle.damage_skip.proofs.FoundRecords.{found_count, found_at, none_skipped, found_records, found_placed, records_in_events, placed_in_events}
use Rattle.damage_skip.proofs.laws.found_pieces_are_the_chunks.Goals as goal

pub returns : goal.returns
returns c = record {
  count = found_count;
  at = found_at;
  none_skipped = none_skipped;
  records = found_records;
  placed = found_placed;
  events_records = records_in_events;
  events_placed = placed_in_events;
}
