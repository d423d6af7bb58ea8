use Rattle.riegeli_c.proofs.UnkeptPieces.{unkept_tiles, unkept_events, unkept_event_records, unkept_event_placed}
use Rattle.riegeli_c.proofs.laws.unread_chunks_are_passed_over.Goals as goal

pub returns : goal.returns
returns c = record {
  tiles = unkept_tiles;
  events = unkept_events;
  records = unkept_event_records;
  placed = unkept_event_placed;
}
