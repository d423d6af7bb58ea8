use Rattle.repair_copy.proofs.EventChunks.{chunks_in_events, chunks_in-append, relaid_events, relaid-push}
use Rattle.repair_copy.proofs.laws.events_have_the_chunks_of_pieces.Goals as goal

pub returns : goal.returns
returns c = record {
  joined = chunks_in-append;
  more = relaid-push;
  events = chunks_in_events;
  file = relaid_events;
}
