use Rattle.std.proofs.Common.{[], ◌+◌, ◌*◌, ◌≤◌, drop, take}
use Rattle.simple_chunk.specs.Costs.{cost_of}
use Rattle.record_collect.specs.Batches.{in_turn}
use Rattle.record_collect.specs.OpenChunks.{IsSound, PlacesOn, opened_at, reach}
use Rattle.record_collect.proofs.file_places.places_in_turn.Given as goal

abbrev pub invariant-loop-k : goal.invariant-loop-k
invariant-loop-k l = record {
  on : PlacesOn l.size (opened_at 64) [] (in_turn (take l.k l.batches)) l.chunk l.places.items;
  sound : IsSound l.chunk;
  near : reach l.chunk + 23 * cost_of (in_turn (drop l.k l.batches)) ≤ 64 + 23 * cost_of (in_turn l.batches);
}
