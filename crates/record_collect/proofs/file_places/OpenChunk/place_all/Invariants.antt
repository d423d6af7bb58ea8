use Rattle.std.proofs.Common.{◌+◌, ◌*◌, ◌≤◌, drop, take}
use Rattle.simple_chunk.specs.Costs.{cost_of}
use Rattle.record_collect.specs.OpenChunks.{IsSound, PlacesOn, reach}
use Rattle.record_collect.proofs.file_places.OpenChunk.place_all.Given as goal

abbrev pub invariant-loop-i : goal.invariant-loop-i
invariant-loop-i l = record {
  on : PlacesOn l.size l.fn.self l.fn.places.items (take l.i l.records) l.self l.places.items;
  sound : IsSound l.self;
  near : reach l.self + 23 * cost_of (drop l.i l.records) ≤ reach l.fn.self + 23 * cost_of l.records;
}
