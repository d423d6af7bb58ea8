use Rattle.std.proofs.Common.{◌≤◌, take}
use Rattle.record_io.specs.Calls.{OnlyCounts}
use Rattle.chunk_reader.specs.Progress.{AreInBounds}
use Rattle.record_join.specs.Joined.{joined_at_most}
use Rattle.record_io.specs.ManyStores.{AreOnlyAsked, IfAllTell}
use Rattle.record_join.proofs.HandedOut.{HandOut}
use Rattle.record_join.proofs.Steps.{JoinedSoFar}
use Rattle.record_join.proofs.joins.join.Given as goal

abbrev pub invariant-loop-index : goal.invariant-loop-index
invariant-loop-index g l = record {
  bounds : AreInBounds l.totals.bytes l.totals;
  fits : l.totals.bytes ≤ joined_at_most (take l.index l.sizes);
  joined : IfAllTell g.S.Store.bytes l.fn.stores
      (λ files. JoinedSoFar files l.index l.totals (g.M.Sink.taken l.fn.made) (g.M.Sink.taken l.made));
  asked : AreOnlyAsked g.S.Store.bytes g.S.Store.told g.S.Store.name g.S.Store.faults ⊥ l.fn.stores l.stores;
  hand_out : HandOut g.S.Store.handed l.sizes l.index l.fn.stores l.stores;
  counts : OnlyCounts g.M.Sink.lent g.M.Sink.faults ⊥ l.fn.made l.made;
}
