use Rattle.std.proofs.Common.{◌≡◌, ◌-◌, ◌<◌, false, IfSome}
use Rattle.record_io.specs.Calls.{OnlyAsks}
use Rattle.chunk_reader.specs.Readers.{ReadsIn}
use Rattle.record_collect.specs.Takings.{BelongsWhere, IsTakenSoFar}
use Rattle.record_collect.proofs.feeding.feed_file.Given as goal

abbrev pub invariant-loop-fed : goal.invariant-loop-fed
invariant-loop-fed g l = record {
  strict : l.reader.unread_ok ≡ false;
  behind : 0 < l.reader.totals.bytes;
  reads : ReadsIn (g.S.Store.bytes l.store) (g.S.Store.told l.store) l.reader;
  belongs : BelongsWhere l.collector l.fed;
  taken : IfSome (g.S.Store.bytes l.fn.store) (λ file. IsTakenSoFar file l.reader.totals l.fed);
  asks : OnlyAsks g.S.Store.bytes g.S.Store.told g.S.Store.name g.S.Store.faults ⊥ l.fn.store l.store;
}

abbrev pub decreases-loop-fed : goal.decreases-loop-fed
decreases-loop-fed g l = l.reader.size - l.reader.totals.bytes
