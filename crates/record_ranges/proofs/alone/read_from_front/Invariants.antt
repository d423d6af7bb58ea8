use Rattle.std.proofs.Common.{◌≡◌, ◌-◌, ◌≤◌, false, IfSome}
use Rattle.record_io.specs.Calls.{OnlyAsks}
use Rattle.chunk_reader.specs.Readers.{ReadsIn}
use Rattle.record_ranges.specs.Stretches.{IsReadSoFar}
use Rattle.record_ranges.proofs.alone.read_from_front.Given as goal

abbrev pub invariant-loop-part : goal.invariant-loop-part
invariant-loop-part g l = record {
  same_size : l.reader.size ≡ l.size;
  strict : l.reader.unread_ok ≡ false;
  within : l.reader.totals.bytes ≤ l.reader.size;
  reads : ReadsIn (g.S.Store.bytes l.store) (g.S.Store.told l.store) l.reader;
  read : IfSome (g.S.Store.bytes l.fn.store) (λ file. IsReadSoFar g.K.Keeper.kept_as file l.span l.reader.totals l.part.kept);
  asks : OnlyAsks g.S.Store.bytes g.S.Store.told g.S.Store.name g.S.Store.faults ⊥ l.fn.store l.store;
}

abbrev pub decreases-loop-part : goal.decreases-loop-part
decreases-loop-part g l = l.reader.size - l.reader.totals.bytes
