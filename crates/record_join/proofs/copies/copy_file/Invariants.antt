use Rattle.std.proofs.Common.{◌-◌, ◌≤◌, IfSome, length, take, ◌≡◌}
use Rattle.record_io.specs.Calls.{AsksUpTo, OnlyCounts}
use Rattle.record_io.specs.Outside.{Takes}
use Rattle.record_join.proofs.copies.copy_file.Given as goal

abbrev pub invariant-loop-at : goal.invariant-loop-at
invariant-loop-at g l = record {
  within : l.at ≤ l.size;
  room : length l.piece ≡ 65536;
  taken : IfSome (g.S.Store.bytes l.fn.store) (λ file. Takes (g.M.Sink.taken l.fn.made) (g.M.Sink.taken l.made) (take l.at file));
  asks : AsksUpTo g.S.Store.bytes g.S.Store.told g.S.Store.handed g.S.Store.name g.S.Store.faults ⊥ l.at l.fn.store l.store;
  counts : OnlyCounts g.M.Sink.lent g.M.Sink.faults ⊥ l.fn.made l.made;
}

abbrev pub decreases-loop-at : goal.decreases-loop-at
decreases-loop-at g l = l.size - l.at
