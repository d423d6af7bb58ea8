use Rattle.std.proofs.Common.{◌≡◌, ◌-◌, ◌*◌, ◌+◌, ◌≤◌, false, true, None, IfSome}
use Rattle.record_io.specs.Puts.{taken_by}
use Rattle.record_io.specs.Calls.{OnlyAsks, OnlyCounts}
use Rattle.record_writer.specs.MadeFiles.{nothing_made}
use Rattle.damage_skip.specs.Takings.{IsTakenFrom}
use Rattle.damage_skip.specs.Walks.{StandsIn}
use Rattle.repair_copy.specs.Copies.{HasSkipped, HasWalked}
use Rattle.repair_copy.proofs.repairs.copy_walk.Given as goal

abbrev pub invariant-loop-event : goal.invariant-loop-event
invariant-loop-event g l = record {
  same_size : l.walker.progress.size ≡ l.fn.size;
  keeps : l.walker.progress.unread_ok ≡ true;
  going_on : l.walker.progress.stopped ≡ None;
  same_test : l.walker.policy.test ≡ l.fn.policy.test;
  stands : StandsIn (g.S.Store.bytes l.store) (g.S.Store.told l.store) l.walker.progress;
  copied : IfSome (g.S.Store.bytes l.fn.store) (HasWalked g.F.Fn l.fn.policy.test l.walker.progress.place l.copied
      (taken_by (g.M.Sink.taken l.fn.made) None (g.E.Sink.taken l.fn.notes)) (taken_by (g.M.Sink.taken l.made) None (g.E.Sink.taken l.notes)));
  skipped : HasSkipped g.F.Fn l.fn.policy.test l.copied.regions (g.E.Sink.taken l.fn.notes) (g.E.Sink.taken l.notes);
  quiet : l.copied.regions ≡ 0 → l.notes ≡ l.fn.notes;
  unbegun : l.copied.begun ≡ false → l.copied.file ≡ nothing_made;
  going : l.copied.file.spent ≡ false;
  small : l.copied.file.place ≤ 64 + 2 * l.walker.progress.place;
  few : l.copied.regions ≤ l.walker.progress.place;
  store : OnlyAsks g.S.Store.bytes g.S.Store.told g.S.Store.name g.S.Store.faults ⊥ l.fn.store l.store;
  taken : IfSome (g.S.Store.bytes l.fn.store) (λ file. IsTakenFrom true file 0 l.walker.progress.place (g.S.Store.handed l.store - g.S.Store.handed l.fn.store));
  made : OnlyCounts g.M.Sink.lent g.M.Sink.faults ⊥ l.fn.made l.made;
  notes : OnlyCounts g.E.Sink.lent g.E.Sink.faults ⊥ l.fn.notes l.notes;
}

abbrev pub decreases-loop-event : goal.decreases-loop-event
decreases-loop-event g l = l.walker.progress.size - l.walker.progress.place
