use Rattle.std.proofs.Common.{◌≡◌, ◌-◌, Ok, None, IfSome}
use Rattle.record_io.specs.Calls.{OnlyAsks}
use Rattle.damage_skip.specs.Takings.{IsTakenFrom}
use Rattle.damage_skip.specs.Walks.{WalksOn}
use Rattle.damage_skip.proofs.walks.Walker.next.Given as goal

abbrev pub invariant-loop-self : goal.invariant-loop-self
invariant-loop-self g l = record {
  on : WalksOn (g.S.Store.bytes l.fn.store) l.fn.self.progress l.self.progress (Ok None);
  same_policy : l.self.policy ≡ l.fn.self.policy;
  asks : OnlyAsks g.S.Store.bytes g.S.Store.told g.S.Store.name g.S.Store.faults ⊥ l.fn.store l.store;
  taken : IfSome (g.S.Store.bytes l.fn.store) (λ file.
      IsTakenFrom l.fn.self.progress.unread_ok file l.fn.self.progress.place l.self.progress.place (g.S.Store.handed l.store - g.S.Store.handed l.fn.store));
}

abbrev pub decreases-loop-self : goal.decreases-loop-self
decreases-loop-self g l = l.self.progress.size - l.self.progress.place
