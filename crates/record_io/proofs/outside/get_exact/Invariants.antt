use Rattle.std.proofs.Common.{◌≡◌, length, ◌+◌, ◌-◌, ◌^◌, ◌<◌, ◌≤◌, ◌⊎◌, take, slice_range, IfSome}
use Rattle.record_io.specs.Calls.{OnlyAsks}
use Rattle.record_io.proofs.outside.get_exact.Given as goal

abbrev pub invariant-loop-got : goal.invariant-loop-got
invariant-loop-got g l = record {
  within : l.got ≤ length l.buf;
  fits : l.at + l.got < 2 ^ 64;
  given : IfSome (g.S.Store.bytes l.fn.store) (λ file. take l.got l.buf ≡ slice_range file l.at (l.at + l.got));
  handed : (g.S.Store.handed l.store ≡ g.S.Store.handed l.fn.store + l.got) ⊎ (g.S.Store.handed l.store ≡ 2 ^ 64 - 1);
  handed_small : g.S.Store.handed l.fn.store < 2 ^ 64 → (g.S.Store.handed l.fn.store ≤ g.S.Store.handed l.store) × (g.S.Store.handed l.store < 2 ^ 64);
  handed_most : g.S.Store.handed l.store ≤ g.S.Store.handed l.fn.store + l.got;
  asks : OnlyAsks g.S.Store.bytes g.S.Store.told g.S.Store.name g.S.Store.faults ⊥ l.fn.store l.store;
}

abbrev pub decreases-loop-got : goal.decreases-loop-got
decreases-loop-got g l = length l.buf - l.got
