use Rattle.std.proofs.Common.{◌≡◌, ◌-◌, ◌≤◌, IfSome}
use Rattle.record_io.specs.Calls.{OnlyAsks}
use Rattle.block_layout.specs.Layout.{IsBoundary}
use Rattle.record_ranges.specs.Stretches.{IsJudgedStretch}
use Rattle.record_ranges.proofs.stretches.read_on.Given as goal

abbrev pub invariant-loop-stretch : goal.invariant-loop-stretch
invariant-loop-stretch g l = record {
  boundary : IsBoundary l.stretch.end;
  inside : l.stretch.end ≤ l.size;
  same_begin : l.stretch.begin ≡ l.begin;
  judged : IfSome (g.S.Store.bytes l.fn.store) (λ file. IsJudgedStretch g.K.Keeper.kept_as file l.span l.stretch);
  asks : OnlyAsks g.S.Store.bytes g.S.Store.told g.S.Store.name g.S.Store.faults ⊥ l.fn.store l.store;
}

abbrev pub decreases-loop-stretch : goal.decreases-loop-stretch
decreases-loop-stretch g l = l.size - l.stretch.end
