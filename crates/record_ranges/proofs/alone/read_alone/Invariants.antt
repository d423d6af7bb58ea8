use Rattle.std.proofs.Common.{take, IfSome}
use Rattle.std.specs.List.{AllZip}
use Rattle.record_io.specs.Calls.{OnlyAsks}
use Rattle.record_ranges.specs.Stretches.{IsReadFromFront}
use Rattle.record_ranges.proofs.alone.read_alone.Given as goal

abbrev pub invariant-loop-span : goal.invariant-loop-span
invariant-loop-span g l = record {
  read : IfSome (g.S.Store.bytes l.fn.store) (λ file. AllZip (IsReadFromFront g.K.Keeper.kept_as file) (take l.span-index l.spans) l.parts.items);
  asks : OnlyAsks g.S.Store.bytes g.S.Store.told g.S.Store.name g.S.Store.faults ⊥ l.fn.store l.store;
}
