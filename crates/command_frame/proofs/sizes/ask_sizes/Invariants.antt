use Rattle.std.proofs.Common.{◌≡◌, Some, length}
use Rattle.record_io.specs.ManyStores.{AreOnlyAsked}
use Rattle.command_frame.proofs.AskedSizes.{AreAsked}
use Rattle.command_frame.proofs.sizes.ask_sizes.Given as goal

abbrev pub invariant-loop-index : goal.invariant-loop-index
invariant-loop-index g l = record {
  asked : AreOnlyAsked g.S.Store.bytes (λ file. Some (g.S.Store.handed file)) g.S.Store.name g.S.Store.faults ⊥ l.fn.files l.files;
  sized : AreAsked g.S.Store.told l.index l.sizes l.fn.files l.files;
  many : length l.sizes ≡ length l.fn.sizes;
}
