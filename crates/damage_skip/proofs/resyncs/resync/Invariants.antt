use Rattle.std.proofs.Common.{◌+◌, ◌-◌, ◌*◌, ◌<◌, ◌≤◌, IfSome}
use Rattle.record_io.specs.Calls.{OnlyAsks}
use Rattle.block_layout.specs.Layout.{IsBlock, blocks_below}
use Rattle.damage_skip.proofs.Resyncing.{StandNotBelow}
use Rattle.damage_skip.proofs.resyncs.resync.Given as goal

abbrev pub invariant-loop-block : goal.invariant-loop-block
invariant-loop-block g l = record {
  at_block : IsBlock l.block;
  from_place : l.from ≤ l.block;
  near : l.block < l.size + 65536;
  none : IfSome (g.S.Store.bytes l.fn.store) (λ file. StandNotBelow file l.from l.block);
  handed : g.S.Store.handed l.store ≤ g.S.Store.handed l.fn.store + 24 * (blocks_below l.block - blocks_below l.from);
  asks : OnlyAsks g.S.Store.bytes g.S.Store.told g.S.Store.name g.S.Store.faults ⊥ l.fn.store l.store;
}

abbrev pub decreases-loop-block : goal.decreases-loop-block
decreases-loop-block g l = l.size - l.block
