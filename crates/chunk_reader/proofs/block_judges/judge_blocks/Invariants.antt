use Rattle.std.proofs.Common.{◌+◌, ◌-◌, ◌*◌, ◌<◌, ◌≤◌, IfSome}
use Rattle.record_io.specs.Calls.{OnlyAsks}
use Rattle.block_layout.specs.Layout.{IsBlock, blocks_below}
use Rattle.chunk_reader.specs.BlockJudges.{EachBlock}
use Rattle.chunk_reader.proofs.block_judges.judge_blocks.Given as goal

abbrev pub invariant-loop-block : goal.invariant-loop-block
invariant-loop-block g l = record {
  at_block : IsBlock l.block;
  from_place : l.from ≤ l.block;
  near : l.block < l.to + 65536;
  accepted : IfSome (g.S.Store.bytes l.fn.store) (λ file. EachBlock (g.J.JudgesBlocks.accepts l.judge file) l.from l.block);
  handed : g.S.Store.handed l.store ≤ g.S.Store.handed l.fn.store + 24 * (blocks_below l.block - blocks_below l.from);
  asks : OnlyAsks g.S.Store.bytes g.S.Store.told g.S.Store.name g.S.Store.faults ⊥ l.fn.store l.store;
}

abbrev pub decreases-loop-block : goal.decreases-loop-block
decreases-loop-block g l = l.to - l.block
