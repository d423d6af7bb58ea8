use Rattle.std.proofs.Common.{◌≡◌, ◌+◌, ◌-◌, ◌≤◌, IfSome}
use Rattle.record_io.specs.Calls.{OnlyAsks}
use Rattle.block_layout.specs.Layout.{end_of, usable_bytes_at}
use Rattle.chunk_reader.specs.BlockJudges.{EachBlock}
use Rattle.chunk_reader.proofs.feeding.feed_data.Given as goal

abbrev pub invariant-loop-left : goal.invariant-loop-left
invariant-loop-left g l = record {
  within : l.left ≤ l.fn.size;
  header : g.T.TakesData.header l.taker ≡ g.T.TakesData.header l.fn.taker;
  left : g.T.TakesData.has_left l.taker l.left;
  taken : IfSome (g.S.Store.bytes l.fn.store)
      (λ file. g.T.TakesData.has_taken l.taker (usable_bytes_at file l.fn.usable.place (l.fn.size - l.left)));
  moved : l.usable.place ≡ end_of l.fn.usable.place (l.fn.size - l.left);
  accepted : IfSome (g.S.Store.bytes l.fn.store) (λ file. EachBlock (g.J.JudgesBlocks.accepts l.judge file) l.fn.usable.place l.usable.place);
  handed : g.S.Store.handed l.store + l.fn.usable.place ≤ g.S.Store.handed l.fn.store + l.usable.place;
  asks : OnlyAsks g.S.Store.bytes g.S.Store.told g.S.Store.name g.S.Store.faults ⊥ l.fn.store l.store;
}

abbrev pub decreases-loop-left : goal.decreases-loop-left
decreases-loop-left g l = l.left
