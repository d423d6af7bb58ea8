use Rattle.std.proofs.Common.{◌≡◌, ◌+◌, ◌++◌, ◌≤◌, [], All, map, vec_len}
use Rattle.number_shares.specs.declared.table.Piece.{Piece}
use Rattle.record_collect.specs.Orders.{piece_at}
use Rattle.record_collect.specs.Passes.{PassValue, ends_of}
use Rattle.record_collect.proofs.PlacedPasses.{IsGathered}
use Rattle.record_collect.proofs.collector.Collector.joined.Given as goal

abbrev pub invariant-loop-other : goal.invariant-loop-other
invariant-loop-other l = record {
  each : All (λ (p : PassValue). p.table ≡ l.self.table) l.passes.items;
  table : l.whole.table_id ≡ l.self.table;
  mine : l.whole.me.0.mine ≡ map piece_at l.all.items;
  past : ends_of l.passes.items ++ map (λ (x : Piece). x.at) l.whole.me.0.past ≡ ends_of l.fn.passes.items;
  weight : vec_len l.passes + l.whole.me.0.weight ≡ vec_len l.fn.passes;
  some : 1 ≤ l.whole.me.0.weight;
  slots : l.whole.me.1 ≡ [];
  gathered : IsGathered l.passes.items l.fn.passes.items l.all.items;
}

abbrev pub decreases-loop-other : goal.decreases-loop-other
decreases-loop-other l = vec_len l.passes
