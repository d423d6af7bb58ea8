use Rattle.std.proofs.Common.{◌≡◌, ◌+◌, ◌-◌, [], None, All, vec_len}
use Rattle.std.specs.Vec.{vec_capacity}
use Rattle.record_collect.specs.Puts.{puts}
use Rattle.record_collect.proofs.collector.Collector.new.Given as goal

abbrev pub invariant-loop : goal.invariant-loop
invariant-loop l = record {
  counted : vec_len l.made + 1 ≡ l.counter;
  room : vec_capacity l.made ≡ l.passes;
  each : All (λ p. (p.table ≡ l.table.shared.table_id) × (p.mine ≡ []) × (p.ended ≡ None)) l.made.items;
  table : l.first.table_id ≡ l.table.shared.table_id;
  first : l.first.me ≡ (record { mine = []; past = []; weight = l.passes - vec_len l.made; bounds = puts }, []);
}
