use Rattle.std.proofs.Common.{◌≡◌, ◌-◌, [], vec_len, ap, arith}
use Rattle.atomic_table.specs.Table.{Me}
use Rattle.number_shares.specs.declared.table.SeatView.{SeatView}
use Rattle.number_shares.proofs.Tables.{splits}
use Rattle.record_collect.proofs.collector.Collector.new.Goals as goal

pub split_seat-seat-requires : goal.split_seat-seat-requires
split_seat-seat-requires c =
    let h = c.loop.invariant in
    let first = c.loop.first in
    let table = c.in_ok-table.table in
    let weight : first.me.0.weight ≡ c.args.passes - vec_len c.loop.made = ap (λ (me : Me (Unit {0}) SeatView). me.0.weight) h.first in
    let going : first.me.0.past ≡ [] = ap (λ (me : Me (Unit {0}) SeatView). me.0.past) h.first in (
      h.table,
      omega (arith, c.in_ok-table.ensures),
      splits table.shared.key first.id first.me.0 (omega arith) going,
    )
