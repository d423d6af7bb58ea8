use Rattle.std.proofs.Common.{◌≡◌, ◌∙◌, ◌≤◌, ap, sym, arith}
use Rattle.number_shares.specs.declared.table.Bounds.{Bounds}
use Rattle.number_shares.proofs.Tables.{takes}
use Rattle.record_collect.proofs.collector.Collector.step.Goals as goal

pub fetch_add-held-requires : goal.fetch_add-held-requires
fetch_add-held-requires c =
    let seat = c.args.seat.now in
    let table = c.self.inside.table in
    let here : seat.table_id ≡ table.shared.table_id = c.requires.table ∙ sym (ap (λ v. v.table) c.self.view_is) in
    let stands : 1 ≤ seat.me.0.weight = omega (arith, c.requires.going.weight) in
    let least : table.shared.key.bounds.least ≡ 8 = ap (λ (b : Bounds). b.least) c.self.invariant.2 in
    let most : table.shared.key.bounds.most ≡ 67108865 = ap (λ (b : Bounds). b.most) c.self.invariant.2 in (
      here,
      omega (arith, c.self.invariant.0),
      takes table.shared.key table.shared.table_id.slots seat.id _ seat.me stands c.requires.going.going (omega arith) (omega arith),
    )
