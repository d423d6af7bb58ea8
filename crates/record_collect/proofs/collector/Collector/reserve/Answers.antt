use Rattle.std.proofs.Common.{◌≡◌, ◌∙◌, ◌++◌, ◌∷◌, [], None, List, ap}
use Rattle.number_shares.specs.declared.table.Piece.{Piece}
use Rattle.number_shares.specs.declared.table.SeatView.{SeatView}
use Rattle.record_collect.specs.Passes.{PassValue}
use Rattle.record_collect.proofs.PassLemmas.{no_past, pieces_above}
use Rattle.record_collect.proofs.collector.Collector.reserve.Goals as goal

pub step-requires-clause-going : goal.step-requires-clause-going
step-requires-clause-going c =
    let going : c.pass.inside.ended ≡ None = ap (λ (v : PassValue). v.ended) c.pass.view_is ∙ c.requires.going in
    record { going = no_past c.pass.inside.ended c.pass.inside.seat.me.0.past c.pass.invariant.1 going; weight = c.pass.invariant.2; bounds = c.pass.invariant.5 }

pub invariant_of-result : goal.invariant_of-result
invariant_of-result c =
    let taken = c.in-Ok.ensures.taken in
    let old : SeatView = c.pass.inside.seat.me.0 in
    let going : c.pass.inside.ended ≡ None = ap (λ (v : PassValue). v.ended) c.pass.view_is ∙ c.requires.going in (
      ap (λ (v : SeatView). v.mine) taken.view ∙ ap (λ (xs : List Piece). xs ++ record { at = c.in-Ok.at; cost = c.args.cost } ∷ []) c.pass.invariant.0,
      ap (λ (v : SeatView). v.past) taken.view ∙ no_past c.pass.inside.ended old.past c.pass.invariant.1 going,
      ap (λ (v : SeatView). v.weight) taken.view ∙ c.pass.invariant.2,
      taken.slots ∙ c.pass.invariant.3,
      c.pass.invariant.4,
      pieces_above c.in-Ok.at c.pass.inside.batches.items old.mine c.pass.invariant.0 taken.above,
      ap (λ (v : SeatView). v.bounds) taken.view ∙ c.pass.invariant.5,
      c.pass.invariant.6,
    )
