use Rattle.std.proofs.Common.{◌≡◌, ◌∙◌, ℕ, [], ap, sym, subst, arith}
use Rattle.number_shares.specs.declared.table.Bounds.{Bounds}
use Rattle.number_shares.specs.declared.table.SeatView.{SeatView}
use Rattle.number_shares.specs.Machine.{IsHand, numbers_in}
use Rattle.number_shares.specs.Once.{HasEachBelow}
use Rattle.number_shares.specs.Rule.{hand_of}
use Rattle.number_shares.proofs.Tables.{closed, closed_by_ones}
use Rattle.chunk_workers.specs.Seats.{SeatValue, drawn_by, numbers_at, ones}
use Rattle.chunk_workers.proofs.Ones.{numbers_of_all, numbers_of_ones, some_past}
use Rattle.chunk_workers.proofs.draws.Draws.finish.Goals as goal

pub returns : goal.returns
returns c =
    let key = c.self.inside.table.shared.key in
    let whole = c.joined-whole.result in
    let view = c.joined-whole.ensures.view in
    let n : ℕ = c.args.self.n in
    let bounds : key.bounds ≡ ones n = c.self.invariant.2 ∙ ap (λ v. ones v.n) c.self.view_is in
    let most : key.bounds.most ≡ 1 = ap (λ (b : Bounds). b.most) bounds in
    let seats : key.seats ≡ c.args.self.workers = c.self.invariant.3 ∙ ap (λ v. v.workers) c.self.view_is in
    let final = c.close_with.ensures.values.2 in
    let weight : whole.me.0.weight ≡ key.seats = ap (λ (v : SeatView). v.weight) view ∙ c.requires.seats ∙ sym seats in
    let ended : ¬ (whole.me.0.past ≡ []) = λ none. some_past c.args.self c.args.seats.items (omega (arith, c.args.seats.ok.0, c.requires.seats, c.self.invariant.4, seats, c.self.invariant.3)) c.requires.each (sym (ap (λ (v : SeatView). v.past) view) ∙ none) in
    let own : IsHand (ones n) (hand_of whole.me.0) = subst (λ (b : Bounds). IsHand b (hand_of whole.me.0)) bounds (closed key final.0 whole.id whole.me.0 final.1.0 final.1.1 weight).0 in
    let each : HasEachBelow key.bounds.limit (numbers_in whole.me.0.mine) = closed_by_ones key final.0 whole.id whole.me.0 final.1.0 final.1.1 weight (omega arith) ended in
    let drawn : numbers_in whole.me.0.mine ≡ drawn_by c.args.seats.items =
    numbers_of_ones n whole.me.0.mine own.mine ∙ ap (λ (v : SeatView). numbers_at v.mine) view ∙ numbers_of_all (λ (s : SeatValue). s.hand.mine) c.args.seats.items in
    subst (λ (b : Bounds). HasEachBelow b.limit (drawn_by c.args.seats.items)) bounds (subst (HasEachBelow key.bounds.limit) drawn each)
