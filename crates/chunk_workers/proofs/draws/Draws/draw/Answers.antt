use Rattle.std.proofs.Common.{◌≡◌, ◌∙◌, ◌+◌, ◌<◌, ◌≤◌, false, Option, Some, None, ℕ, List, [], ◌∷◌, ltb, refl, ap, sym, subst, arith}
use Rattle.std.specs.List.{AllByRecursion}
use Rattle.std.specs.Option.{is_some, option_to_list}
use Rattle.number_shares.specs.declared.table.Bounds.{Bounds}
use Rattle.number_shares.specs.declared.table.Piece.{Piece}
use Rattle.std.proofs.lemmas.Bool.{cond-true, cond-false, lt-ltb, le-ltb}
use Rattle.number_shares.specs.declared.table.SeatView.{SeatView}
use Rattle.number_shares.specs.Machine.{Hand, taken}
use Rattle.number_shares.specs.Rule.{hand_of}
use Rattle.number_shares.proofs.Machines.{taken-mine}
use Rattle.number_shares.proofs.Tables.{takes}
use Rattle.atomic_table.specs.Seated.{TableId}
use Rattle.chunk_workers.specs.Seats.{SeatValue, numbers_at, one}
use Rattle.chunk_workers.proofs.Ones.{numbers_before}
use Rattle.chunk_workers.proofs.draws.Draws.draw.Goals as goal
use Rattle.chunk_workers.proofs.draws.Draws.draw.Goals.{After-fetch_add-number}

nothing_told : (o : Option ℕ) (past : List Piece) → numbers_at past ≡ option_to_list o → false ≡ is_some o → past ≡ []
nothing_told None [] told e = refl
nothing_told None (x ∷ past) told e = cc
nothing_told (Some x) past told e = cc

pub fetch_add-number-requires : goal.fetch_add-number-requires
fetch_add-number-requires c =
    let seat = c.seat.inside in
    let table = c.self.inside.table in
    let here : seat.seat.table_id ≡ table.shared.table_id = ap (λ v. v.table) c.seat.view_is ∙ c.requires.table ∙ sym (ap (λ v. v.table) c.self.view_is) in
    let stands : 1 ≤ seat.seat.me.0.weight = omega (arith, c.seat.invariant.1) in
    let going : seat.seat.me.0.past ≡ [] = nothing_told seat.ended seat.seat.me.0.past c.seat.invariant.0 c.if-is_some.ensures in
    let least : table.shared.key.bounds.least ≡ 1 = ap (λ (b : Bounds). b.least) c.self.invariant.2 in
    let most : table.shared.key.bounds.most ≡ 1 = ap (λ (b : Bounds). b.most) c.self.invariant.2 in (
      here,
      omega (arith, c.self.invariant.0),
      takes table.shared.key table.shared.table_id.slots seat.seat.id 1 seat.seat.me stands going (omega arith) (omega arith),
    )

-- the seat before and after the step
abbrev seat_in : After-fetch_add-number → SeatValue
seat_in c = c.args.seat.now

abbrev seat_out : After-fetch_add-number → SeatValue
seat_out c = let v : SeatView = c.fetch_add-number.new.seat.me.0 in record { table = c.fetch_add-number.new.seat.table_id; n = v.bounds.limit; hand = hand_of v }

drew : (c : After-fetch_add-number) → seat_out c ≡ record (seat_in c) { hand = taken (seat_in c).n (one c.fetch_add-number.result) (seat_in c).hand }
drew c =
    let was : SeatView = c.seat.inside.seat.me.0 in
    let now : SeatView = c.fetch_add-number.new.seat.me.0 in
    ap (λ (t : TableId). let s : SeatValue = record { table = t; n = now.bounds.limit; hand = hand_of now } in s) c.fetch_add-number.ensures.0
    ∙ ap (λ (v : SeatView). let s : SeatValue = record { table = c.seat.inside.seat.table_id; n = v.bounds.limit; hand = hand_of v } in s) c.fetch_add-number.ensures.2.view
    ∙ ap (λ (s : SeatValue). record s { hand = taken s.n (one c.fetch_add-number.result) s.hand }) c.seat.view_is

above : (c : After-fetch_add-number) → AllByRecursion (λ p. p < c.fetch_add-number.result) (numbers_at (seat_in c).hand.mine)
above c =
    subst (λ (s : SeatValue). AllByRecursion (λ p. p < c.fetch_add-number.result) (numbers_at s.hand.mine)) c.seat.view_is
    (numbers_before c.seat.inside.seat.me.0.bounds.limit c.fetch_add-number.result c.seat.inside.seat.me.0.mine c.seat.invariant.4.mine c.fetch_add-number.ensures.2.above)

same_n : (c : After-fetch_add-number) → (seat_in c).n ≡ c.self.inside.n
same_n c = c.requires.n ∙ sym (ap (λ v. v.n) c.self.view_is)

pub returns-then-number-self-clause-event : goal.returns-then-number-self-clause-event
returns-then-number-self-clause-event c =
    let at = (goal.at.returns-then-number-self-clause-event c).After-fetch_add-number in
    let number : ℕ = c.fetch_add-number.result in
    let within : number < c.args.seat.now.n = omega (arith, same_n at, c.if-number-self.true) in
    λ going. record {
      number = number;
      above = above at;
      seat = drew at;
      answers = sym (cond-true (ltb number c.args.seat.now.n) (Some number) None (lt-ltb number c.args.seat.now.n within));
    }

pub returns-else-number-self-clause-event : goal.returns-else-number-self-clause-event
returns-else-number-self-clause-event c =
    let at = (goal.at.returns-else-number-self-clause-event c).After-fetch_add-number in
    let number : ℕ = c.fetch_add-number.result in
    let past : c.args.seat.now.n ≤ number = omega (arith, same_n at, c.if-number-self.false) in
    λ going. record {
      number = number;
      above = above at;
      seat = drew at;
      answers = sym (cond-false (ltb number c.args.seat.now.n) (Some number) None (le-ltb number c.args.seat.now.n past));
    }

pub returns-then-number-self-clause-some : goal.returns-then-number-self-clause-some
returns-then-number-self-clause-some c =
    let at = (goal.at.returns-then-number-self-clause-some c).After-fetch_add-number in
    let number : ℕ = c.fetch_add-number.result in
    let old : SeatValue = c.args.seat.now in
    let within : number + 1 ≤ old.n = omega (arith, same_n at, c.if-number-self.true) in (
      omega (arith, within, c.requires.n),
      drew at ∙ ap (λ (hand : Hand). record old { hand = hand }) (taken-mine old.n (one number) old.hand within),
      above at,
    )
