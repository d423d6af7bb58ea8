use Rattle.std.proofs.Common.{◌≡◌, ◌∙◌, ℕ, ◌+◌, List, [], ◌∷◌, ◌++◌, All, ap, sym, subst, arith}
use Rattle.std.proofs.lemmas.List.{flat_map_more}
use Rattle.atomic_table.specs.Table.{Me}
use Rattle.std.specs.List.{flat_map}
use Rattle.number_shares.specs.declared.table.Piece.{Piece}
use Rattle.number_shares.specs.declared.table.SeatView.{SeatView}
use Rattle.number_shares.specs.Rule.{joined_before}
use Rattle.chunk_workers.specs.Seats.{BelongsTo, SeatValue, ones}
use Rattle.number_shares.proofs.Lists.{of_last, of_others, flat_map-last}
use Rattle.number_shares.proofs.Tables.{joins_before}
use Rattle.chunk_workers.proofs.draws.Draws.joined.Goals as goal

pub loop-other-init : goal.loop-other-init
loop-other-init c =
    let rest : List SeatValue = c.pop.new.self.items in
    let last : SeatValue = c.in-Some.last in
    let was : c.args.seats.items ≡ rest ++ last ∷ [] = c.in-Some.ensures.items in
    let each : All (BelongsTo c.args.self.now) (rest ++ last ∷ []) = subst (All (BelongsTo c.args.self.now)) was c.requires.each in
    let one : BelongsTo c.args.self.now last = of_last (BelongsTo c.args.self.now) rest last each in
    record {
      each = of_others (BelongsTo c.args.self.now) rest last each;
      table = ap (λ (s : SeatValue). s.table) c.last.view_is ∙ one.table;
      mine =
          ap (λ (s : SeatValue). flat_map (λ (s : SeatValue). s.hand.mine) rest ++ s.hand.mine) c.last.view_is
          ∙ flat_map_more (λ (s : SeatValue). s.hand.mine) [] rest last
          ∙ ap (flat_map (λ (s : SeatValue). s.hand.mine)) (sym was);
      past =
          ap (λ (s : SeatValue). flat_map (λ (s : SeatValue). s.hand.past) rest ++ s.hand.past) c.last.view_is
          ∙ flat_map_more (λ (s : SeatValue). s.hand.past) [] rest last
          ∙ ap (flat_map (λ (s : SeatValue). s.hand.past)) (sym was);
      weight = omega (arith, c.last.invariant.1, c.in-Some.ensures.len);
      some = omega (arith, c.last.invariant.1);
      bounds = c.last.invariant.3 ∙ ap ones (ap (λ (s : SeatValue). s.n) c.last.view_is ∙ one.n);
      slots = c.last.invariant.2;
    }

pub join_seat-requires : goal.join_seat-requires
join_seat-requires c =
    let h = c.loop-other.invariant in
    let whole = c.loop-other.whole in
    let seat = c.other.inside.seat in
    let table = c.self.inside.table in
    let one : BelongsTo c.args.self.now c.in-Some-pop.other = of_last (BelongsTo c.args.self.now) c.pop-in-loop-other.new.self.items c.in-Some-pop.other (subst (All (BelongsTo c.args.self.now)) c.in-Some-pop.ensures.items h.each) in
    let here : c.args.self.now.table ≡ table.shared.table_id = sym (ap (λ v. v.table) c.self.view_is) in (
      h.table ∙ here,
      ap (λ v. v.table) c.other.view_is ∙ one.table ∙ here,
      c.other.invariant.2,
      omega (arith, c.self.invariant.0),
      joins_before table.shared.key whole.id whole.me.0 seat.id seat.me.0 h.some (omega (arith, c.other.invariant.1)),
    )

pub loop-other-preserved : goal.loop-other-preserved
loop-other-preserved c =
    let h = c.loop-other.invariant in
    let whole = c.loop-other.whole in
    let other = c.in-Some-pop.other in
    let rest = c.pop-in-loop-other.new.self.items in
    let was : c.loop-other.seats.items ≡ rest ++ other ∷ [] = c.in-Some-pop.ensures.items in
    let view : c.join_seat.new.seat.me.0 ≡ joined_before whole.me.0 c.other.inside.seat.me.0 = ap (λ (me : Me (Unit {0}) SeatView). me.0) c.join_seat.ensures.2 in
    let mine : c.other.inside.seat.me.0.mine ≡ other.hand.mine = ap (λ (v : SeatValue). v.hand.mine) c.other.view_is in
    let past : c.other.inside.seat.me.0.past ≡ other.hand.past = ap (λ (v : SeatValue). v.hand.past) c.other.view_is in
    let weight : c.join_seat.new.seat.me.0.weight ≡ whole.me.0.weight + 1 = ap (λ (v : SeatView). v.weight) view ∙ ap (λ (k : ℕ). whole.me.0.weight + k) c.other.invariant.1 in
    record {
      each = of_others (BelongsTo c.args.self.now) rest other (subst (All (BelongsTo c.args.self.now)) was h.each);
      table = c.join_seat.ensures.0 ∙ h.table;
      mine =
          ap (λ (xs : List Piece). flat_map (λ (s : SeatValue). s.hand.mine) rest ++ xs) (ap (λ (v : SeatView). v.mine) view ∙ ap (λ (xs : List Piece). xs ++ whole.me.0.mine) mine)
          ∙ sym (flat_map-last (λ (s : SeatValue). s.hand.mine) rest other whole.me.0.mine)
          ∙ ap (λ (seats : List SeatValue). flat_map (λ (s : SeatValue). s.hand.mine) seats ++ whole.me.0.mine) (sym was)
          ∙ h.mine;
      past =
          ap (λ (xs : List Piece). flat_map (λ (s : SeatValue). s.hand.past) rest ++ xs) (ap (λ (v : SeatView). v.past) view ∙ ap (λ (xs : List Piece). xs ++ whole.me.0.past) past)
          ∙ sym (flat_map-last (λ (s : SeatValue). s.hand.past) rest other whole.me.0.past)
          ∙ ap (λ (seats : List SeatValue). flat_map (λ (s : SeatValue). s.hand.past) seats ++ whole.me.0.past) (sym was)
          ∙ h.past;
      weight = omega (arith, h.weight, c.in-Some-pop.ensures.len);
      some = omega arith;
      bounds = ap (λ (v : SeatView). v.bounds) view ∙ h.bounds;
      slots = ap (λ (me : Me (Unit {0}) SeatView). me.1) c.join_seat.ensures.2 ∙ h.slots;
    }
