use Rattle.std.proofs.Common.{◌≡◌, ◌∙◌, ℕ, ◌+◌, ◌<◌, List, [], ◌∷◌, ◌++◌, All, map, length, ap, sym, subst, arith}
use Rattle.std.specs.List.{AllByRecursion}
use Rattle.std.specs.Option.{option_to_list}
use Rattle.std.proofs.lemmas.Grind.{common_steps}
use Rattle.std.proofs.lemmas.List.{append-nil}
use Rattle.number_shares.proofs.Lists.{of_last, of_others, flat_map-last}
use Rattle.atomic_table.specs.Table.{Me}
use Rattle.number_shares.specs.declared.table.Piece.{Piece}
use Rattle.number_shares.specs.declared.table.SeatView.{SeatView}
use Rattle.record_collect.specs.declared.collector.Batch.{Batch}
use Rattle.record_collect.specs.declared.placed.Placed.{Placed}
use Rattle.number_shares.specs.Rule.{joined_behind}
use Rattle.record_collect.specs.Passes.{AreShort, PassValue, Rises, ends_of}
use Rattle.record_collect.specs.Orders.{piece_at, place_in}
use Rattle.record_collect.proofs.PlacedPasses.{IsGathered, gathered_none, gathered_more}
use Rattle.record_collect.proofs.PlacedPasses.{pieces_placed}
use Rattle.record_collect.proofs.PassLemmas.{map-append}
use Rattle.number_shares.proofs.Tables.{joins_behind}
use Rattle.record_collect.proofs.collector.Collector.joined.Goals as goal

pub loop-other-init : goal.loop-other-init
loop-other-init c =
    let rest : List PassValue = c.pop.new.self.items in
    let last : PassValue = c.in-Some.last in
    let batches : List Batch = c.last.inside.batches.items in
    let was : c.args.passes.items ≡ rest ++ last ∷ [] = c.in-Some.ensures.items in
    let each : All (λ (p : PassValue). p.table ≡ c.args.self.now.table) (rest ++ last ∷ []) = subst (All (λ (p : PassValue). p.table ≡ c.args.self.now.table)) was c.requires.each in
    let mine : batches ≡ last.mine = ap (λ (v : PassValue). v.mine) c.last.view_is in
    let items : c.place_all.new.all.items ≡ map (place_in (length rest)) last.mine =
    c.in_ok-place_all.ensures
    ∙ ap (λ (l : List Placed). l ++ map (place_in c.len.result) batches) c.new-all.ensures.items
    ∙ ap (λ (n : ℕ). map (place_in n) batches) (omega (arith, c.len.ensures, c.pop.new.self.ok))
    ∙ ap (map (place_in (length rest))) mine in
    record {
      each = of_others (λ (p : PassValue). p.table ≡ c.args.self.now.table) rest last each;
      table = ap (λ (v : PassValue). v.table) c.last.view_is ∙ of_last (λ (p : PassValue). p.table ≡ c.args.self.now.table) rest last each;
      mine = c.last.invariant.0 ∙ sym (pieces_placed (length rest) batches) ∙ ap (λ (es : List Batch). map piece_at (map (place_in (length rest)) es)) mine ∙ ap (map piece_at) (sym items);
      past =
          ap (λ (ns : List ℕ). ends_of rest ++ ns) (c.last.invariant.1 ∙ ap (λ (v : PassValue). option_to_list v.ended) c.last.view_is ∙ sym (append-nil (option_to_list last.ended)))
          ∙ sym (flat_map-last (λ (p : PassValue). option_to_list p.ended) rest last [])
          ∙ append-nil (ends_of (rest ++ last ∷ []))
          ∙ ap ends_of (sym was);
      weight = omega (arith, c.last.invariant.2, c.in-Some.ensures.len);
      some = omega (arith, c.last.invariant.2);
      slots = c.last.invariant.3;
      gathered = subst (IsGathered rest c.args.passes.items) (sym items)
          (gathered_more rest c.args.passes.items last [] (subst Rises mine c.last.invariant.4) (subst AreShort mine c.last.invariant.6)
          (subst (λ (ps : List PassValue). IsGathered ps c.args.passes.items []) was (gathered_none c.args.passes.items)));
    }

pub join_seat-requires : goal.join_seat-requires
join_seat-requires c =
    let h = c.loop-other.invariant in
    let whole = c.loop-other.whole in
    let seat = c.other.inside.seat in
    let table = c.self.inside.table in
    let rest : List PassValue = c.pop-in-loop-other.new.self.items in
    let one : c.in-Some-pop.other.table ≡ c.args.self.now.table = of_last (λ (p : PassValue). p.table ≡ c.args.self.now.table) rest c.in-Some-pop.other (subst (All (λ (p : PassValue). p.table ≡ c.args.self.now.table)) c.in-Some-pop.ensures.items h.each) in
    let here : c.args.self.now.table ≡ table.shared.table_id = sym (ap (λ v. v.table) c.self.view_is) in (
      h.table ∙ here,
      ap (λ (v : PassValue). v.table) c.other.view_is ∙ one ∙ here,
      c.other.invariant.3,
      omega (arith, c.self.invariant.0),
      joins_behind table.shared.key whole.id whole.me.0 seat.id seat.me.0 h.some (omega (arith, c.other.invariant.2)),
    )

pub loop-other-preserved : goal.loop-other-preserved
loop-other-preserved c =
    let h = c.loop-other.invariant in
    let whole = c.loop-other.whole in
    let rest : List PassValue = c.pop-in-loop-other.new.self.items in
    let other : PassValue = c.in-Some-pop.other in
    let batches : List Batch = c.other.inside.batches.items in
    let was : c.loop-other.passes.items ≡ rest ++ other ∷ [] = c.in-Some-pop.ensures.items in
    let each : All (λ (p : PassValue). p.table ≡ c.args.self.now.table) (rest ++ other ∷ []) = subst (All (λ (p : PassValue). p.table ≡ c.args.self.now.table)) was h.each in
    let mine : batches ≡ other.mine = ap (λ (v : PassValue). v.mine) c.other.view_is in
    let view : c.join_seat.new.seat.me.0 ≡ joined_behind whole.me.0 c.other.inside.seat.me.0 = ap (λ (me : Me (Unit {0}) SeatView). me.0) c.join_seat.ensures.2 in
    let weight : c.join_seat.new.seat.me.0.weight ≡ whole.me.0.weight + 1 = ap (λ (v : SeatView). v.weight) view ∙ ap (λ (k : ℕ). whole.me.0.weight + k) c.other.invariant.2 in
    let placed : List Placed = map (place_in (length rest)) other.mine in
    let items : c.place_all-in-Some-pop.new.all.items ≡ c.loop-other.all.items ++ placed =
    c.in_ok-place_all-2.ensures
    ∙ ap (λ (n : ℕ). c.loop-other.all.items ++ map (place_in n) batches) (omega (arith, c.len-in-Some-pop.ensures, c.pop-in-loop-other.new.self.ok))
    ∙ ap (λ (es : List Batch). c.loop-other.all.items ++ map (place_in (length rest)) es) mine in
    record {
      each = of_others (λ (p : PassValue). p.table ≡ c.args.self.now.table) rest other each;
      table = c.join_seat.ensures.0 ∙ h.table;
      mine =
          ap (λ (v : SeatView). v.mine) view
          ∙ ap (λ (xs : List Piece). xs ++ c.other.inside.seat.me.0.mine) h.mine
          ∙ ap (λ (xs : List Piece). map piece_at c.loop-other.all.items ++ xs) (c.other.invariant.0 ∙ sym (pieces_placed (length rest) batches) ∙ ap (λ (es : List Batch). map piece_at (map (place_in (length rest)) es)) mine)
          ∙ sym (map-append piece_at c.loop-other.all.items placed)
          ∙ ap (map piece_at) (sym items);
      past =
          ap (λ (ns : List ℕ). ends_of rest ++ ns)
          (ap (λ (v : SeatView). map (λ (x : Piece). x.at) v.past) view
          ∙ map-append (λ (x : Piece). x.at) c.other.inside.seat.me.0.past whole.me.0.past
          ∙ ap (λ (ns : List ℕ). ns ++ map (λ (x : Piece). x.at) whole.me.0.past) (c.other.invariant.1 ∙ ap (λ (v : PassValue). option_to_list v.ended) c.other.view_is))
          ∙ sym (flat_map-last (λ (p : PassValue). option_to_list p.ended) rest other (map (λ (x : Piece). x.at) whole.me.0.past))
          ∙ ap (λ (ps : List PassValue). ends_of ps ++ map (λ (x : Piece). x.at) whole.me.0.past) (sym was)
          ∙ h.past;
      weight = omega (arith, h.weight, weight, c.in-Some-pop.ensures.len);
      some = omega (arith, weight);
      slots = ap (λ (me : Me (Unit {0}) SeatView). me.1) c.join_seat.ensures.2 ∙ h.slots;
      gathered = subst (IsGathered rest c.args.passes.items) (sym items)
          (gathered_more rest c.args.passes.items other c.loop-other.all.items (subst Rises mine c.other.invariant.4) (subst AreShort mine c.other.invariant.6)
          (subst (λ (ps : List PassValue). IsGathered ps c.args.passes.items c.loop-other.all.items) was h.gathered));
    }

-- no pass is left
pub returns-clause-seat : goal.returns-clause-seat
returns-clause-seat c =
    let h = c.loop-other.invariant in
    let none : c.loop-other.passes.items ≡ [] = grind (arith, common_steps) in
    record {
      mine = h.mine;
      past = subst (λ (ps : List PassValue). ends_of ps ++ map (λ (x : Piece). x.at) c.loop-other.whole.me.0.past ≡ ends_of c.args.passes.items) none h.past;
      weight = grind (arith, common_steps);
      slots = h.slots;
    }

pub returns-clause-placed : goal.returns-clause-placed
returns-clause-placed c =
    let none : c.loop-other.passes.items ≡ [] = grind (arith, common_steps) in
    let h = subst (λ (ps : List PassValue). IsGathered ps c.args.passes.items c.loop-other.all.items) none c.loop-other.invariant.gathered in
    record {
      each = λ i p at. h.placed i p (omega arith) at;
      rising = λ i p at. h.rising i p (omega arith) at;
      short = h.short;
      no_other = subst (λ (n : ℕ). AllByRecursion (λ (e : Placed). e.pass < n) c.loop-other.all.items) (grind (arith, common_steps)) h.no_other;
    }
