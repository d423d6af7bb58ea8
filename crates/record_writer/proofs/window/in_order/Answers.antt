use Rattle.std.proofs.Common.{◌≡◌, ◌∙◌, ℕ, None, List, sym, ap, subst, arith, rules}
use Rattle.std.specs.Vec.Iter.{into_iter_items}
use Rattle.std.proofs.lemmas.List.{length-replicate}
use Rattle.chunk_workers.specs.declared.places.RunPlace.{RunPlace}
use Rattle.ordered_writer.specs.Reorders.{CanHoldEach, Reordering, reordering_from, room_of, with_each}
use Rattle.ordered_writer.proofs.ByNumber.{can_hold_window, fresh_window}
use Rattle.ordered_writer.proofs.Reorderings.{room_of-held}
use Rattle.record_writer.proofs.window.in_order.Goals as goal

pub loop-number-init : goal.loop-number-init
loop-number-init c =
    let is = c.in_ok-order.ensures.value in
    let start : Reordering RunPlace = reordering_from 0 c.args.count in
    let room : room_of start ≡ c.args.count = length-replicate c.args.count None in
    let places = c.args.places.items in
    let same : into_iter_items c.into_iter-number-iterator.result ≡ places = search rules in
    record {
      wanted = ap (λ (r : Reordering RunPlace). r.wanted) is;
      room = ap (λ (r : Reordering RunPlace). room_of r) is ∙ room;
      can_hold = subst (λ (items : List (ℕ × RunPlace)). CanHoldEach c.in_ok-order.order items) (sym same)
          (subst (λ (r : Reordering RunPlace). CanHoldEach r places) (sym is)
          (can_hold_window start c.args.count places (fresh_window 0 c.args.count places c.requires.each)));
      held = subst (λ (items : List (ℕ × RunPlace)). with_each c.in_ok-order.order items ≡ with_each start places) (sym same)
          (ap (λ (r : Reordering RunPlace). with_each r places) is);
    }

pub hold-requires-clause-in_reach : goal.hold-requires-clause-in_reach
hold-requires-clause-in_reach c = omega (arith, c.loop-number.invariant.wanted, c.loop-number.invariant.room, c.requires.few)

pub hold-requires-clause-free : goal.hold-requires-clause-free
hold-requires-clause-free c =
    (subst (λ (items : List (ℕ × RunPlace)). CanHoldEach c.loop-number.order items) c.in-Some.ensures.steps.0 c.loop-number.invariant.can_hold).0

pub loop-number-preserved : goal.loop-number-preserved
loop-number-preserved c =
    let before = c.loop-number.invariant in
    let rest = into_iter_items c.next.new.self in
    let step = c.in-Some.ensures.steps.0 in
    let held = c.hold.ensures.held in
    record {
      wanted = ap (λ (r : Reordering RunPlace). r.wanted) held ∙ before.wanted;
      room = ap (λ (r : Reordering RunPlace). room_of r) held ∙ room_of-held c.loop-number.order _ _ ∙ before.room;
      can_hold = subst (λ (r : Reordering RunPlace). CanHoldEach r rest) (sym held)
          (subst (λ (items : List (ℕ × RunPlace)). CanHoldEach c.loop-number.order items) step before.can_hold).1;
      held = ap (λ (r : Reordering RunPlace). with_each r rest) held
          ∙ sym (ap (λ (items : List (ℕ × RunPlace)). with_each c.loop-number.order items) step)
          ∙ before.held;
    }
