use Rattle.std.proofs.Common.{◌≡◌, ◌∙◌, ℕ, ◌+◌, ◌%◌, ◌<◌, ◌∷◌, Option, None, List, length, get_or, set, sym, ap, arith}
use Rattle.std.proofs.lemmas.List.{get_or_default, length-set}
use Rattle.std.proofs.lemmas.Nat.{mod_below}
use Rattle.ordered_writer.specs.Reorders.{Reordering, count_held, coming, held_at, in_ring, moved_on, room_of}
use Rattle.ordered_writer.proofs.Reorderings.{coming-moved, count_held-moved}
use Rattle.ordered_writer.proofs.Ring.{first-in_ring, in_ring-next, length-in_ring}
use Rattle.ordered_writer.proofs.reorder.Reorder.next.Goals as goal

pub returns-clause-gives : goal.returns-clause-gives
returns-clause-gives g c =
    let slots = c.self.inside.slots.items in
    let wanted = c.self.inside.wanted in
    let count : c.len.result ≡ length slots = c.len.ensures ∙ c.self.inside.slots.ok.0 in
    let slot : c.slot_of-slot.result ≡ wanted % length slots = c.slot_of-slot.ensures ∙ ap (λ (n : ℕ). wanted % n) count in
    let some : 0 < length slots = omega (arith, c.self.invariant, c.self.inside.slots.ok.0) in
    sym c.in_ok-item.was
    ∙ c.take.ensures.value
    ∙ c.index_mut.ensures.value
    ∙ ap (λ (n : ℕ). get_or slots n c.index_mut.result.now) slot
    ∙ get_or_default slots (wanted % length slots) c.index_mut.result.now None (mod_below wanted (length slots) some)
    ∙ first-in_ring wanted slots some
    ∙ ap (λ (r : Reordering g.row.T.Denot). held_at r r.wanted) c.self.view_is

pub returns-clause-some : goal.returns-clause-some
returns-clause-some g c =
    let slots = c.self.inside.slots.items in
    let wanted = c.self.inside.wanted in
    let count : c.len.result ≡ length slots = c.len.ensures ∙ c.self.inside.slots.ok.0 in
    let slot : c.slot_of-slot.result ≡ wanted % length slots = c.slot_of-slot.ensures ∙ ap (λ (n : ℕ). wanted % n) count in
    ap (λ (held : List (Option g.row.T.Denot)). record { wanted = wanted + 1; held = held })
    (ap (λ (x : Option g.row.T.Denot). in_ring (wanted + 1) (set slots c.slot_of-slot.result x)) c.take.ensures.after
    ∙ ap (λ (n : ℕ). in_ring (wanted + 1) (set slots n None)) slot
    ∙ in_ring-next wanted slots (omega (arith, c.self.invariant, c.self.inside.slots.ok.0)))
    ∙ ap moved_on c.self.view_is

pub returns-clause-coming : goal.returns-clause-coming
returns-clause-coming g c =
    coming-moved c.args.self.now c.in_ok-item.item (sym (returns-clause-gives g c))
    ∙ ap (λ (r : Reordering g.row.T.Denot). c.in_ok-item.item ∷ coming r) (sym (returns-clause-some g c))

pub returns-clause-count : goal.returns-clause-count
returns-clause-count g c =
    count_held-moved c.args.self.now c.in_ok-item.item (sym (returns-clause-gives g c))
    ∙ ap (λ (r : Reordering g.row.T.Denot). 1 + count_held r) (sym (returns-clause-some g c))

pub returns-clause-room : goal.returns-clause-room
returns-clause-room g c =
    let slots = c.self.inside.slots.items in
    length-in_ring (c.self.inside.wanted + 1) (set slots c.slot_of-slot.result c.take.new.self)
    ∙ length-set slots c.slot_of-slot.result c.take.new.self
    ∙ sym (length-in_ring c.self.inside.wanted slots)
    ∙ ap room_of c.self.view_is
