use Rattle.std.proofs.Common.{◌≡◌, ◌∙◌, ℕ, ◌+◌, ◌%◌, ◌<◌, ◌≤◌, Option, Some, List, length, set, sym, ap, subst, arith}
use Rattle.ordered_writer.specs.Reorders.{Reordering, count_held, in_ring, with_held}
use Rattle.ordered_writer.proofs.Reorderings.{count_held-held}
use Rattle.ordered_writer.proofs.Ring.{in_ring-set, length-in_ring}
use Rattle.ordered_writer.proofs.reorder.Reorder.hold.Goals as goal
use Rattle.ordered_writer.proofs.reorder.Reorder.hold.Goals.{After-slot_of-slot}

pub returns-clause-held : goal.returns-clause-held
returns-clause-held g c =
    let slots = c.self.inside.slots.items in
    let wanted = c.self.inside.wanted in
    let number = c.args.number in
    let free = subst (λ (r : Reordering g.row.T.Denot). (r.wanted ≤ number) × (number < r.wanted + length r.held)) (sym c.self.view_is) (c.requires.free.low, c.requires.free.high) in
    let slot : c.slot_of-slot.result ≡ number % length slots =
    c.slot_of-slot.ensures ∙ ap (λ (n : ℕ). number % n) (c.len.ensures ∙ c.self.inside.slots.ok.0) in
    ap (λ (n : ℕ). record { wanted = wanted; held = in_ring wanted (set slots n (Some c.args.item)) }) slot
    ∙ ap (λ (held : List (Option g.row.T.Denot)). record { wanted = wanted; held = held })
    (in_ring-set wanted slots number (Some c.args.item) free.0 (omega (arith, free.1, length-in_ring wanted slots)))
    ∙ ap (λ (r : Reordering g.row.T.Denot). with_held r number c.args.item) c.self.view_is

pub returns-clause-count : goal.returns-clause-count
returns-clause-count g c =
    ap count_held (returns-clause-held g c) ∙ count_held-held c.args.self.now c.args.number c.args.item c.requires.free
