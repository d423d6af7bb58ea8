use Rattle.std.proofs.Common.{◌≡◌, ◌∙◌, ℕ, Option, None, List, replicate, ap, arith}
use Rattle.ordered_writer.specs.Reorders.{count_held, in_ring}
use Rattle.ordered_writer.proofs.Reorderings.{count_held-empty}
use Rattle.ordered_writer.proofs.Ring.{in_ring-empty}
use Rattle.ordered_writer.proofs.reorder.Reorder.new.Goals as goal

pub returns-clause-value : goal.returns-clause-value
returns-clause-value g c =
    let whole : c.loop.counter ≡ c.args.room = omega arith in
    ap (λ (held : List (Option g.row.T.Denot)). record { wanted = c.args.first; held = held })
    (ap (in_ring c.args.first) (c.loop.invariant.slots ∙ ap (λ (n : ℕ). replicate n None) whole) ∙ in_ring-empty c.args.first c.args.room)

pub returns-clause-empty : goal.returns-clause-empty
returns-clause-empty g c = ap count_held (returns-clause-value g c) ∙ count_held-empty _ c.args.first c.args.room
