use Rattle.std.proofs.Common.{[], ◌∷◌, ◌++◌, refl}
use Rattle.damage_skip.specs.Walks.{piece_of}
use Rattle.repair_copy.specs.declared.repairs.RepairEnd.TheVariants.{Made}
use Rattle.repair_copy.proofs.CopySteps.{begin_failed, copied_failed, event_copied, event_past}
use Rattle.repair_copy.proofs.copying.Copied.put.Goals as goal

pub returns-in_err-begin-clause-copies : goal.returns-in_err-begin-clause-copies
returns-in_err-begin-clause-copies g c = λ before events copied.
    copied_failed c.from_residual.result Made before _ _ (events ++ piece_of c.args.event.now ∷ []) c.from_residual.ensures.0 c.from_residual.ensures.1
    (begin_failed before _ _ _ c.args.self.now c.begin.new.self.file events (piece_of c.args.event.now ∷ []) copied
    c.in_err-begin.ensures.unbegun c.in_err-begin.ensures.front refl)

pub returns-clause-copies : goal.returns-clause-copies
returns-clause-copies g c =
    event_copied c.put_event.result _ _ _ _ c.args.self.now c.begin.new.self _ (piece_of c.args.event.now) c.in_ok-begin.ensures.whole c.put_event.ensures.copies

pub returns-clause-past : goal.returns-clause-past
returns-clause-past g c =
    event_past c.put_event.result _ _ _ _ c.args.self.now c.begin.new.self _ (piece_of c.args.event.now) _ _ c.in_ok-begin.ensures.whole
    c.put_event.ensures.copies c.put_event.ensures.quiet
