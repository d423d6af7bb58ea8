use Rattle.std.proofs.Common.{None, [], List, refl, ap, subst, append-nil}
use Rattle.std.proofs.lemmas.Result.{err_from_is_err_and}
use Rattle.record_io.specs.Puts.{taken_by}
use Rattle.record_writer.specs.MadeFiles.{totals_made}
use Rattle.damage_skip.specs.Pieces.{Piece}
use Rattle.repair_copy.specs.Copies.{HasCopiedFront}
use Rattle.repair_copy.specs.declared.repairs.RepairEnd.TheVariants as end
use Rattle.repair_copy.proofs.CopySteps.{begin_failed, finish_put}
use Rattle.repair_copy.proofs.copying.Copied.finish.Goals as goal

pub returns-in_err-begin-clause-puts : goal.returns-in_err-begin-clause-puts
returns-in_err-begin-clause-puts g c =
    let p = err_from_is_err_and c.from_residual.result c.from_residual.ensures.1 in
    rw p.1 (λ before notes events copied.
    subst (λ (es : List Piece). HasCopiedFront end.Made before (taken_by (g.M.Sink.taken c.begin.new.made) None notes) es) (append-nil events)
    (begin_failed before _ _ notes c.args.self.now c.begin.new.self.file events [] copied c.in_err-begin.ensures.unbegun c.in_err-begin.ensures.front refl))

pub returns-clause-puts : goal.returns-clause-puts
returns-clause-puts g c =
    finish_put c.flush.result _ _ _ c.args.self.now c.begin.new.self (record { file = c.flush.new.self; begun = c.begin.new.self.begun; regions = c.begin.new.self.regions })
    c.in_ok-begin.ensures.whole c.flush.ensures.made.whole c.flush.ensures.made.front (ap totals_made c.flush.ensures.emptied) refl
