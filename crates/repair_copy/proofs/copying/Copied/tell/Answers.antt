use Rattle.std.proofs.Common.{refl}
use Rattle.damage_skip.specs.declared.events.Event.TheVariants.{Skipped}
use Rattle.damage_skip.specs.Walks.{piece_of}
use Rattle.repair_copy.specs.declared.repairs.RepairEnd.TheVariants.{Made}
use Rattle.repair_copy.proofs.CopySteps.{copies_failed, flush_failed, line_failed, line_put}
use Rattle.repair_copy.proofs.copying.Copied.tell.Goals as goal

pub returns-in_err-flush-clause-copies : goal.returns-in_err-flush-clause-copies
returns-in_err-flush-clause-copies g c =
    copies_failed c.from_residual.result Made _ _ c.args.self.now _ _ c.from_residual.ensures.0 c.from_residual.ensures.1
    (flush_failed _ _ _ c.args.self.now.file (piece_of (Skipped c.args.region.now)) refl c.in_err-flush.ensures.made.front)

pub returns-in-Ok-clause-copies : goal.returns-in-Ok-clause-copies
returns-in-Ok-clause-copies g c =
    line_put _ _ _ _ c.args.self.now _ (piece_of (Skipped c.args.region.now)) refl refl c.requires.going c.in_ok-flush.ensures.made.whole
    c.flush.ensures.emptied c.in-Ok.ensures.sink.whole refl refl

pub returns-in-Err-clause-copies : goal.returns-in-Err-clause-copies
returns-in-Err-clause-copies g c =
    line_failed _ _ _ _ c.args.self.now.file (piece_of (Skipped c.args.region.now)) refl c.in_ok-flush.ensures.made.whole
    c.in-Err.ensures.sink.front
