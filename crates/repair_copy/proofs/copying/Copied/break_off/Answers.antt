use Rattle.repair_copy.proofs.CopySteps.{put_at_fault}
use Rattle.repair_copy.proofs.copying.Copied.break_off.Goals as goal

pub returns-clause-put : goal.returns-clause-put
returns-clause-put g c =
    λ before notes events. put_at_fault c.flush.result before _ _ notes c.args.self.now events _ _
    c.flush.ensures.made.whole c.flush.ensures.made.front c.flush.ensures.made.counts.cause
