use Rattle.std.proofs.Common.{◌∙◌, ap}
use Rattle.std.proofs.lemmas.Result.{on_ok_weaker}
use Rattle.simple_chunk.specs.RecordGroups.{cut_at}
use Rattle.simple_chunk.proofs.GroupLists.{record_pushed}
use Rattle.simple_chunk.proofs.record_groups.RecordGroups.push_record.Goals as goal

pub returns-clause-appends : goal.returns-clause-appends
returns-clause-appends c =
    rw (← c.self.view_is)
    (on_ok_weaker c.push.result
    (λ pushed. ap (cut_at c.self.inside.cuts.items) pushed ∙ record_pushed c.self.inside.cuts.items c.self.inside.records c.args.rec.now c.self.invariant)
    c.push.ensures.appends)
