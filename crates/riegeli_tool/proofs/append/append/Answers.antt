use Rattle.riegeli_tool.proofs.AppendRuns.{runs-append}
use Rattle.riegeli_tool.proofs.append.append.Goals as goal

pub returns-clause-runs : goal.returns-clause-runs
returns-clause-runs g c = λ others.
    let did = c.append_lines-ended.ensures in
    runs-append c.args.words.now _ _ others.files others.made _ _ _ _ _ _
    did.input.never_falls did.grown.never_falls did.out.never_falls c.end_appending.ensures.notes.speaks.counts.never_falls did.input.taken did.handed
    c.append_lines-ended.result _ did.sized did.appended did.kept did.input.cause did.grown.cause did.out.cause did.input.to_end
    c.end_appending.ensures.notes.said
