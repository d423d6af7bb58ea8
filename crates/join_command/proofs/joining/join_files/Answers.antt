use Rattle.command_frame.proofs.AskedFiles.{keeps-asked}
use Rattle.join_command.proofs.JoinRuns.{runs-joined}
use Rattle.join_command.proofs.joining.join_files.Goals as goal

pub returns-clause-runs : goal.returns-clause-runs
returns-clause-runs g c = λ others.
    let did = c.make_joined-ended.ensures in
    runs-joined g.S.Store.bytes g.S.Store.told g.S.Store.handed g.S.Store.name g.S.Store.faults c.args.files.now c.make_joined-ended.new.files
    others.input _ _ others.grown _ _ _ _ c.make_joined-ended.result _ c.requires.many.0 (λ file. g.met.S.Store.sized file) did.files
    did.made.never_falls did.out.never_falls c.end_joining.ensures.notes.speaks.counts.never_falls did.joined
    c.end_joining.ensures.notes.said did.made.cause did.out.cause

pub returns-clause-files : goal.returns-clause-files
returns-clause-files g c =
    keeps-asked g.S.Store.bytes g.S.Store.told g.S.Store.handed g.S.Store.name g.S.Store.faults c.args.files.now c.make_joined-ended.new.files
    c.make_joined-ended.ensures.files
