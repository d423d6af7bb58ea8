use Rattle.command_frame.proofs.AskedFiles.{keeps-asked}
use Rattle.join_command.proofs.CollectRuns.{runs-collected}
use Rattle.join_command.proofs.collecting.collect_files.Goals as goal

pub returns-clause-runs : goal.returns-clause-runs
returns-clause-runs g c = λ others.
    let did = c.make_collected-ended.ensures in
    -- what is known of a store in whatever thread, in this one
    let here = g.met.S.Store g.world.𝓛 g.world.𝓜 g.world.𝓡 ((λ s x. x), (λ x. x), (λ x. x), λ x. x) in
    runs-collected g.S.Store.bytes g.S.Store.told g.S.Store.handed g.S.Store.name g.S.Store.faults c.args.files.now c.make_collected-ended.new.files
    others.input _ _ others.grown _ _ _ _ c.make_collected-ended.result _ (λ file. here.sized file) did.files
    did.made.never_falls did.out.never_falls c.end_collecting.ensures.notes.speaks.counts.never_falls did.collected
    c.end_collecting.ensures.notes.said did.made.cause did.out.cause

pub returns-clause-files : goal.returns-clause-files
returns-clause-files g c =
    keeps-asked g.S.Store.bytes g.S.Store.told g.S.Store.handed g.S.Store.name g.S.Store.faults c.args.files.now c.make_collected-ended.new.files
    c.make_collected-ended.ensures.files
