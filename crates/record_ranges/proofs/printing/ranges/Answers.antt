use Rattle.std.proofs.Common.{arith}
use Rattle.command_frame.proofs.AskedFiles.{keeps-asked}
use Rattle.record_ranges.proofs.RangesRuns.{runs-read}
use Rattle.record_ranges.proofs.printing.ranges.Goals as goal

pub returns-clause-runs : goal.returns-clause-runs
returns-clause-runs g c = λ others.
    let did = c.print_file-ended.ensures in
    -- what is known of a store in whatever thread, in this one
    let here = g.met.S.Store g.world.𝓛 g.world.𝓜 g.world.𝓡 ((λ s x. x), (λ x. x), (λ x. x), λ x. x) in
    runs-read g.S.Store.bytes g.S.Store.told g.S.Store.handed g.S.Store.name g.S.Store.faults c.args.files.now c.print_file-ended.new.files
    others.input others.made others.grown _ _ _ _ c.print_file-ended.result _ (omega (arith, c.requires.parts.0, c.requires.parts.1))
    (λ file. here.sized file) did.files did.out.never_falls c.end_ranges.ensures.notes.speaks.counts.never_falls
    did.prints.of_file did.prints.only_whole c.end_ranges.ensures.notes.said did.out.cause

pub returns-clause-files : goal.returns-clause-files
returns-clause-files g c =
    keeps-asked g.S.Store.bytes g.S.Store.told g.S.Store.handed g.S.Store.name g.S.Store.faults c.args.files.now c.print_file-ended.new.files
    c.print_file-ended.ensures.files
