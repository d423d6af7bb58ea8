use Rattle.std.proofs.Common.{arith}
use Rattle.show_command.specs.ShowCommand.{IsShown, IsShownSoFar, show_meaning}
use Rattle.show_command.proofs.ReadingRuns.{show_reads, runs-reading}
use Rattle.command_frame.proofs.FileRuns.{still-sized, file-keeps}
use Rattle.show_command.proofs.showing.show.Goals as goal

pub returns-clause-runs : goal.returns-clause-runs
returns-clause-runs g c = λ others.
    let did = c.print_file-ended.ensures in
    let words = c.args.words.now in
    let exact = still-sized _ _ _ did.same_bytes (g.met.S.Store.sized c.print_file-ended.new.file) in
    runs-reading (show_meaning words) (IsShown words) (IsShownSoFar words) (show_reads words) others.input others.made _ _ others.grown _ _ _ _
    (file-keeps (show_meaning words) (IsShown words) (IsShownSoFar words) (show_reads words).one others.input others.made others.made _ _ others.grown _ _ _ _
    did.file.never_falls (omega arith) did.out.never_falls c.end_reading.ensures.notes.speaks.counts.never_falls exact did.handed (λ r is. tt))
    c.print_file-ended.result _ did.allowed exact
    (did.printed others.made.bytes (g.E.Sink.taken c.args.notes.now))
    (λ short sound. did.so_far short sound others.made.bytes (g.E.Sink.taken c.args.notes.now)) c.end_reading.ensures.notes.said
    did.file.cause did.out.cause
