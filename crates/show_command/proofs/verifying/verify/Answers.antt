use Rattle.std.proofs.Common.{ap, arith}
use Rattle.show_command.specs.VerifyCommand.{IsVerified, IsVerifiedSoFar, verify_meaning}
use Rattle.show_command.proofs.ReadingRuns.{verify_reads, runs-reading}
use Rattle.command_frame.proofs.FileRuns.{still-sized, file-keeps}
use Rattle.show_command.proofs.VerifyEnds.{unprinted-so_far}
use Rattle.show_command.proofs.verifying.verify.Goals as goal

pub returns-clause-runs : goal.returns-clause-runs
returns-clause-runs g c = λ others.
    let did = c.report_file-ended.ensures in
    let exact = still-sized _ _ _ did.same_bytes (g.met.S.Store.sized c.report_file-ended.new.file) in
    runs-reading verify_meaning IsVerified IsVerifiedSoFar verify_reads others.input others.made _ _ others.grown _ _ _ _
    (file-keeps verify_meaning IsVerified IsVerifiedSoFar verify_reads.one others.input others.made others.made _ _ others.grown _ _ _ _
    did.file.never_falls (omega arith) did.out.never_falls c.end_reading.ensures.notes.speaks.counts.never_falls exact did.handed (λ r is. tt))
    c.report_file-ended.result _ did.allowed exact
    (did.printed others.made.bytes (g.E.Sink.taken c.args.notes.now))
    (λ short sound. unprinted-so_far _ others.made.bytes _ _ (g.E.Sink.taken c.args.notes.now)
    (ap g.O.Sink.taken (did.same_out short))) c.end_reading.ensures.notes.said
    did.file.cause did.out.cause
