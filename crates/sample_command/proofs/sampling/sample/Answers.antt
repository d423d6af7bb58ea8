use Rattle.std.proofs.Common.{Err, ap, arith, refl}
use Rattle.command_frame.proofs.RunEnds.{keeps-unread, none-taken}
use Rattle.sample_command.specs.SampleCommand.{sample_meaning}
use Rattle.sample_command.proofs.SampleRuns.{sample-whole, sample-cut_off}
use Rattle.sample_command.proofs.sampling.sample.Goals as goal

pub returns-in-Ok-clause-runs : goal.returns-in-Ok-clause-runs
returns-in-Ok-clause-runs g c = λ others.
    sample-whole c.args.words.now others.input others.files _ _ others.grown _ _ _ _
    (keeps-unread (sample_meaning c.args.words.now) others.input others.input others.files _ _ others.grown _ _ _ _ refl (λ r. tt) (omega arith)
    c.in-Ok.ensures.made.never_falls c.in-Ok.ensures.out.never_falls (omega arith)
    (none-taken 0 others.input.bytes))
    c.in-Ok.ensures.taken.0 c.in-Ok.ensures.taken.1 refl

pub returns-in-Err-clause-runs : goal.returns-in-Err-clause-runs
returns-in-Err-clause-runs g c = λ others.
    rw c.cut_off.ensures.status
    (sample-cut_off c.args.words.now others.input others.files _ _ others.grown _ _ _ _
    (keeps-unread (sample_meaning c.args.words.now) others.input others.input others.files _ _ others.grown _ _ _ _ refl (λ r. tt) (omega arith)
    c.in-Err.ensures.made.never_falls c.in-Err.ensures.out.never_falls c.cut_off.ensures.notes.never_falls
    (none-taken 0 others.input.bytes))
    (Unit {0}) c.in-Err.cut c.in-Err.ensures.taken (λ is. c.in-Err.ensures.made.cause (ap Err is)) (λ is. c.in-Err.ensures.out.cause (ap Err is))
    c.cut_off.ensures.told)
