use Rattle.std.proofs.Common.{rules, append-nil, []}
use Rattle.damage_skip.specs.Walks.{event_text}
use Rattle.recover_command.proofs.RecoverSteps.{breaks-lines, breaks-text, prints-text}
use Rattle.damage_skip.specs.declared.events.Event.TheVariants.{Skipped}
use Rattle.recover_command.proofs.recovering.tell_region.Goals as goal

pub returns-then-is_err-clause-prints : goal.returns-then-is_err-clause-prints
returns-then-is_err-clause-prints g c = λ made.
    breaks-lines (Unit {0}) [] (event_text (Skipped c.args.region.now)) made _ _ _ c.args.lines.now c.flush.new.self (search (rules, append-nil))

pub returns-in-Ok-clause-prints : goal.returns-in-Ok-clause-prints
returns-in-Ok-clause-prints g c = λ made.
    prints-text (event_text (Skipped c.args.region.now)) made _ _ _ _ c.args.lines.now (search rules) c.in-Ok.field-0 _ (search rules) c.in-Ok.ensures.sink.whole

pub returns-in-Err-clause-prints : goal.returns-in-Err-clause-prints
returns-in-Err-clause-prints g c = λ made.
    breaks-text (event_text (Skipped c.args.region.now)) made _ _ _ _ c.args.lines.now (search rules) (Unit {0}) c.flush.new.self c.in-Err.ensures.sink.front
