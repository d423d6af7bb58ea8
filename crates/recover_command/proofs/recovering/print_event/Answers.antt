use Rattle.std.proofs.Common.{rules}
use Rattle.damage_skip.specs.Walks.{event_text}
use Rattle.recover_command.proofs.RecoverSteps.{prints-lines, prints-kept, breaks-lines}
use Rattle.recover_command.specs.RecoverProgress.{event_lines}
use Rattle.command_frame.specs.declared.status.Status.{Status}
use Rattle.recover_command.proofs.recovering.print_event.Goals as goal

pub returns-in-Ok-clause-prints : goal.returns-in-Ok-clause-prints
returns-in-Ok-clause-prints g c = λ made.
    prints-lines c.args.status c.args.words.now c.args.event made _ _ _ c.args.lines.now _ (search rules) (search rules)

pub returns-in-Records-clause-prints : goal.returns-in-Records-clause-prints
returns-in-Records-clause-prints g c = λ made.
    breaks-lines Status (event_lines c.args.words.now c.args.event) (event_text c.args.event) made _ _ _ c.args.lines.now c.put_records.new.lines (search rules)

pub returns-in-Kept-clause-prints : goal.returns-in-Kept-clause-prints
returns-in-Kept-clause-prints g c = λ made.
    prints-kept c.args.status c.args.words.now c.args.event made _ _ c.args.lines.now (search rules) (c.requires.kept_none (search rules))
