use Rattle.riegeli_tool.proofs.RepairSteps.{status_of-none, status_of-some}
use Rattle.riegeli_tool.proofs.repair.status_past.Goals as goal

pub returns-then-regions-eq0-clause-told : goal.returns-then-regions-eq0-clause-told
returns-then-regions-eq0-clause-told c = status_of-none c.args.regions c.if-regions-eq0.true

pub returns-else-regions-eq0-clause-told : goal.returns-else-regions-eq0-clause-told
returns-else-regions-eq0-clause-told c = status_of-some c.args.regions c.if-regions-eq0.false
