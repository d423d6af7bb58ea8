use Rattle.number_shares.proofs.Runs.{counted_after_run, one_past_after_run, going_after_run, ended_after_run}
use Rattle.number_shares.proofs.laws.runs_take_each_number_once.Goals as goal

pub returns-clause-counted : goal.returns-clause-counted
returns-clause-counted c = counted_after_run

pub returns-clause-one_past : goal.returns-clause-one_past
returns-clause-one_past c = one_past_after_run

pub returns-clause-going : goal.returns-clause-going
returns-clause-going c = going_after_run

pub returns-clause-ended : goal.returns-clause-ended
returns-clause-ended c = ended_after_run
