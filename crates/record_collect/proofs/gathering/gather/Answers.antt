use Rattle.record_collect.proofs.WholeGatherings.{listed-of, owed}
use Rattle.record_collect.proofs.gathering.gather.Goals as goal

pub returns-in-Ok-clause-complete : goal.returns-in-Ok-clause-complete
returns-in-Ok-clause-complete g c = λ files tells.
    owed files c.in_one_list.result
    (listed-of c.in-Ok.batches c.in_one_list.result files c.in_one_list.ensures (c.in-Ok.ensures.gathered files tells))
