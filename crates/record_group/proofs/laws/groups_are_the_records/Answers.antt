use Rattle.record_group.proofs.Grouping.{joined-groups}
use Rattle.record_group.proofs.laws.groups_are_the_records.Goals as goal

pub returns : goal.returns
returns c = record { joined = joined-groups }
