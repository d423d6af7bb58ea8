use Rattle.record_group.proofs.Pushes.{groups-pushes}
use Rattle.record_group.proofs.laws.pushes_give_the_groups.Goals as goal

pub returns : goal.returns
returns c = record { all = groups-pushes }
