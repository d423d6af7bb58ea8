use Rattle.record_group.proofs.Grouping.{groups-keep, groups-alone}
use Rattle.record_group.proofs.laws.groups_keep_limits.Goals as goal

pub returns : goal.returns
returns c = record { limits = groups-keep; alone = groups-alone }
