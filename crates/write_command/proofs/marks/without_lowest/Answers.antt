use Rattle.write_command.proofs.MarkBits.{lowest-cleared}
use Rattle.write_command.proofs.marks.without_lowest.Goals as goal

pub returns : goal.returns
returns c k j set below = lowest-cleared c.args.mask j k set below
