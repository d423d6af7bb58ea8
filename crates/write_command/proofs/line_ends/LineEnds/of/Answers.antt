use Rattle.write_command.proofs.KnownEnds.{knows-begin}
use Rattle.write_command.proofs.line_ends.LineEnds.of.Goals as goal

pub returns : goal.returns
returns c to = knows-begin c.args.bytes.now to _ c.requires c.marks_at.ensures
