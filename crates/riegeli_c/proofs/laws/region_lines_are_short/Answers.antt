use Rattle.riegeli_c.proofs.EnoughRoom.{line_short}
use Rattle.riegeli_c.proofs.laws.region_lines_are_short.Goals as goal

pub returns : goal.returns
returns c = line_short
