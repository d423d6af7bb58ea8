use Rattle.riegeli_c.proofs.SeekSteps.{found-held}
use Rattle.riegeli_c.proofs.laws.found_chunks_hold_their_positions.Goals as goal

pub returns : goal.returns
returns c = found-held
