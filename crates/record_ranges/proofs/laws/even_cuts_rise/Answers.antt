use Rattle.record_ranges.proofs.EvenCuts.{even-rise}
use Rattle.record_ranges.proofs.laws.even_cuts_rise.Goals as goal

pub returns : goal.returns
returns c = even-rise
