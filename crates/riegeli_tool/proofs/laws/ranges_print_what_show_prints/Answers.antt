use Rattle.record_ranges.proofs.RangesStreams.{ranges-as_shown}
use Rattle.riegeli_tool.proofs.laws.ranges_print_what_show_prints.Goals as goal

pub returns : goal.returns
returns c = record { same = ranges-as_shown }
