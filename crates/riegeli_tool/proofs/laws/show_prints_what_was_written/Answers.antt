use Rattle.riegeli_tool.proofs.ReadBack.{shown-taken, shown-input}
use Rattle.riegeli_tool.proofs.WrittenSizes.{written-fits}
use Rattle.riegeli_tool.proofs.laws.show_prints_what_was_written.Goals as goal

pub returns : goal.returns
returns c = record { fits = written-fits; records = shown-taken; input = shown-input }
