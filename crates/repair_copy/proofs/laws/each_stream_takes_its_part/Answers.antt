use Rattle.repair_copy.proofs.RepairPuts.{made_in-repair, notes_in-repair, out_in-repair, repair_puts-append}
use Rattle.repair_copy.proofs.WholeLines.{whole_lines}
use Rattle.repair_copy.proofs.laws.each_stream_takes_its_part.Goals as goal

pub returns : goal.returns
returns c = record { made = made_in-repair; notes = notes_in-repair; out = out_in-repair; more = repair_puts-append; lines = whole_lines }
