use Rattle.std.proofs.Common.{true}
use Rattle.chunk_reader.proofs.ManyFiles.{files_judged, first_is_one, first_or_none}
use Rattle.record_join.proofs.laws.files_have_a_first_fault_or_none.Goals as goal

pub returns : goal.returns
returns c = record { judged = files_judged true; apart = first_or_none true; one = first_is_one true }
