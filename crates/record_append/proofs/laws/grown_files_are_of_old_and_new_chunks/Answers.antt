use Rattle.record_append.proofs.GrownFiles.{grown_well_formed, grown_records}
use Rattle.record_append.proofs.laws.grown_files_are_of_old_and_new_chunks.Goals as goal

pub returns : goal.returns
returns c = record { well_formed = grown_well_formed; records = grown_records }
