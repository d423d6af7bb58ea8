use Rattle.chunk_reader.proofs.WellFormedFiles.{well_formed_is_one, file_is_one}
use Rattle.chunk_reader.proofs.laws.files_and_their_chunks_are_one.Goals as goal

pub returns : goal.returns
returns c = record { chunks = well_formed_is_one; file = file_is_one }
