use Rattle.chunk_reader.proofs.WellFormedFiles.{readable_of_well_formed, fault_strict, fault_compressed, fault_transposed}
use Rattle.chunk_reader.proofs.laws.well_formed_files_are_read_strictly_up_to_unread_chunks.Goals as goal

pub returns : goal.returns
returns c = record {
  file = readable_of_well_formed;
  plain = λ ks file place fault longest plain is. fault_strict ks file place fault is longest plain;
  compressed = fault_compressed;
  transposed = fault_transposed;
}
