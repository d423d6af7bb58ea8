use Rattle.block_layout.proofs.Ends.{end_is_end_of, end_from_number}
use Rattle.block_layout.proofs.ChunkEnds.{chunk_end_is_chunk_end_of, chunk_end_from_number}
use Rattle.block_layout.proofs.laws.ends_are_numbers.Goals as goal

pub returns : goal.returns
returns c = record {
  end = λ begin size end. (end_is_end_of begin size end, end_from_number begin size end);
  chunk_end = λ begin size num_records end.
      (chunk_end_is_chunk_end_of begin size num_records end, chunk_end_from_number begin size num_records end);
}
