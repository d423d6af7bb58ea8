use Rattle.meta_chunk.proofs.ChunkBytes.{own-IsLaid, usable_bytes_at-IsLaid, header_at-IsLaid, headers-IsLaid, IsLaid-from_usable_bytes}
use Rattle.meta_chunk.proofs.OneChunk.{IsLaid-one_at}
use Rattle.meta_chunk.proofs.laws.chunk_bytes_stand_at_the_begin.Goals as goal

pub returns : goal.returns
returns c = record {
  first = own-IsLaid;
  in_file = usable_bytes_at-IsLaid;
  header = header_at-IsLaid;
  headers = headers-IsLaid;
  laid = IsLaid-from_usable_bytes;
  one = IsLaid-one_at;
}
