use Rattle.block_layout.proofs.Room.{room_shift}
use Rattle.block_layout.proofs.Ends.{end_of_shift}
use Rattle.block_layout.proofs.ChunkEnds.{chunk_end_of_shift}
use Rattle.ordered_writer.proofs.Moves.{AreLaid-alike, IsBoundary-alike, IsLaid-alike, end_of_chunks-further, laid-alike, laid_each-alike, padding_at-alike, padding_bytes-alike}
use Rattle.ordered_writer.proofs.laws.laying_moves_by_blocks.Goals as goal

pub returns-clause-room : goal.returns-clause-room
returns-clause-room c = room_shift

pub returns-clause-end : goal.returns-clause-end
returns-clause-end c = end_of_shift

pub returns-clause-chunk_end : goal.returns-clause-chunk_end
returns-clause-chunk_end c = chunk_end_of_shift

pub returns-clause-chunks_end : goal.returns-clause-chunks_end
returns-clause-chunks_end c = end_of_chunks-further

pub returns-clause-boundary : goal.returns-clause-boundary
returns-clause-boundary c = IsBoundary-alike

pub returns-clause-is_laid : goal.returns-clause-is_laid
returns-clause-is_laid c = IsLaid-alike

pub returns-clause-are_laid : goal.returns-clause-are_laid
returns-clause-are_laid c = AreLaid-alike

pub returns-clause-laid : goal.returns-clause-laid
returns-clause-laid c = laid-alike

pub returns-clause-laid_each : goal.returns-clause-laid_each
returns-clause-laid_each c = laid_each-alike

pub returns-clause-padding : goal.returns-clause-padding
returns-clause-padding c = padding_at-alike

pub returns-clause-padding_bytes : goal.returns-clause-padding_bytes
returns-clause-padding_bytes c = padding_bytes-alike
