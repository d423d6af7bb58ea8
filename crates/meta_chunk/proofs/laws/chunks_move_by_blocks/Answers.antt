use Rattle.meta_chunk.proofs.Shifts.{AreLaid-at_block}
use Rattle.meta_chunk.proofs.laws.chunks_move_by_blocks.Goals as goal

pub returns : goal.returns
returns c = record { at_block = AreLaid-at_block }
