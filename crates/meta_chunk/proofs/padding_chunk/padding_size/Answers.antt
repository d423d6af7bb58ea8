use Rattle.std.proofs.Common.{arith}
use Rattle.meta_chunk.proofs.PaddingLemmas.{IsPaddingSize-near, IsPaddingSize-far}
use Rattle.meta_chunk.proofs.padding_chunk.padding_size.Goals as goal

pub returns-then-rest-ge-CHUNK_HEADER_SIZE-clause-meets : goal.returns-then-rest-ge-CHUNK_HEADER_SIZE-clause-meets
returns-then-rest-ge-CHUNK_HEADER_SIZE-clause-meets c = IsPaddingSize-near c.args.at _ (omega arith) (omega arith)

pub returns-else-rest-ge-CHUNK_HEADER_SIZE-clause-meets : goal.returns-else-rest-ge-CHUNK_HEADER_SIZE-clause-meets
returns-else-rest-ge-CHUNK_HEADER_SIZE-clause-meets c =
    IsPaddingSize-far c.args.at _ (omega arith) (omega arith) (omega arith)
