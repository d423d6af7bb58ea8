use Rattle.std.proofs.Common.{Err, ap, arith, rules}
use Rattle.block_layout.proofs.Ends.{end_of_room}
use Rattle.chunk_reader.proofs.Loads.{header_within, refused_before}
use Rattle.chunk_reader.proofs.judging.read_chunk.Goals as goal

pub returns-in_err-data-clause-store : goal.returns-in_err-data-clause-store
returns-in_err-data-clause-store g c =
    record {
      asks = search rules;
      handed = omega (arith, end_of_room c.args.at 40, header_within c.args.at c.args.header.data_size c.args.header.num_records, c.requires.span.is_end);
    }

pub returns-in_err-feed_chunk-clause-wrong : goal.returns-in_err-feed_chunk-clause-wrong
returns-in_err-feed_chunk-clause-wrong g c =
    λ fault e.
    c.in_err-feed_chunk.ensures.wrong fault
    (ap Err (refused_before c.in_err-feed_chunk.field-0.0 fault (rw e at c.from_residual-in_err-feed_chunk.ensures.1)))
