use Rattle.std.proofs.Common.{◌+◌, Err, sym, ap, subst, arith}
use Rattle.block_layout.specs.Layout.{IsBoundary}
use Rattle.block_layout.proofs.ChunkEnds.{chunk_end_of_boundary, chunk_end_of_room, chunk_end_of_past_records}
use Rattle.record_seek.proofs.passes.passed_at.Goals as goal

pub returns-in_err-header-clause-refused : goal.returns-in_err-header-clause-refused
returns-in_err-header-clause-refused g c =
    λ fault e. c.in_err-header.ensures.refused fault (ap Err (sym (rw e at c.from_residual.ensures.1)))

pub returns-clause-bounds : goal.returns-clause-bounds
returns-clause-bounds g c =
    let h = c.in_ok-header.header in
    let ends = c.in_ok-header.ensures.found.ends in
    record {
      boundary = subst IsBoundary (sym ends) (chunk_end_of_boundary c.args.at (40 + h.data_size) h.num_records);
      past = omega (arith, ends, chunk_end_of_room c.args.at (40 + h.data_size) h.num_records);
      within = c.in_ok-header.ensures.within;
      room = omega (arith, ends, chunk_end_of_past_records c.args.at (40 + h.data_size) h.num_records);
    }
