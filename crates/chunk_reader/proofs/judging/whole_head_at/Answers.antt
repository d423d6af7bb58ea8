use Rattle.std.proofs.Common.{Err, sym, ap, arith}
use Rattle.chunk_reader.proofs.WholeHeads.{none_loading, refused_loading}
use Rattle.chunk_reader.proofs.judging.whole_head_at.Goals as goal

pub returns-in_err-header-clause-refused : goal.returns-in_err-header-clause-refused
returns-in_err-header-clause-refused g c =
    λ fault e. refused_loading _ c.args.at fault (c.in_err-header.ensures.refused fault (ap Err (sym (rw e at c.from_residual.ensures.1))))

pub returns-clause-found : goal.returns-clause-found
returns-clause-found g c =
    let head = c.in_ok-header.ensures.found in
    record {
      fits = head.fits;
      ends = head.ends;
      header = head.header;
      none = none_loading _ c.args.at c.in_ok-header.header head.fits head.header head.none (omega arith);
    }
