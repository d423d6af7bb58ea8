use Rattle.std.proofs.Common.{Err, sym, ap}
use Rattle.chunk_reader.proofs.VerifySteps.{refused_loading, verified_end}
use Rattle.chunk_reader.proofs.verifying.verify_at.Goals as goal

pub returns-in_err-header-clause-refused : goal.returns-in_err-header-clause-refused
returns-in_err-header-clause-refused g c =
    λ fault e.
    let is = c.in_err-header.ensures.refused fault (ap Err (sym (rw e at c.from_residual.ensures.1))) in
    refused_loading (g.S.Store.bytes c.args.store.now) c.args.at fault is.0 is.1

pub returns-clause-end : goal.returns-clause-end
returns-clause-end g c =
    verified_end c.args.size c.args.at c.in_ok-header.end c.in_ok-header.header.data_size c.in_ok-header.header.num_records
    c.in_ok-header.ensures.found.ends c.in_ok-header.ensures.within
