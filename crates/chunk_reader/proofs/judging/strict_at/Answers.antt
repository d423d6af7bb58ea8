use Rattle.std.proofs.Common.{Err, ap}
use Rattle.chunk_reader.proofs.Loads.{refused_before}
use Rattle.chunk_reader.proofs.StrictSteps.{refused_early, handed_early}
use Rattle.chunk_reader.proofs.judging.strict_at.Goals as goal

pub returns-in_err-header-clause-refused : goal.returns-in_err-header-clause-refused
returns-in_err-header-clause-refused g c =
    λ fault e.
    let r = c.in_err-header.ensures.refused fault (ap Err (refused_before c.in_err-header.field-0.0 fault (rw e at c.from_residual.ensures.1))) in
    refused_early _ c.args.unread_ok c.args.at fault r.0 r.1

pub returns-in_err-header-clause-handed : goal.returns-in_err-header-clause-handed
returns-in_err-header-clause-handed g c = handed_early _ c.args.at _ _ c.in_err-header.ensures.store.handed
