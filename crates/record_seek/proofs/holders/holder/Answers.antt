use Rattle.std.proofs.Common.{Err, ap, subst, arith}
use Rattle.chunk_reader.proofs.Rooms.{IsSized}
use Rattle.record_seek.proofs.HolderEnds.{refused_before, refused-block, refused-way}
use Rattle.record_seek.proofs.holders.holder.Goals as goal

pub returns-in_err-begin-clause-refused : goal.returns-in_err-begin-clause-refused
returns-in_err-begin-clause-refused g c =
    λ fault e.
    refused-block _ c.args.size c.args.at _ fault
    (subst (IsSized (g.S.Store.bytes c.args.store.now)) c.requires.sized.is_told (g.met.S.Store.sized c.args.store.now))
    (omega arith) (omega arith)
    (c.in_err-begin.ensures.refused fault (ap Err (refused_before c.in_err-begin.field-0.0 fault (rw e at c.from_residual.ensures.1))))

pub returns-in_err-holder_from-clause-refused : goal.returns-in_err-holder_from-clause-refused
returns-in_err-holder_from-clause-refused g c =
    λ fault e.
    refused-way _ _ c.args.at _ c.in_ok-begin.begin fault c.in_ok-begin.ensures.store.asks.same_bytes (omega arith) c.in_ok-begin.ensures.told
    (c.in_err-holder_from.ensures.refused fault
    (ap Err (refused_before c.in_err-holder_from.field-0.0 fault (rw e at c.from_residual-in_err-holder_from.ensures.1))))
