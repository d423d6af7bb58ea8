use Rattle.std.proofs.Common.{Err, ap, sym}
use Rattle.chunk_reader.proofs.FrontsRead.{fault_of_front}
use Rattle.chunk_reader.proofs.verifying.verify.Goals as goal

pub returns-in_err-count_front-clause-refused : goal.returns-in_err-count_front-clause-refused
returns-in_err-count_front-clause-refused g c =
    λ fault e.
    fault_of_front (g.S.Store.bytes c.args.store.now) c.count_front.new.totals fault
    (c.in_err-count_front.ensures.refused fault (ap Err (sym (rw e at c.from_residual.ensures.1))))
