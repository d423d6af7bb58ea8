use Rattle.std.proofs.Common.{Err, sym, ap, rules}
use Rattle.record_ranges.proofs.Fronts.{refused-front, signed-next}
use Rattle.record_ranges.proofs.alone.check_front.Goals as goal

pub returns-in_err-next-clause-answered : goal.returns-in_err-next-clause-answered
returns-in_err-next-clause-answered g c = record {
  refused = λ fault e.
      refused-front _ _ fault c.new-reader.ensures.unread_ok
      (c.in_err-next.ensures.refused fault (ap Err (sym (rw e at c.from_residual.ensures.1))));
  asks = search rules;
}

pub returns-clause-signed : goal.returns-clause-signed
returns-clause-signed g c =
    signed-next _ _ _ c.next.result _ c.in_ok-next.was c.new-reader.ensures.totals c.next.ensures.chunk c.next.ensures.ended
