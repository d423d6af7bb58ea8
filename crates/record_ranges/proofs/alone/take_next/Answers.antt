use Rattle.std.proofs.Common.{Err, Ok, sym, ap, rules}
use Rattle.record_ranges.proofs.Fronts.{refused-front, so_far-more}
use Rattle.record_ranges.proofs.alone.take_next.Goals as goal

pub returns-in_err-judged-clause-answered : goal.returns-in_err-judged-clause-answered
returns-in_err-judged-clause-answered g c = record {
  refused = λ fault e.
      refused-front _ _ fault c.requires.strict
      (c.in_err-judged.ensures.refused fault (ap Err (sym (rw e at c.from_residual.ensures.1))));
  asks = search rules;
}

pub returns-clause-read : goal.returns-clause-read
returns-clause-read g c =
    λ more.
    let taken = c.in_ok-take.ensures.taken in
    so_far-more g.K.Keeper.kept_as _ c.args.span c.args.reader.now c.next.new.self c.in-Some.judged taken.held c.args.part.now.kept c.take.new.self.kept c.requires.strict
    (c.in_ok-judged.ensures.chunk c.in-Some.judged (ap Ok c.in-Some.is)) taken.holds taken.adds
