use Rattle.std.proofs.Common.{rules, Err, ap}
use Rattle.chunk_reader.proofs.Loads.{refused_before}
use Rattle.record_collect.proofs.FedFiles.{passed-more, refused-file}
use Rattle.record_collect.proofs.feeding.pass_next.Goals as goal

pub returns-in_err-pass : goal.returns-in_err-pass
returns-in_err-pass g c = λ collector before cost by without. record {
  goes_on = search rules;
  belongs = search rules;
  taken = search rules;
  refused = λ fault e.
      refused-file _ _ fault c.requires.strict
      (c.in_err-pass.ensures.refused fault (ap Err (refused_before c.in_err-pass.field-0.0 fault (rw e at c.from_residual.ensures.1))));
  asks = search rules;
}

pub returns : goal.returns
returns g c = λ collector before cost by without. record {
  goes_on = (c.pass.ensures.goes_on, c.in_ok-pass.ensures.chunk.moved);
  belongs = without.belongs;
  taken = passed-more _ c.args.reader.now c.pass.new.self c.args.ahead.now.header cost before c.args.fed c.requires.strict c.in_ok-pass.ensures.chunk by without.on;
  refused = search rules;
  asks = search rules;
}
