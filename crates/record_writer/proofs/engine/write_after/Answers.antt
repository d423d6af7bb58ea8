use Rattle.std.proofs.Common.{rules}
use Rattle.std.proofs.lemmas.Result.{err_from_is_err_and}
use Rattle.record_writer.specs.MadeFiles.{resumed_at, totals_behind}
use Rattle.record_writer.specs.Written.{tail_chunks}
use Rattle.record_writer.specs.WriteAnswers.{totals_from}
use Rattle.record_writer.proofs.Counted.{TellsTotals-stopped, TellsTotals-resumed}
use Rattle.record_writer.proofs.engine.write_after.Goals as goal

pub returns-in_err-totals-clause-written : goal.returns-in_err-totals-clause-written
returns-in_err-totals-clause-written g c =
    let p = err_from_is_err_and c.from_residual.result c.from_residual.ensures.1 in
    let written = rw c.resume-file.ensures at c.in_err-totals.ensures.written in
    rw (p.1, p.2)
    (record {
      answer = TellsTotals-stopped (g.L.RecordFeed.rest c.args.feed.now) c.in_err-totals.field-0.0
          (λ records. totals_behind (resumed_at c.args.at) (tail_chunks c.args.options.now c.args.at records))
          (λ records. totals_from c.args.at (tail_chunks c.args.options.now c.args.at records)) written.answer;
      made = written.made;
      read_to_end = tt;
      feed = written.feed;
      made_counts = written.made_counts;
    })

pub returns-clause-written : goal.returns-clause-written
returns-clause-written g c =
    let written = rw c.resume-file.ensures at c.in_ok-totals.ensures.written in
    record {
      answer = TellsTotals-resumed c.args.at c.args.options.now (g.L.RecordFeed.rest c.args.feed.now) c.in_ok-totals.totals written.answer;
      made = written.made;
      read_to_end = written.read_to_end;
      feed = search rules;
      made_counts = search rules;
    }
