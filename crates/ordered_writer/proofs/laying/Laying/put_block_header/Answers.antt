use Rattle.std.proofs.Common.{rules}
use Rattle.std.proofs.lemmas.Result.{err_from_is_err_and}
use Rattle.record_io.proofs.Buffered.{TakesAndHolds-none}
use Rattle.ordered_writer.proofs.Runs.{laid_between-block, laid_between-inside}
use Rattle.ordered_writer.proofs.laying.Laying.put_block_header.Goals as goal

pub returns-then-self-ne0-clause-sink : goal.returns-then-self-ne0-clause-sink
returns-then-self-ne0-clause-sink g c =
    let self = c.args.self.now in
    record {
      whole = rw (laid_between-inside self.begin self.end self.place self.next_place c.if-self-ne0.true)
          (TakesAndHolds-none (g.M.Sink.taken c.args.sink.now) c.args.buffer.now);
      front = search rules;
      emptied = search rules;
      counts = search rules;
    }

pub returns-in_err-put-clause-sink : goal.returns-in_err-put-clause-sink
returns-in_err-put-clause-sink g c =
    let self = c.args.self.now in
    let p = err_from_is_err_and c.from_residual.result c.from_residual.ensures.1 in
    rw (p.1, laid_between-block self.begin self.end self.place c.if-self-ne0.false, ← c.to_bytes.ensures) c.in_err-put.ensures.sink

pub returns-clause-sink : goal.returns-clause-sink
returns-clause-sink g c =
    let self = c.args.self.now in
    rw (laid_between-block self.begin self.end self.place c.if-self-ne0.false, ← c.to_bytes.ensures) c.in_ok-put.ensures.sink
