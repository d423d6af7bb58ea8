use Rattle.std.proofs.Common.{◌≡◌, ◌++◌, rules}
use Rattle.std.proofs.lemmas.Result.{on_ok_weaker, on_err_weaker}
use Rattle.record_io.proofs.Buffered.{TakesAndHolds-rest, TakesShort-rest}
use Rattle.record_io.proofs.put_buffer.PutBuffer.put.Goals as goal

pub returns-clause-sink : goal.returns-clause-sink
returns-clause-sink g c =
    let parts : c.args.piece.now ≡ c.split_at.result.0.now ++ c.split_at.result.1.now = search rules in
    record {
      whole = on_ok_weaker c.put_whole.result
          (TakesAndHolds-rest _ _ _ c.args.self.now _ _ c.args.piece.now _ parts c.in_ok-put_out.ensures.sink.whole) c.put_whole.ensures.sink.whole;
      front = on_err_weaker c.put_whole.result
          (TakesShort-rest _ _ _ c.args.self.now _ _ c.args.piece.now parts c.in_ok-put_out.ensures.sink.whole) c.put_whole.ensures.sink.front;
      emptied = search rules;
      counts = search rules;
    }
