use Rattle.std.proofs.Common.{rules}
use Rattle.std.proofs.lemmas.Result.{on_ok_weaker, on_err_weaker}
use Rattle.record_io.proofs.Calls.{TakesShort-append}
use Rattle.record_io.proofs.Buffered.{TakesAndHolds-through}
use Rattle.record_io.proofs.put_buffer.PutBuffer.put_straight.Goals as goal

pub returns-clause-sink : goal.returns-clause-sink
returns-clause-sink g c =
    let held = rw c.self.view_is at c.in_ok-flush.ensures.sink.whole in
    record {
      whole = on_ok_weaker c.put_all.result
          (TakesAndHolds-through _ _ _ c.args.self.now c.args.piece.now _ c.flush.ensures.emptied held) c.put_all.ensures.sink.whole;
      front = on_err_weaker c.put_all.result (TakesShort-append _ _ _ c.args.self.now c.args.piece.now held) c.put_all.ensures.sink.front;
      emptied = search rules;
      counts = search rules;
    }
