use Rattle.std.proofs.Common.{rules}
use Rattle.std.specs.Result.{IsErr}
use Rattle.std.proofs.lemmas.Result.{err_from_is_err_and}
use Rattle.record_writer.proofs.Layings.{LaysFront-behind}
use Rattle.record_writer.proofs.PutOut.{Lays-flushed, LaysFront-flushed, Lays-out, LaysFront-out}
use Rattle.record_writer.proofs.window.Window.put_out.Goals as goal

pub returns-in_err-flush-clause-laid : goal.returns-in_err-flush-clause-laid
returns-in_err-flush-clause-laid g c =
    let p = err_from_is_err_and c.from_residual.result c.from_residual.ensures.1 in
    rw p.1
    (record {
      whole = tt;
      front = LaysFront-flushed _ _ c.args.file.now c.flush.new.self _ c.flush.ensures.emptied c.in_err-flush.ensures.made.front;
      counts = search rules;
    })

pub returns-in_err-put-clause-laid : goal.returns-in_err-put-clause-laid
returns-in_err-put-clause-laid g c =
    let p = err_from_is_err_and c.from_residual-in_err-put.result c.from_residual-in_err-put.ensures.1 in
    rw p.1
    (record {
      whole = tt;
      front = LaysFront-behind _ _ _ c.args.file.now c.flush.new.self c.put.new.file _ _
          (Lays-flushed _ _ c.args.file.now c.flush.new.self c.requires.may_lay.going c.flush.ensures.emptied c.in_ok-flush.ensures.made.whole)
          c.in_err-put.ensures.laid.front;
      counts = search rules;
    })

pub returns-clause-laid : goal.returns-clause-laid
returns-clause-laid g c =
    let first = Lays-flushed _ _ c.args.file.now c.flush.new.self c.requires.may_lay.going c.flush.ensures.emptied c.in_ok-flush.ensures.made.whole in
    record {
      whole = Lays-out c.flush-2.result _ _ _ _ c.args.file.now c.flush.new.self c.put.new.file c.flush-2.new.self _ first
          c.in_ok-put.ensures.laid.whole c.flush-2.ensures.emptied c.flush-2.ensures.made.whole;
      front = LaysFront-out (IsErr c.flush-2.result) c.flush-2.result _ _ _ _ c.args.file.now c.flush.new.self c.put.new.file c.flush-2.new.self _ first
          c.in_ok-put.ensures.laid.whole c.flush-2.ensures.emptied c.flush-2.ensures.made.front;
      counts = search rules;
    }
