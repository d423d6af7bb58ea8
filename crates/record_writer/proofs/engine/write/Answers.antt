use Rattle.std.proofs.Common.{◌≡◌, ◌∙◌, ◌++◌, Option, Err, IfSome, refl, ap, arith, rules}
use Rattle.std.proofs.lemmas.Result.{IfOk-at_ok, err_from_is_err_and}
use Rattle.record_io.specs.Outside.{Takes}
use Rattle.record_io.specs.Calls.{TakesFront}
use Rattle.record_io.proofs.Calls.{TakesFront-whole, TakesFront-none}
use Rattle.record_values.specs.declared.file_totals.Totals.{Totals}
use Rattle.record_writer.specs.declared.cut_off.CutOff.TheVariants.{Made}
use Rattle.record_writer.specs.declared.feed.Stop.{Stop}
use Rattle.record_writer.specs.MadeFiles.{totals_behind, totals_made}
use Rattle.record_writer.specs.Written.{tail_chunks}
use Rattle.record_writer.specs.WriteAnswers.{tail_under}
use Rattle.record_writer.proofs.Counted.{TellsTotals-told, TellsTotals-cut, IfOk-ended}
use Rattle.record_writer.proofs.Flushes.{Takes-ended, TakesShort-ended, totals_made-ended, TakesFile-cut, TakesFile-ended}
use Rattle.record_writer.proofs.Windows.{where_done}
use Rattle.record_writer.proofs.engine.write.Goals as goal

pub returns-in_err-flush : goal.returns-in_err-flush
returns-in_err-flush g c =
    let p = err_from_is_err_and c.from_residual.result c.from_residual.ensures.1 in
    let put = c.put_chunks-stop.ensures.put in
    rw (p.1, p.2)
    (record {
      written = record {
        answer = TellsTotals-cut (g.L.RecordFeed.rest c.args.feed.now) Made (λ records. totals_behind c.args.file.now (tail_chunks c.args.options.now c.args.file.now.place records));
        made = TakesShort-ended (c.put_chunks-stop.result ≡ Err Made) c.args.options.now c.args.file.now _ _ _ c.put_chunks-stop.new.file _ c.put_chunks-stop.result put.whole put.front
            c.in_err-flush.ensures.made.front;
        read_to_end = tt;
        feed = search rules;
        made_counts = search rules;
      };
      behind = tt;
    })

pub returns-in_err-stop : goal.returns-in_err-stop
returns-in_err-stop g c =
    let p = err_from_is_err_and c.from_residual-in_err-stop.result c.from_residual-in_err-stop.ensures.1 in
    let put = c.put_chunks-stop.ensures.put in
    let front : TakesFront (g.M.Sink.taken c.put_chunks-stop.new.made) (g.M.Sink.taken c.if-is_ok.made) c.put_chunks-stop.new.file.held =
    elim c.if-is_ok.branch [
      | goal.then-is_ok+in_ok-flush w ↦ rw w.made-is (TakesFront-whole _ _ _ w.in_ok-flush.ensures.made.whole)
      | goal.else-is_ok+else-totals-gt0 w ↦ rw w.made-is (TakesFront-none _ _)
    ] in
    rw (p.1, p.2)
    (record {
      written = record {
        answer = TellsTotals-cut (g.L.RecordFeed.rest c.args.feed.now) c.in_err-stop.field-0.0 (λ records. totals_behind c.args.file.now (tail_chunks c.args.options.now c.args.file.now.place records));
        made = TakesFile-cut c.args.options.now c.args.file.now _ _ _ c.put_chunks-stop.new.file _ c.put_chunks-stop.result c.in_err-stop.field-0.0
            c.in_err-stop.was put.front front;
        read_to_end = tt;
        feed = search rules;
        made_counts = search rules;
      };
      behind = tt;
    })

pub returns : goal.returns
returns g c =
    let put = c.put_chunks-stop.ensures.put in
    let same : totals_made c.if-is_ok.file ≡ totals_made c.put_chunks-stop.new.file =
    elim c.if-is_ok.branch [
      | goal.then-is_ok+in_ok-flush w ↦ rw w.file-is (ap totals_made w.flush.ensures.emptied)
      | goal.else-is_ok+else-totals-gt0 w ↦ rw w.file-is (refl {a = totals_made c.put_chunks-stop.new.file})
    ] in
    let totals = totals_made-ended c.args.options.now c.args.file.now _ _ c.put_chunks-stop.new.file _ c.put_chunks-stop.result put.whole in
    let flushed : Takes (g.M.Sink.taken c.put_chunks-stop.new.made) (g.M.Sink.taken c.if-is_ok.made) c.put_chunks-stop.new.file.held =
    elim c.if-is_ok.branch [
      | goal.then-is_ok+in_ok-flush w ↦ rw w.made-is w.in_ok-flush.ensures.made.whole
      | goal.else-is_ok+else-totals-gt0 w ↦ search rules
    ] in
    let whole = Takes-ended c.args.options.now c.args.file.now _ _ _ c.put_chunks-stop.new.file _ c.put_chunks-stop.result put.whole flushed in
    rw c.answer.ensures
    (record {
      written = record {
        answer = TellsTotals-told c.args.options.now c.args.file.now _ c.in_ok-stop.field-0 c.totals-2.result c.requires.follows.no_record
            (IfOk-at_ok (λ (stop : Option Stop). IfSome (g.L.RecordFeed.rest c.args.feed.now) (λ rest. rest.stop ≡ stop)) c.in_ok-stop.was put.stop)
            (rw (c.totals-2.ensures.counted, same) (where_done _ _ c.in_ok-stop.was totals));
        made = TakesFile-ended (λ records. c.args.file.now.held ++ tail_under c.args.options.now c.args.file.now.place records) _ _ _ c.in_ok-stop.field-0
            c.totals-2.result (where_done _ _ c.in_ok-stop.was whole);
        read_to_end = search rules;
        feed = search rules;
        made_counts = search rules;
      };
      behind = IfOk-ended _ c.in_ok-stop.field-0 c.totals-2.result (omega (arith, where_done _ _ c.in_ok-stop.was c.put_chunks-stop.ensures.behind, ap (λ (t : Totals). t.bytes) (c.totals-2.ensures.counted ∙ same)));
    })
