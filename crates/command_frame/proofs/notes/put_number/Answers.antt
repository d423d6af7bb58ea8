use Rattle.std.proofs.Common.{◌∙◌, [], ◌∷◌, ◌++◌, decimal, rules}
use Rattle.std.proofs.lemmas.Result.{on_ok_weaker, on_err_weaker}
use Rattle.record_io.proofs.Calls.{OnErr-any, TakesShort-longer}
use Rattle.command_frame.proofs.NoteLines.{held-more, front-more, front-flushed, whole-flushed}
use Rattle.command_frame.proofs.notes.put_number.Goals as goal

pub returns-in_err-put-2 : goal.returns-in_err-put-2
returns-in_err-put-2 g c = record {
  notes = record {
    whole = search rules;
    front = OnErr-any _ (TakesShort-longer _ _ _ (10 ∷ []) (front-more _ _ _ c.args.text.now (decimal c.args.number) c.put.new.self
        (rw (c.new-line.ensures, c.as_bytes.ensures.value) at c.in_ok-put.ensures.sink.whole)
        (rw (c.as_bytes-2.ensures.value ∙ c.format.ensures.text) at c.in_err-put-2.ensures.sink.front)));
    counts = search rules;
  };
}

pub returns-in_err-put-3 : goal.returns-in_err-put-3
returns-in_err-put-3 g c = record {
  notes = record {
    whole = search rules;
    front = OnErr-any _ (front-more _ _ _ (c.args.text.now ++ decimal c.args.number) (10 ∷ []) c.put-2.new.self
        (held-more _ _ _ c.args.text.now (decimal c.args.number) c.put.new.self _
        (rw (c.new-line.ensures, c.as_bytes.ensures.value) at c.in_ok-put.ensures.sink.whole)
        (rw (c.as_bytes-2.ensures.value ∙ c.format.ensures.text) at c.in_ok-put-2.ensures.sink.whole))
        c.in_err-put-3.ensures.sink.front);
    counts = search rules;
  };
}

pub returns : goal.returns
returns g c =
    let held = held-more _ _ _ (c.args.text.now ++ decimal c.args.number) (10 ∷ []) c.put-2.new.self _
    (held-more _ _ _ c.args.text.now (decimal c.args.number) c.put.new.self _
    (rw (c.new-line.ensures, c.as_bytes.ensures.value) at c.in_ok-put.ensures.sink.whole)
    (rw (c.as_bytes-2.ensures.value ∙ c.format.ensures.text) at c.in_ok-put-2.ensures.sink.whole))
    c.in_ok-put-3.ensures.sink.whole in
    record {
      notes = record {
        whole = on_ok_weaker c.flush.result (whole-flushed _ _ _ _ c.put-3.new.self held) c.flush.ensures.sink.whole;
        front = on_err_weaker c.flush.result (front-flushed _ _ _ _ c.put-3.new.self held) c.flush.ensures.sink.front;
        counts = search rules;
      };
    }
