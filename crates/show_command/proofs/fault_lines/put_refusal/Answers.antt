use Rattle.std.proofs.Common.{◌++◌, ◌∷◌, codes, decimal, rules}
use Rattle.std.proofs.lemmas.Result.{on_ok_weaker, on_err_weaker}
use Rattle.record_io.proofs.Calls.{OnErr-any, TakesShort-longer}
use Rattle.chunk_reader.specs.Names.{name_of}
use Rattle.command_frame.specs.Answers.{line}
use Rattle.command_frame.proofs.NoteLines.{front-flushed, front-more, held-more, whole-flushed}
use Rattle.show_command.specs.Readings.{file_text}
use Rattle.show_command.proofs.fault_lines.put_refusal.Goals as goal

pub returns-in_err-put_front : goal.returns-in_err-put_front
returns-in_err-put_front g c = record {
  notes = record {
    whole = search rules;
    front = OnErr-any _ (TakesShort-longer _ _ (codes "refused " ++ file_text c.args.index) (line (decimal c.args.fault.now.at ++ 32 ∷ name_of c.args.fault.now.why))
        (rw c.new-held.ensures at c.in_err-put_front.ensures.notes.front));
    counts = search rules;
  };
}

pub returns-in_err-put_fault : goal.returns-in_err-put_fault
returns-in_err-put_fault g c = record {
  notes = record {
    whole = search rules;
    front = OnErr-any _ (front-more _ _ _ (codes "refused " ++ file_text c.args.index) _ c.put_front.new.held
        (rw c.new-held.ensures at c.in_ok-put_front.ensures.notes.whole) c.in_err-put_fault.ensures.notes.front);
    counts = search rules;
  };
}

pub returns : goal.returns
returns g c =
    let held = held-more _ _ _ (codes "refused " ++ file_text c.args.index) _ c.put_front.new.held _
    (rw c.new-held.ensures at c.in_ok-put_front.ensures.notes.whole) c.in_ok-put_fault.ensures.notes.whole in
    record {
      notes = record {
        whole = on_ok_weaker c.flush.result (whole-flushed _ _ _ _ c.put_fault.new.held held) c.flush.ensures.sink.whole;
        front = on_err_weaker c.flush.result (front-flushed _ _ _ _ c.put_fault.new.held held) c.flush.ensures.sink.front;
        counts = search rules;
      };
    }
