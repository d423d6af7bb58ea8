use Rattle.std.proofs.Common.{rules}
use Rattle.std.proofs.lemmas.Result.{on_ok_weaker, on_err_weaker}
use Rattle.command_frame.proofs.NoteLines.{front-flushed, whole-flushed}
use Rattle.record_ranges.specs.RangesEnds.{all_texts}
use Rattle.record_ranges.proofs.part_lines.put_parts.Goals as goal

pub returns : goal.returns
returns g c =
    let held = rw c.new-lines.ensures at c.in_ok-put_each_part.ensures.out.whole in
    record {
      out = record {
        whole = on_ok_weaker c.flush.result (whole-flushed _ _ _ (all_texts c.args.parts.now) c.put_each_part.new.lines held) c.flush.ensures.sink.whole;
        front = on_err_weaker c.flush.result (front-flushed _ _ _ (all_texts c.args.parts.now) c.put_each_part.new.lines held) c.flush.ensures.sink.front;
        counts = search rules;
      };
    }
