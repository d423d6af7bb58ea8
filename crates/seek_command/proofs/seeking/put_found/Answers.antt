use Rattle.std.proofs.Common.{rules}
use Rattle.std.proofs.lemmas.Result.{on_ok_weaker, on_err_weaker}
use Rattle.command_frame.proofs.NoteLines.{front-flushed, whole-flushed}
use Rattle.show_command.specs.Readings.{record_line}
use Rattle.seek_command.specs.SeekCommand.{found_form}
use Rattle.seek_command.proofs.seeking.put_found.Goals as goal

pub returns : goal.returns
returns g c =
    let line = record_line (found_form c.args.hex) (c.args.found.now.position, c.args.found.now.bytes) in
    let held = rw (c.new-lines.ensures, c.as_slice.ensures.value) at c.in_ok-put_record.ensures.out.whole in
    record {
      whole = on_ok_weaker c.flush.result (whole-flushed _ _ _ line c.put_record.new.lines held) c.flush.ensures.sink.whole;
      front = on_err_weaker c.flush.result (front-flushed _ _ _ line c.put_record.new.lines held) c.flush.ensures.sink.front;
      counts = search rules;
    }
