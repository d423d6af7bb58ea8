use Rattle.std.proofs.Common.{◌++◌, ◌∷◌, [], rules}
use Rattle.show_command.specs.Readings.{bytes_text, position_text}
use Rattle.record_io.proofs.Buffered.{TakesAndHolds-append, TakesShort-behind, TakesShort-held_longer}
use Rattle.record_io.proofs.Calls.{OnErr-any}
use Rattle.show_command.proofs.LinePuts.{puts-then}
use Rattle.show_command.proofs.record_lines.put_record.Goals as goal

pub returns-in_err-put_bytes : goal.returns-in_err-put_bytes
returns-in_err-put_bytes g c =
    let form = c.args.form.now in
    let before = position_text form.positions c.args.position in
    let bytes = bytes_text form.hex c.args.bytes.now in
    record {
      out = record {
        whole = search rules;
        front = OnErr-any _ (TakesShort-held_longer _ _ c.args.lines.now (before ++ bytes) (10 ∷ [])
            (TakesShort-behind _ _ _ c.args.lines.now _ before bytes c.in_ok-put_position.ensures.out.whole c.in_err-put_bytes.ensures.out.front));
        emptied = search rules;
        counts = search rules;
      };
    }

pub returns : goal.returns
returns g c =
    let form = c.args.form.now in
    let before = position_text form.positions c.args.position in
    let bytes = bytes_text form.hex c.args.bytes.now in
    record {
      out = puts-then g.O.Sink.taken g.O.Sink.lent g.O.Sink.faults c.put.result c.args.lines.now _ c.put.new.self (before ++ bytes) (10 ∷ []) c.args.out.now c.put_bytes.new.out c.put.new.sink
          (TakesAndHolds-append _ _ _ c.args.lines.now _ _ before bytes c.in_ok-put_position.ensures.out.whole c.in_ok-put_bytes.ensures.out.whole)
          (search rules) (rw c.as_bytes.ensures.value at c.put.ensures.sink);
    }
