use Rattle.std.proofs.Common.{Err, ap, arith, refl}
use Rattle.record_writer.specs.declared.engine.WriteEnd.{WriteEnd}
use Rattle.record_writer.specs.declared.engine.WriteEnd.TheVariants.{TooLong, InputTooLong, BadLine, Input, Made, Memory}
use Rattle.write_command.specs.WriteCommand.{write_meaning}
use Rattle.command_frame.proofs.RunEnds.{keeps-unread}
use Rattle.write_command.proofs.WriteEnds.{wrote, wrote-err, write-ok, write-too_long, write-input_too_long, write-bad_line, write-input, write-made, write-memory}
use Rattle.write_command.proofs.writing.write.Goals as goal

pub returns-in-Ok-clause-runs : goal.returns-in-Ok-clause-runs
returns-in-Ok-clause-runs g c = λ others.
    write-ok c.args.words.now _ _ others.files _ _ others.grown others.out _ c.in-Ok.field-0
    (wrote c.args.words.now _ _ _ _ c.in-Ok.ensures.answer c.in-Ok.ensures.made)
    c.in-Ok.ensures.input.to_end
    (keeps-unread (write_meaning c.args.words.now) _ _ others.files _ _ others.grown others.out others.out _ _ refl (λ r. tt) c.in-Ok.ensures.input.never_falls c.in-Ok.ensures.made_counts.never_falls (omega arith) (omega arith) c.in-Ok.ensures.input.taken)

pub returns-in-Err-TooLong-clause-runs : goal.returns-in-Err-TooLong-clause-runs
returns-in-Err-TooLong-clause-runs g c = λ others.
    write-too_long c.args.words.now _ _ others.files _ _ others.grown others.out _ _
    (keeps-unread (write_meaning c.args.words.now) _ _ others.files _ _ others.grown others.out others.out _ _ refl (λ r. tt) c.in-Err-TooLong.ensures.input.never_falls c.in-Err-TooLong.ensures.made_counts.never_falls (omega arith) c.end_with_stop.ensures.notes.never_falls c.in-Err-TooLong.ensures.input.taken)
    c.in-Err-TooLong.line _
    (wrote-err c.args.words.now _ _ _ (TooLong c.in-Err-TooLong.line) _ c.in-Err-TooLong.field-0-is
    (wrote c.args.words.now _ _ _ _ c.in-Err-TooLong.ensures.answer c.in-Err-TooLong.ensures.made))
    c.end_with_stop.ensures.told

pub returns-in-Err-InputTooLong-clause-runs : goal.returns-in-Err-InputTooLong-clause-runs
returns-in-Err-InputTooLong-clause-runs g c = λ others.
    write-input_too_long c.args.words.now _ _ others.files _ _ others.grown others.out _ _
    (keeps-unread (write_meaning c.args.words.now) _ _ others.files _ _ others.grown others.out others.out _ _ refl (λ r. tt) c.in-Err-InputTooLong.ensures.input.never_falls c.in-Err-InputTooLong.ensures.made_counts.never_falls (omega arith) c.end_with_stop-in-Err-InputTooLong.ensures.notes.never_falls c.in-Err-InputTooLong.ensures.input.taken)
    _
    (wrote-err c.args.words.now _ _ _ InputTooLong _ c.in-Err-InputTooLong.field-0-is
    (wrote c.args.words.now _ _ _ _ c.in-Err-InputTooLong.ensures.answer c.in-Err-InputTooLong.ensures.made))
    c.end_with_stop-in-Err-InputTooLong.ensures.told

pub returns-in-Err-BadLine-clause-runs : goal.returns-in-Err-BadLine-clause-runs
returns-in-Err-BadLine-clause-runs g c = λ others.
    write-bad_line c.args.words.now _ _ others.files _ _ others.grown others.out _ _
    (keeps-unread (write_meaning c.args.words.now) _ _ others.files _ _ others.grown others.out others.out _ _ refl (λ r. tt) c.in-Err-BadLine.ensures.input.never_falls c.in-Err-BadLine.ensures.made_counts.never_falls (omega arith) c.end_with_stop-in-Err-BadLine.ensures.notes.never_falls c.in-Err-BadLine.ensures.input.taken)
    c.in-Err-BadLine.line _
    (wrote-err c.args.words.now _ _ _ (BadLine c.in-Err-BadLine.line) _ c.in-Err-BadLine.field-0-is
    (wrote c.args.words.now _ _ _ _ c.in-Err-BadLine.ensures.answer c.in-Err-BadLine.ensures.made))
    c.end_with_stop-in-Err-BadLine.ensures.told

pub returns-in-Err-Input-clause-runs : goal.returns-in-Err-Input-clause-runs
returns-in-Err-Input-clause-runs g c = λ others.
    write-input c.args.words.now _ _ others.files _ _ others.grown others.out _ _
    (keeps-unread (write_meaning c.args.words.now) _ _ others.files _ _ others.grown others.out others.out _ _ refl (λ r. tt) c.in-Err-Input.ensures.input.never_falls c.in-Err-Input.ensures.made_counts.never_falls (omega arith) c.cut_off.ensures.notes.never_falls c.in-Err-Input.ensures.input.taken)
    _ c.cut_off.ensures.status
    (wrote-err c.args.words.now _ _ _ Input _ c.in-Err-Input.field-0-is
    (wrote c.args.words.now _ _ _ _ c.in-Err-Input.ensures.answer c.in-Err-Input.ensures.made))
    (c.in-Err-Input.ensures.input.cause (ap (λ (e : WriteEnd). Err e) c.in-Err-Input.field-0-is))
    c.cut_off.ensures.told

pub returns-in-Err-Made-clause-runs : goal.returns-in-Err-Made-clause-runs
returns-in-Err-Made-clause-runs g c = λ others.
    write-made c.args.words.now _ _ others.files _ _ others.grown others.out _ _
    (keeps-unread (write_meaning c.args.words.now) _ _ others.files _ _ others.grown others.out others.out _ _ refl (λ r. tt) c.in-Err-Made.ensures.input.never_falls c.in-Err-Made.ensures.made_counts.never_falls (omega arith) c.cut_off-in-Err-Made.ensures.notes.never_falls c.in-Err-Made.ensures.input.taken)
    _ c.cut_off-in-Err-Made.ensures.status
    (wrote-err c.args.words.now _ _ _ Made _ c.in-Err-Made.field-0-is
    (wrote c.args.words.now _ _ _ _ c.in-Err-Made.ensures.answer c.in-Err-Made.ensures.made))
    (c.in-Err-Made.ensures.made_counts.cause (ap (λ (e : WriteEnd). Err e) c.in-Err-Made.field-0-is))
    c.cut_off-in-Err-Made.ensures.told

pub returns-in-Err-Memory-clause-runs : goal.returns-in-Err-Memory-clause-runs
returns-in-Err-Memory-clause-runs g c = λ others.
    write-memory c.args.words.now _ _ others.files _ _ others.grown others.out _ _
    (keeps-unread (write_meaning c.args.words.now) _ _ others.files _ _ others.grown others.out others.out _ _ refl (λ r. tt) c.in-Err-Memory.ensures.input.never_falls c.in-Err-Memory.ensures.made_counts.never_falls (omega arith) c.cut_off-in-Err-Memory.ensures.notes.never_falls c.in-Err-Memory.ensures.input.taken)
    _ c.cut_off-in-Err-Memory.ensures.status
    (wrote-err c.args.words.now _ _ _ Memory _ c.in-Err-Memory.field-0-is
    (wrote c.args.words.now _ _ _ _ c.in-Err-Memory.ensures.answer c.in-Err-Memory.ensures.made))
    c.cut_off-in-Err-Memory.ensures.told
