use Rattle.std.proofs.Common.{◌∙◌}
use Rattle.command_frame.proofs.NoteLines.{TakesThen-put}
use Rattle.command_frame.proofs.notes.cut_off.Goals as goal

pub returns-clause-told : goal.returns-clause-told
returns-clause-told g c =
    rw (c.as_bytes.ensures.value ∙ c.fault_line.ensures) at
    (TakesThen-put c.put_all.result _ _ _ _ c.as_bytes.result.now c.put_all.ensures.sink.whole c.put_all.ensures.sink.front c.put_all.ensures.sink.counts.cause)
