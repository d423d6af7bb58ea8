use Rattle.write_command.proofs.writing.end_with_stop.Goals as goal

pub returns-in-TooLong-clause-told : goal.returns-in-TooLong-clause-told
returns-in-TooLong-clause-told g c = rw c.in-TooLong.is c.end_with_number.ensures.notes.said
