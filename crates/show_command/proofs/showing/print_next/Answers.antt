use Rattle.std.proofs.Common.{ap, Ok, Err}
use Rattle.show_command.proofs.ShowSteps.{read-refused, read-short, exact_told, short_told, read-through, next-printed, next-failed}
use Rattle.show_command.proofs.showing.print_next.Goals as goal

pub returns-in-Err-Refused-clause-printed : goal.returns-in-Err-Refused-clause-printed
returns-in-Err-Refused-clause-printed g c = λ before made notes.
    let refused = c.in-Err-Refused.ensures.refused c.in-Err-Refused.fault (ap Err c.in-Err-Refused.field-0-is) in
    read-refused c.args.words.now c.args.reader.now.unread_ok _ c.args.reader.now.totals before _ _ c.in-Err-Refused.fault c.requires.strict
    (short_told _ c.args.reader.now.size c.requires.reads.in_reach (exact_told _ _ _ c.requires.reads.size (g.met.S.Store.sized c.args.file.now))) refused.is_fault refused.all_given

pub returns-in-Err-Store-clause-printed : goal.returns-in-Err-Store-clause-printed
returns-in-Err-Store-clause-printed g c = λ before made notes.
    read-short c.args.words.now _ c.args.reader.now.totals before _ _ (short_told _ c.args.reader.now.size c.requires.reads.in_reach (exact_told _ _ _ c.requires.reads.size (g.met.S.Store.sized c.args.file.now)))

pub returns-in-Err-Memory-clause-printed : goal.returns-in-Err-Memory-clause-printed
returns-in-Err-Memory-clause-printed g c = λ before made notes.
    read-short c.args.words.now _ c.args.reader.now.totals before _ _ (short_told _ c.args.reader.now.size c.requires.reads.in_reach (exact_told _ _ _ c.requires.reads.size (g.met.S.Store.sized c.args.file.now)))

pub returns-in-Ok-None-clause-printed : goal.returns-in-Ok-None-clause-printed
returns-in-Ok-None-clause-printed g c = λ before made notes.
    let ended = (c.in-Ok-None.ensures.ended (ap Ok c.in-Ok-None.field-0-is)).1 in
    read-through c.args.words.now c.args.reader.now.unread_ok _ c.args.reader.now.totals before _ _ c.args.reader.now.size
    c.requires.strict c.requires.reads.in_reach (exact_told _ _ _ c.requires.reads.size (g.met.S.Store.sized c.args.file.now)) ended.at_end ended.whole

pub returns-in-Ok-clause-printed : goal.returns-in-Ok-clause-printed
returns-in-Ok-clause-printed g c = λ before made notes.
    next-printed c.args.words.now c.args.reader.now.unread_ok _ c.args.reader.now.totals c.next.new.self.totals c.args.reader.now.size c.in-Ok-Some.judged before made _ _ notes _ _
    (record {
      strict = c.requires.strict;
      short = short_told _ c.args.reader.now.size c.requires.reads.in_reach (exact_told _ _ _ c.requires.reads.size (g.met.S.Store.sized c.args.file.now));
      judged = (c.in-Ok-Some.ensures.chunk c.in-Ok-Some.judged (ap Ok c.in-Ok-Some.field-0-is)).judged;
      given = (c.in-Ok-Some.ensures.chunk c.in-Ok-Some.judged (ap Ok c.in-Ok-Some.field-0-is)).given;
    })
    c.in-Ok.ensures.out.whole

pub returns-clause-printed : goal.returns-clause-printed
returns-clause-printed g c = λ before made notes.
    next-failed c.args.words.now c.args.reader.now.unread_ok _ c.args.reader.now.totals c.next.new.self.totals c.args.reader.now.size c.in-Ok-Some.judged before made _ _ notes _ _
    (record {
      strict = c.requires.strict;
      short = short_told _ c.args.reader.now.size c.requires.reads.in_reach (exact_told _ _ _ c.requires.reads.size (g.met.S.Store.sized c.args.file.now));
      judged = (c.in-Ok-Some.ensures.chunk c.in-Ok-Some.judged (ap Ok c.in-Ok-Some.field-0-is)).judged;
      given = (c.in-Ok-Some.ensures.chunk c.in-Ok-Some.judged (ap Ok c.in-Ok-Some.field-0-is)).given;
    })
    c.in-Err.ensures.out.front c.in-Err.ensures.out.emptied
