use Rattle.std.proofs.Common.{Some, None, Ok, Err, ap, refl}
use Rattle.record_io.specs.Puts.{taken_by}
use Rattle.record_io.specs.declared.cut.Cut.TheVariants.{Out}
use Rattle.command_frame.proofs.FileEnds.{nothing-put, unsized-put, end-flushed, end-unflushed}
use Rattle.show_command.proofs.ShowSteps.{short_told}
use Rattle.seek_command.specs.SeekCommand.{IsSeekAnswer}
use Rattle.seek_command.specs.SeekEnds.{seek_ends}
use Rattle.seek_command.proofs.OneSought.{sought_exists}
use Rattle.seek_command.proofs.SeekSteps.{gives-is, found-held, nothing-noted, refused-noted}
use Rattle.seek_command.proofs.seeking.print_found.Goals as goal

pub returns-in_err-size-clause-printed : goal.returns-in_err-size-clause-printed
returns-in_err-size-clause-printed g c = λ made notes.
    unsized-put seek_ends (IsSeekAnswer c.args.words.now) (sought_exists c.args.words.now) _ _ _ _ _ _ c.from_residual.result c.from_residual.ensures.0 c.from_residual.ensures.1 c.in_err-size.ensures.unread

pub returns-in-Ok-None-clause-printed : goal.returns-in-Ok-None-clause-printed
returns-in-Ok-None-clause-printed g c = λ made notes.
    nothing-noted c.args.words.now _ _ _ c.in_ok-size.ensures.same_bytes
    (short_told _ c.in_ok-size.size c.in_ok-size.ensures.sized.in_reach c.in_ok-size.ensures.exact) (gives-is c.args.words.now.by _ _ None c.in-Ok-None.field-0-is c.in-Ok-None.ensures.gives)

pub returns-in-Err-Refused-clause-printed : goal.returns-in-Err-Refused-clause-printed
returns-in-Err-Refused-clause-printed g c = λ made notes.
    refused-noted c.args.words.now _ _ _ c.in_ok-size.ensures.same_bytes c.in-Err-Refused.fault
    (short_told _ c.in_ok-size.size c.in_ok-size.ensures.sized.in_reach c.in_ok-size.ensures.exact)
    (c.in-Err-Refused.ensures.refused c.in-Err-Refused.fault (ap Err c.in-Err-Refused.field-0-is))

pub returns-in-Err-Store-clause-printed : goal.returns-in-Err-Store-clause-printed
returns-in-Err-Store-clause-printed g c = λ made notes.
    nothing-put (IsSeekAnswer c.args.words.now) (sought_exists c.args.words.now) _ _

pub returns-in-Err-Memory-clause-printed : goal.returns-in-Err-Memory-clause-printed
returns-in-Err-Memory-clause-printed g c = λ made notes.
    nothing-put (IsSeekAnswer c.args.words.now) (sought_exists c.args.words.now) _ _

pub returns-in-Ok-clause-printed : goal.returns-in-Ok-clause-printed
returns-in-Ok-clause-printed g c = λ made notes.
    end-flushed seek_ends (IsSeekAnswer c.args.words.now) (Ok (tt {0})) _ _ (taken_by made (g.O.Sink.taken c.args.out.now) notes) made _ _ notes _ refl
    (found-held c.args.words.now _ _ _ c.in_ok-size.ensures.same_bytes c.in-Ok-Some.found
    (short_told _ c.in_ok-size.size c.in_ok-size.ensures.sized.in_reach c.in_ok-size.ensures.exact) (gives-is c.args.words.now.by _ _ (Some c.in-Ok-Some.found) c.in-Ok-Some.field-0-is c.in-Ok-Some.ensures.gives))
    c.in-Ok.ensures.whole

pub returns-clause-printed : goal.returns-clause-printed
returns-clause-printed g c = λ made notes.
    end-unflushed seek_ends (IsSeekAnswer c.args.words.now) (Ok (tt {0})) Out refl _ _ (taken_by made (g.O.Sink.taken c.args.out.now) notes) made _ _ notes _ refl
    (found-held c.args.words.now _ _ _ c.in_ok-size.ensures.same_bytes c.in-Ok-Some.found
    (short_told _ c.in_ok-size.size c.in_ok-size.ensures.sized.in_reach c.in_ok-size.ensures.exact) (gives-is c.args.words.now.by _ _ (Some c.in-Ok-Some.found) c.in-Ok-Some.field-0-is c.in-Ok-Some.ensures.gives))
    c.in-Err.ensures.front
