use Rattle.std.proofs.Common.{arith, refl, ◌∙◌}
use Rattle.record_io.specs.Puts.{taken_by}
use Rattle.show_command.specs.ShowCommand.{IsShown, IsShownSoFar, show_meaning}
use Rattle.show_command.specs.ReadingEnds.{reading_ends}
use Rattle.command_frame.proofs.FileEnds.{unsized-put, unsized-allowed, end-flushed, end-unflushed}
use Rattle.command_frame.proofs.FileRuns.{handed-work}
use Rattle.show_command.proofs.ReadingsExist.{shown_exists}
use Rattle.command_frame.proofs.PutSoFar.{so_far-nothing, so_far-flushed}
use Rattle.command_frame.proofs.RunEnds.{rose-behind}
use Rattle.show_command.proofs.ShowSteps.{shown-none}
use Rattle.show_command.proofs.showing.print_file.Goals as goal

pub returns-in_err-size-clause-printed : goal.returns-in_err-size-clause-printed
returns-in_err-size-clause-printed g c = λ made notes.
    unsized-put reading_ends (IsShown c.args.words.now) (shown_exists c.args.words.now) _ _ _ _ _ _ c.from_residual.result c.from_residual.ensures.0 c.from_residual.ensures.1 c.in_err-size.ensures.unread

pub returns-in-Ok-clause-printed : goal.returns-in-Ok-clause-printed
returns-in-Ok-clause-printed g c = λ made notes.
    end-flushed reading_ends (IsShown c.args.words.now) c.print_chunks-printed.result _ _ (taken_by made (g.O.Sink.taken c.args.out.now) notes) made _ _ notes _
    c.in_ok-size.ensures.same_bytes (c.print_chunks-printed.ensures.printed made notes) c.in-Ok.ensures.sink.whole

pub returns-in-Err-clause-printed : goal.returns-in-Err-clause-printed
returns-in-Err-clause-printed g c = λ made notes.
    end-unflushed reading_ends (IsShown c.args.words.now) c.print_chunks-printed.result _ c.unprinted.ensures _ _ (taken_by made (g.O.Sink.taken c.args.out.now) notes) made _ _ notes _
    c.in_ok-size.ensures.same_bytes (c.print_chunks-printed.ensures.printed made notes)
    c.in-Err.ensures.sink.front

pub returns-in_err-size-clause-allowed : goal.returns-in_err-size-clause-allowed
returns-in_err-size-clause-allowed g c =
    unsized-allowed (show_meaning c.args.words.now) refl _ _ _ _ _ c.from_residual.result c.from_residual.ensures.0 c.from_residual.ensures.1 c.in_err-size.ensures.unread

pub returns-in_err-size-clause-so_far : goal.returns-in_err-size-clause-so_far
returns-in_err-size-clause-so_far g c = λ short sound made notes.
    so_far-nothing (IsShownSoFar c.args.words.now _ _) _ _ (shown-none c.args.words.now _ _ c.in_err-size.ensures.same_handed)

pub returns-in-Ok-clause-so_far : goal.returns-in-Ok-clause-so_far
returns-in-Ok-clause-so_far g c = λ short sound made notes.
    rw (← c.in_ok-size.ensures.same_handed)
    (so_far-flushed (IsShownSoFar c.args.words.now _ _) _ _ (taken_by made (g.O.Sink.taken c.args.out.now) notes) made _ _ notes _
    c.in_ok-size.ensures.same_bytes (c.print_chunks-printed.ensures.so_far short made notes) c.in-Ok.ensures.sink.whole)

pub returns-in-Err-clause-so_far : goal.returns-in-Err-clause-so_far
returns-in-Err-clause-so_far g c = λ short sound.
    absurd (sound (rose-behind _ _ _ c.print_chunks-printed.ensures.out.never_falls (c.in-Err.ensures.sink.counts.cause refl)))

pub returns-in-Ok-clause-handed : goal.returns-in-Ok-clause-handed
returns-in-Ok-clause-handed g c =
    handed-work (show_meaning c.args.words.now) _ c.in_ok-size.size _ _ (c.print_chunks-printed.ensures.file.asks.same_told ∙ c.in_ok-size.ensures.sized.is_told)
    (c.in_ok-size.ensures.sized.in_reach, omega (arith, c.print_chunks-printed.ensures.file.handed, c.in_ok-size.ensures.same_handed))

pub returns-in-Err-clause-handed : goal.returns-in-Err-clause-handed
returns-in-Err-clause-handed g c =
    handed-work (show_meaning c.args.words.now) _ c.in_ok-size.size _ _ (c.print_chunks-printed.ensures.file.asks.same_told ∙ c.in_ok-size.ensures.sized.is_told)
    (c.in_ok-size.ensures.sized.in_reach, omega (arith, c.print_chunks-printed.ensures.file.handed, c.in_ok-size.ensures.same_handed))
