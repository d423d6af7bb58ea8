use Rattle.std.proofs.Common.{false, refl, ◌∙◌}
use Rattle.record_io.specs.Puts.{taken_by}
use Rattle.damage_skip.specs.Bounds.{MaySkip}
use Rattle.damage_skip.proofs.WalkTakings.{by_walk-none, by_walk-then}
use Rattle.recover_command.specs.RecoverCommand.{IsRecovered, IsRecoveredSoFar, recover_meaning}
use Rattle.command_frame.proofs.FileRuns.{handed-work}
use Rattle.command_frame.proofs.PutSoFar.{so_far-nothing, so_far-flushed}
use Rattle.recover_command.proofs.RecoverLoop.{recovered-none}
use Rattle.recover_command.specs.WalkingEnds.{walk_ends}
use Rattle.command_frame.proofs.FileEnds.{unsized-put, unsized-allowed, end-flushed, end-unflushed}
use Rattle.recover_command.proofs.OneRecovery.{recovered_exists}
use Rattle.command_frame.proofs.RunEnds.{rose-behind}
use Rattle.recover_command.proofs.WalkRuns.{tells-unsized}
use Rattle.recover_command.proofs.recovering.recover_file.Goals as goal

pub returns-in_err-size-clause-printed : goal.returns-in_err-size-clause-printed
returns-in_err-size-clause-printed g c = λ made.
    unsized-put walk_ends (IsRecovered c.args.words.now) (recovered_exists c.args.words.now) _ _ _ _ _ _ c.from_residual.result c.from_residual.ensures.0 c.from_residual.ensures.1 c.in_err-size.ensures.unread

pub returns-in-Ok-clause-printed : goal.returns-in-Ok-clause-printed
returns-in-Ok-clause-printed g c = λ made.
    end-flushed walk_ends (IsRecovered c.args.words.now) c.print_events-walked.result _ _ _ made _ _ _ _ c.in_ok-size.ensures.same_bytes (c.print_events-walked.ensures.printed made) c.in-Ok.ensures.sink.whole

pub returns-in-Err-clause-printed : goal.returns-in-Err-clause-printed
returns-in-Err-clause-printed g c = λ made.
    end-unflushed walk_ends (IsRecovered c.args.words.now) c.print_events-walked.result _ c.unprinted.ensures _ _ _ made _ _ _ _
    c.in_ok-size.ensures.same_bytes (c.print_events-walked.ensures.printed made) c.in-Err.ensures.sink.front

pub returns-in_err-size-clause-allowed : goal.returns-in_err-size-clause-allowed
returns-in_err-size-clause-allowed g c =
    unsized-allowed (recover_meaning c.args.words.now) refl _ _ _ _ _ c.from_residual.result c.from_residual.ensures.0 c.from_residual.ensures.1 c.in_err-size.ensures.unread

pub returns-in_err-size-clause-said : goal.returns-in_err-size-clause-said
returns-in_err-size-clause-said g c =
    tells-unsized c.args.words.now.most _ _ _ _ _ _ c.from_residual.result c.from_residual.ensures.0 c.from_residual.ensures.1 c.in_err-size.ensures.unread

pub returns-in_err-size-clause-so_far : goal.returns-in_err-size-clause-so_far
returns-in_err-size-clause-so_far g c = λ short sound made.
    so_far-nothing (IsRecoveredSoFar c.args.words.now _ _) _ _ (recovered-none c.args.words.now _ _ c.in_err-size.ensures.same_handed)

pub returns-in-Ok-clause-so_far : goal.returns-in-Ok-clause-so_far
returns-in-Ok-clause-so_far g c = λ short sound made.
    rw (← c.in_ok-size.ensures.same_handed)
    (so_far-flushed (IsRecoveredSoFar c.args.words.now _ _) _ _ (taken_by made (g.O.Sink.taken c.args.out.now) (g.E.Sink.taken c.args.notes.now)) made _ _ _ _
    c.in_ok-size.ensures.same_bytes (c.print_events-walked.ensures.so_far short made) c.in-Ok.ensures.sink.whole)

pub returns-in-Err-clause-so_far : goal.returns-in-Err-clause-so_far
returns-in-Err-clause-so_far g c = λ short sound.
    absurd (sound (rose-behind _ _ _ c.print_events-walked.ensures.streams.out_counts.never_falls (c.in-Err.ensures.sink.counts.cause refl)))

pub returns-in-Ok-clause-handed : goal.returns-in-Ok-clause-handed
returns-in-Ok-clause-handed g c =
    handed-work (recover_meaning c.args.words.now) _ c.in_ok-size.size _ _ (c.print_events-walked.ensures.file.same_told ∙ c.in_ok-size.ensures.sized.is_told)
    (c.in_ok-size.ensures.sized.in_reach, tt)

pub returns-in-Err-clause-handed : goal.returns-in-Err-clause-handed
returns-in-Err-clause-handed g c =
    handed-work (recover_meaning c.args.words.now) _ c.in_ok-size.size _ _ (c.print_events-walked.ensures.file.same_told ∙ c.in_ok-size.ensures.sized.is_told)
    (c.in_ok-size.ensures.sized.in_reach, tt)

pub returns-in_err-size-clause-handed_of : goal.returns-in_err-size-clause-handed_of
returns-in_err-size-clause-handed_of g c =
    by_walk-none false (MaySkip c.args.words.now.most) _ _ _ c.in_err-size.ensures.same_handed

pub returns-in-Ok-clause-handed_of : goal.returns-in-Ok-clause-handed_of
returns-in-Ok-clause-handed_of g c =
    by_walk-then false (MaySkip c.args.words.now.most) (MaySkip c.args.words.now.most) _ _ _ _ _ c.in_ok-size.ensures.same_bytes
    c.in_ok-size.ensures.same_handed (λ region may. may) c.print_events-walked.ensures.handed_of

pub returns-in-Err-clause-handed_of : goal.returns-in-Err-clause-handed_of
returns-in-Err-clause-handed_of g c =
    by_walk-then false (MaySkip c.args.words.now.most) (MaySkip c.args.words.now.most) _ _ _ _ _ c.in_ok-size.ensures.same_bytes
    c.in_ok-size.ensures.same_handed (λ region may. may) c.print_events-walked.ensures.handed_of
