use Rattle.std.proofs.Common.{◌∙◌, Ok, Err, ap, arith, refl}
use Rattle.record_io.specs.Puts.{taken_by}
use Rattle.record_io.specs.declared.cut.Cut.TheVariants.{Out}
use Rattle.show_command.specs.ReadingEnds.{reading_ends}
use Rattle.show_command.specs.VerifyCommand.{IsVerified, verify_meaning}
use Rattle.command_frame.proofs.FileEnds.{nothing-put, unsized-put, unsized-allowed, end-flushed, end-unflushed}
use Rattle.show_command.proofs.ReadingsExist.{verified_exists}
use Rattle.show_command.proofs.ShowSteps.{short_told}
use Rattle.command_frame.proofs.FileRuns.{handed-work}
use Rattle.show_command.proofs.VerifyEnds.{verify-refused, verified-held}
use Rattle.show_command.proofs.verifying.report_file.Goals as goal

pub returns-in_err-size-clause-printed : goal.returns-in_err-size-clause-printed
returns-in_err-size-clause-printed g c = λ made notes.
    unsized-put reading_ends IsVerified verified_exists _ _ _ _ _ _ c.from_residual.result c.from_residual.ensures.0 c.from_residual.ensures.1 c.in_err-size.ensures.unread

pub returns-in-Err-Refused-clause-printed : goal.returns-in-Err-Refused-clause-printed
returns-in-Err-Refused-clause-printed g c = λ made notes.
    verify-refused _ _ _ c.in-Err-Refused.fault c.in_ok-size.ensures.same_bytes
    (short_told _ c.in_ok-size.size c.in_ok-size.ensures.sized.in_reach c.in_ok-size.ensures.exact)
    (c.in-Err-Refused.ensures.refused c.in-Err-Refused.fault (ap Err c.in-Err-Refused.field-0-is))

pub returns-in-Err-Store-clause-printed : goal.returns-in-Err-Store-clause-printed
returns-in-Err-Store-clause-printed g c = λ made notes. nothing-put IsVerified verified_exists _ _

pub returns-in-Ok-put_report-clause-printed : goal.returns-in-Ok-put_report-clause-printed
returns-in-Ok-put_report-clause-printed g c = λ made notes.
    end-flushed reading_ends IsVerified (Ok (tt {0})) _ _ (taken_by made (g.O.Sink.taken c.args.out.now) notes) made _ _ notes _ refl
    (verified-held _ _ _ c.in-Ok.totals c.in_ok-size.ensures.same_bytes
    (short_told _ c.in_ok-size.size c.in_ok-size.ensures.sized.in_reach c.in_ok-size.ensures.exact) c.in-Ok.ensures.whole)
    c.in-Ok-put_report.ensures.out.whole

pub returns-in-Err-clause-printed : goal.returns-in-Err-clause-printed
returns-in-Err-clause-printed g c = λ made notes.
    end-unflushed reading_ends IsVerified (Ok (tt {0})) Out refl _ _ (taken_by made (g.O.Sink.taken c.args.out.now) notes) made _ _ notes _ refl
    (verified-held _ _ _ c.in-Ok.totals c.in_ok-size.ensures.same_bytes
    (short_told _ c.in_ok-size.size c.in_ok-size.ensures.sized.in_reach c.in_ok-size.ensures.exact) c.in-Ok.ensures.whole)
    c.in-Err.ensures.out.front

pub returns-in_err-size-clause-allowed : goal.returns-in_err-size-clause-allowed
returns-in_err-size-clause-allowed g c =
    unsized-allowed verify_meaning refl _ _ _ _ _ c.from_residual.result c.from_residual.ensures.0 c.from_residual.ensures.1 c.in_err-size.ensures.unread

pub returns-in-Err-Refused-clause-handed : goal.returns-in-Err-Refused-clause-handed
returns-in-Err-Refused-clause-handed g c =
    handed-work verify_meaning _ c.in_ok-size.size _ _ (c.in-Err-Refused.ensures.store.asks.same_told ∙ c.in_ok-size.ensures.sized.is_told)
    (c.in_ok-size.ensures.sized.in_reach, omega (arith, c.in-Err-Refused.ensures.store.handed, c.in_ok-size.ensures.same_handed))

pub returns-in-Err-Store-clause-handed : goal.returns-in-Err-Store-clause-handed
returns-in-Err-Store-clause-handed g c =
    handed-work verify_meaning _ c.in_ok-size.size _ _ (c.in-Err-Store.ensures.store.asks.same_told ∙ c.in_ok-size.ensures.sized.is_told)
    (c.in_ok-size.ensures.sized.in_reach, omega (arith, c.in-Err-Store.ensures.store.handed, c.in_ok-size.ensures.same_handed))

pub returns-in-Ok-put_report-clause-handed : goal.returns-in-Ok-put_report-clause-handed
returns-in-Ok-put_report-clause-handed g c =
    handed-work verify_meaning _ c.in_ok-size.size _ _ (c.in-Ok.ensures.store.asks.same_told ∙ c.in_ok-size.ensures.sized.is_told)
    (c.in_ok-size.ensures.sized.in_reach, omega (arith, c.in-Ok.ensures.store.handed, c.in_ok-size.ensures.same_handed))

pub returns-in-Err-clause-handed : goal.returns-in-Err-clause-handed
returns-in-Err-clause-handed g c =
    handed-work verify_meaning _ c.in_ok-size.size _ _ (c.in-Ok.ensures.store.asks.same_told ∙ c.in_ok-size.ensures.sized.is_told)
    (c.in_ok-size.ensures.sized.in_reach, omega (arith, c.in-Ok.ensures.store.handed, c.in_ok-size.ensures.same_handed))
