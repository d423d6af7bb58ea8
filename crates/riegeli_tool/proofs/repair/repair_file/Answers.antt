use Rattle.std.proofs.Common.{◌∙◌, true, refl, rules, tests}
use Rattle.damage_skip.specs.Bounds.{MaySkip}
use Rattle.damage_skip.proofs.WalkTakings.{by_walk-none}
use Rattle.riegeli_tool.specs.RepairCommand.{IsRepaired, IsRepairedSoFar, repair_meaning}
use Rattle.recover_command.specs.WalkingEnds.{walk_ends}
use Rattle.command_frame.proofs.FileEnds.{unsized-put, unsized-allowed}
use Rattle.command_frame.proofs.FileRuns.{handed-work, told-in_reach}
use Rattle.riegeli_tool.proofs.FileAnswersExist.{repaired_exists}
use Rattle.command_frame.proofs.PutSoFar.{so_far-nothing}
use Rattle.riegeli_tool.proofs.RepairEnds.{repaired-none, repair-takes, ended-walks, ended-so_far, ended-tells, ended-allowed, done-walks, done-tells, unreported-ends, unreported-tells}
use Rattle.show_command.proofs.ShowSteps.{short_told}
use Rattle.recover_command.proofs.WalkRuns.{tells-unsized}
use Rattle.riegeli_tool.proofs.repair.repair_file.Goals as goal

pub returns-in_err-size-clause-walks : goal.returns-in_err-size-clause-walks
returns-in_err-size-clause-walks g c =
    unsized-put walk_ends (IsRepaired c.args.words.now) (repaired_exists c.args.words.now) _ _ _ _ _ _ c.from_residual.result c.from_residual.ensures.0 c.from_residual.ensures.1 c.in_err-size.ensures.unread

pub returns-in-Err-clause-walks : goal.returns-in-Err-clause-walks
returns-in-Err-clause-walks g c =
    ended-walks _ c.new-policy.result.test c.args.words.now (λ region allowed is returned. search (rules, tests)) _ _ c.in_ok-size.ensures.same_bytes
    (short_told _ _ c.in_ok-size.ensures.sized.in_reach c.in_ok-size.ensures.exact)
    c.in-Err.end _ _ _ _ _ _ _ _ _ c.end_of_repair.ensures c.in-Err.ensures.repairs

pub returns-in_err-size-clause-so_far : goal.returns-in_err-size-clause-so_far
returns-in_err-size-clause-so_far g c = λ short sound.
    so_far-nothing (IsRepairedSoFar c.args.words.now _ _) _ _ (repaired-none c.args.words.now _ _ c.in_err-size.ensures.same_handed)

pub returns-in-Err-clause-so_far : goal.returns-in-Err-clause-so_far
returns-in-Err-clause-so_far g c =
    rw (← c.in_ok-size.ensures.same_handed)
    (ended-so_far _ c.new-policy.result.test c.args.words.now (λ region allowed is returned. search (rules, tests)) _ _ c.in_ok-size.ensures.same_bytes
    (short_told _ _ c.in_ok-size.ensures.sized.in_reach c.in_ok-size.ensures.exact)
    c.in-Err.end _ _ _ _ _ _ _ _ _ _ c.end_of_repair.ensures
    c.in-Err.ensures.repairs)

pub returns-in-Err-clause-said : goal.returns-in-Err-clause-said
returns-in-Err-clause-said g c =
    ended-tells _ c.new-policy.result.test c.args.words.now (λ region allowed is returned. search (rules, tests))
    c.in-Err.end _ _ _ c.end_of_repair.ensures
    c.in-Err.ensures.skips

pub returns-in-Err-clause-allowed : goal.returns-in-Err-clause-allowed
returns-in-Err-clause-allowed g c =
    ended-allowed _ c.new-policy.result.test c.args.words.now (λ region allowed is returned. search (rules, tests))
    c.in-Err.end _ _ _ _ c.end_of_repair.ensures c.in-Err.ensures.skips
    (told-in_reach _ _ (c.in-Err.ensures.store.same_told ∙ c.in_ok-size.ensures.sized.is_told) c.in_ok-size.ensures.sized.in_reach)

pub returns-in-Ok-put_report-clause-walks : goal.returns-in-Ok-put_report-clause-walks
returns-in-Ok-put_report-clause-walks g c =
    done-walks _ c.new-policy.result.test c.args.words.now (λ region allowed is returned. search (rules, tests)) _ _ c.in_ok-size.ensures.same_bytes
    (short_told _ _ c.in_ok-size.ensures.sized.in_reach c.in_ok-size.ensures.exact)
    c.in-Ok.repaired _ _ _ _ _ _ _ _ _ _ c.in-Ok.ensures.repairs c.in-Ok-put_report.ensures.out.whole
    c.status_past.ensures.told

pub returns-in-Ok-put_report-clause-said : goal.returns-in-Ok-put_report-clause-said
returns-in-Ok-put_report-clause-said g c =
    done-tells _ c.new-policy.result.test c.args.words.now (λ region allowed is returned. search (rules, tests))
    c.in-Ok.repaired _ _ _ c.in-Ok.ensures.skips c.status_past.ensures.told

pub returns-in-Err-put_report-clause-walks : goal.returns-in-Err-put_report-clause-walks
returns-in-Err-put_report-clause-walks g c =
    unreported-ends _ c.new-policy.result.test c.args.words.now (λ region allowed is returned. search (rules, tests)) _ _ c.in_ok-size.ensures.same_bytes
    (short_told _ _ c.in_ok-size.ensures.sized.in_reach c.in_ok-size.ensures.exact)
    c.in-Ok.repaired _ _ _ _ _ _ _ _ _ c.in-Ok.ensures.repairs c.in-Err-put_report.ensures.out.front

pub returns-in-Err-put_report-clause-said : goal.returns-in-Err-put_report-clause-said
returns-in-Err-put_report-clause-said g c =
    unreported-tells _ c.new-policy.result.test c.args.words.now (λ region allowed is returned. search (rules, tests))
    c.in-Ok.repaired _ _ c.in-Ok.ensures.skips

pub returns-in_err-size-clause-allowed : goal.returns-in_err-size-clause-allowed
returns-in_err-size-clause-allowed g c =
    unsized-allowed (repair_meaning c.args.words.now) refl _ _ _ _ _ c.from_residual.result c.from_residual.ensures.0 c.from_residual.ensures.1 c.in_err-size.ensures.unread

pub returns-in_err-size-clause-said : goal.returns-in_err-size-clause-said
returns-in_err-size-clause-said g c =
    tells-unsized c.args.words.now.most _ _ _ _ _ _ c.from_residual.result c.from_residual.ensures.0 c.from_residual.ensures.1 c.in_err-size.ensures.unread

pub returns-in-Err-clause-handed : goal.returns-in-Err-clause-handed
returns-in-Err-clause-handed g c =
    handed-work (repair_meaning c.args.words.now) _ c.in_ok-size.size _ _ (c.in-Err.ensures.store.same_told ∙ c.in_ok-size.ensures.sized.is_told)
    (c.in_ok-size.ensures.sized.in_reach, tt)

pub returns-in-Ok-put_report-clause-handed : goal.returns-in-Ok-put_report-clause-handed
returns-in-Ok-put_report-clause-handed g c =
    handed-work (repair_meaning c.args.words.now) _ c.in_ok-size.size _ _ (c.in-Ok.ensures.store.same_told ∙ c.in_ok-size.ensures.sized.is_told)
    (c.in_ok-size.ensures.sized.in_reach, tt)

pub returns-in-Err-put_report-clause-handed : goal.returns-in-Err-put_report-clause-handed
returns-in-Err-put_report-clause-handed g c =
    handed-work (repair_meaning c.args.words.now) _ c.in_ok-size.size _ _ (c.in-Ok.ensures.store.same_told ∙ c.in_ok-size.ensures.sized.is_told)
    (c.in_ok-size.ensures.sized.in_reach, tt)

pub returns-in_err-size-clause-handed_of : goal.returns-in_err-size-clause-handed_of
returns-in_err-size-clause-handed_of g c =
    by_walk-none true (MaySkip c.args.words.now.most) _ _ _ c.in_err-size.ensures.same_handed

pub returns-in-Err-clause-handed_of : goal.returns-in-Err-clause-handed_of
returns-in-Err-clause-handed_of g c =
    repair-takes _ c.new-policy.result.test c.args.words.now (λ region allowed is returned. search (rules, tests)) _ _ _ _ _ _ _ _ _ _
    c.in_ok-size.ensures.same_bytes c.in_ok-size.ensures.same_handed c.in-Err.ensures.repairs

pub returns-in-Ok-put_report-clause-handed_of : goal.returns-in-Ok-put_report-clause-handed_of
returns-in-Ok-put_report-clause-handed_of g c =
    repair-takes _ c.new-policy.result.test c.args.words.now (λ region allowed is returned. search (rules, tests)) _ _ _ _ _ _ _ _ _ _
    c.in_ok-size.ensures.same_bytes c.in_ok-size.ensures.same_handed c.in-Ok.ensures.repairs

pub returns-in-Err-put_report-clause-handed_of : goal.returns-in-Err-put_report-clause-handed_of
returns-in-Err-put_report-clause-handed_of g c =
    repair-takes _ c.new-policy.result.test c.args.words.now (λ region allowed is returned. search (rules, tests)) _ _ _ _ _ _ _ _ _ _
    c.in_ok-size.ensures.same_bytes c.in_ok-size.ensures.same_handed c.in-Ok.ensures.repairs
