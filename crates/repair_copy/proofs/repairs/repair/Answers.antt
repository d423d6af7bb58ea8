use Rattle.std.proofs.Common.{◌≡◌, ◌∙◌, Some, Ok, Err, refl, ap}
use Rattle.std.proofs.lemmas.Result.{err_from_is_err_and}
use Rattle.damage_skip.specs.declared.events.WalkEnd.TheVariants as walk
use Rattle.damage_skip.specs.Policies.{IsRefusedRegion}
use Rattle.damage_skip.specs.Steps.{IsOnward}
use Rattle.damage_skip.specs.declared.regions.Region.{Region}
use Rattle.repair_copy.proofs.FrontRepairs.{repairs_known}
use Rattle.repair_copy.proofs.SkippedRegions.{skips_failed, within_failed, read_on}
use Rattle.repair_copy.proofs.WalkEnds.{quiet_ended, repairs_ended, repairs_cut, skips_ended}
use Rattle.repair_copy.proofs.repairs.repair.Goals as goal
use Rattle.repair_copy.proofs.repairs.repair.Goals.{In_ok-ended}

pub returns-in_err-ended-clause-repairs : goal.returns-in_err-ended-clause-repairs
returns-in_err-ended-clause-repairs g c =
    let p = err_from_is_err_and c.from_residual.result c.from_residual.ensures.1 in
    repairs_cut g.F.Fn c.args.policy.test _ c.from_residual.result c.in_err-ended.field-0.0 c.copy_walk.new.copied _ _ _ _ _ (p.1 ∙ ap Err p.2)
    c.in_err-ended.ensures.copies

pub returns-in_err-ended-clause-known : goal.returns-in_err-ended-clause-known
returns-in_err-ended-clause-known g c = repairs_known g.F.Fn c.args.policy.test _ _ _ _ _ _ _ (returns-in_err-ended-clause-repairs g c)

pub returns-in_err-ended-clause-skips : goal.returns-in_err-ended-clause-skips
returns-in_err-ended-clause-skips g c =
    let p = err_from_is_err_and c.from_residual.result c.from_residual.ensures.1 in
    skips_failed g.F.Fn c.args.policy.test c.from_residual.result c.in_err-ended.field-0.0 _ _ (p.1 ∙ ap Err p.2)
    (c.in_err-ended.ensures.skips c.in_err-ended.field-0.0 refl)

pub returns-in_err-ended-clause-bounds : goal.returns-in_err-ended-clause-bounds
returns-in_err-ended-clause-bounds g c =
    let p = err_from_is_err_and c.from_residual.result c.from_residual.ensures.1 in
    within_failed g.F.Fn c.args.policy.test c.args.size c.from_residual.result c.in_err-ended.field-0.0 _ _ (p.1 ∙ ap Err p.2)
    (c.in_err-ended.ensures.skips c.in_err-ended.field-0.0 refl)

pub returns-in_err-ended-clause-store : goal.returns-in_err-ended-clause-store
returns-in_err-ended-clause-store g c =
    let p = err_from_is_err_and c.from_residual.result c.from_residual.ensures.1 in
    let asked = c.in_err-ended.ensures.store in
    record {
      same_bytes = asked.same_bytes;
      same_told = asked.same_told;
      same_name = asked.same_name;
      cause = λ store. absurd (read_on g.F.Fn c.args.policy.test c.from_residual.result c.in_err-ended.field-0.0 _ _ (p.1 ∙ ap Err p.2)
          (c.in_err-ended.ensures.skips c.in_err-ended.field-0.0 refl) store);
      never_falls = asked.never_falls;
      small = asked.small;
    }

pub returns-clause-repairs : goal.returns-clause-repairs
returns-clause-repairs g c =
    repairs_ended g.F.Fn c.args.policy.test _ c.end_repair.result c.in_ok-ended.ended c.copy_walk.new.copied _ _ _ _ _ _ _ c.end_repair.ensures.answer
    c.in_ok-ended.ensures.made.never_falls
    (λ before events. c.end_repair.ensures.put before (g.E.Sink.taken c.copy_walk.new.notes) events)
    c.in_ok-ended.ensures.copies

pub returns-clause-known : goal.returns-clause-known
returns-clause-known g c = repairs_known g.F.Fn c.args.policy.test _ _ _ _ _ _ _ (returns-clause-repairs g c)

-- the region at which the walk stopped
stopped : (g : _) (c : In_ok-ended g) (region : Region) → c.in_ok-ended.ended ≡ Some (walk.Stopped region)
    → IsOnward c.args.size region.begin region.end × IsRefusedRegion g.F.Fn c.args.policy.test region
stopped g c region is =
    c.in_ok-ended.ensures.stop region (ap Ok is)

pub returns-clause-skips : goal.returns-clause-skips
returns-clause-skips g c =
    let at = (goal.at.returns-clause-skips g c).In_ok-ended in
    skips_ended g.F.Fn c.args.policy.test c.end_repair.result c.in_ok-ended.ended c.copy_walk.new.copied.regions _ _ c.end_repair.ensures.answer
    c.end_repair.ensures.regions (λ region is. (stopped g at region is).1)
    c.in_ok-ended.ensures.skipped

pub returns-clause-quiet : goal.returns-clause-quiet
returns-clause-quiet g c =
    quiet_ended c.end_repair.result c.copy_walk.new.copied.regions c.args.notes.now c.copy_walk.new.notes c.end_repair.ensures.regions
    c.in_ok-ended.ensures.within.quiet

pub returns-clause-bounds : goal.returns-clause-bounds
returns-clause-bounds g c =
    let at = (goal.at.returns-clause-bounds g c).In_ok-ended in
    let within = c.in_ok-ended.ensures.within in
    record {
      done = c.end_repair.ensures.bounds c.args.size within.small within.few;
      stopped = λ region is. (stopped g at region (rw is at c.end_repair.ensures.answer)).0;
    }
