use Rattle.std.proofs.Common.{rules, arith, ◌≡◌, ◌∙◌, ◌++◌, ◌∷◌, Ok, Err, IfErr, ap, refl, subst, sym}
use Rattle.std.proofs.lemmas.Grind.{common_steps}
use Rattle.std.proofs.lemmas.Result.{err_from_is_err_and}
use Rattle.std.specs.Vec.Iter.{into_iter_items}
use Rattle.record_collect.specs.Ends.{IsGatheredBy}
use Rattle.record_collect.specs.Takings.{IsFirstStopped}
use Rattle.record_collect.proofs.AllRead.{passes-full, passes-whole, stopped_as, too_long_as}
use Rattle.record_collect.proofs.gathering.passes_of.Goals as goal

pub returns-in_err-check_all_read-clause-ended : goal.returns-in_err-check_all_read-clause-ended
returns-in_err-check_all_read-clause-ended c =
    let stopped = c.in_err-check_all_read.field-0.0 in
    let p = err_from_is_err_and c.from_residual.result c.from_residual.ensures.1 in
    subst (λ r. IfErr r (λ end. IsGatheredBy (Err end) c.args.fed.items)) (sym p.1)
    (stopped_as c.args.fed.items stopped.index stopped.end p.0 p.2
    (subst (λ l. IsFirstStopped l stopped.index stopped.end) c.deref.ensures.value (c.in_err-check_all_read.ensures.stopped stopped refl)))

pub loop-one-preserved-in-Ok-Whole : goal.loop-one-preserved-in-Ok-Whole
loop-one-preserved-in-Ok-Whole c = record {
  passes = passes-whole c.loop-one.yielded c.loop-one.passes.items _ c.loop-one.are_whole c.in-Some.one c.in-Ok-Whole.pass (c.in-Ok-Whole.is ∙ ap Ok c.in-Ok-Whole.field-0-is) c.push_reserved.ensures.items
      c.loop-one.invariant.passes;
  read = search rules;
  rest = grind (arith, common_steps);
  many = grind (arith, common_steps);
  room = grind (arith, common_steps);
}

pub loop-one-preserved : goal.loop-one-preserved
loop-one-preserved c = record {
  passes = passes-full c.loop-one.yielded c.loop-one.passes.items _ c.loop-one.are_whole c.in-Some.one c.in-Ok-Full.pass (c.in-Ok-Full.is ∙ ap Ok c.in-Ok-Full.field-0-is)
      c.push_reserved-in-Ok-Full.ensures.items c.loop-one.invariant.passes;
  read = search rules;
  rest = grind (arith, common_steps);
  many = grind (arith, common_steps);
  room = grind (arith, common_steps);
}

pub returns-in-Ok-TooLong-clause-ended : goal.returns-in-Ok-TooLong-clause-ended
returns-in-Ok-TooLong-clause-ended c =
    let whole : c.loop-one.yielded ++ c.in-Some.one ∷ into_iter_items c.next.new.self ≡ c.args.fed.items = grind (arith, common_steps) in
    too_long_as c.args.fed.items c.loop-one.yielded (into_iter_items c.next.new.self) c.in-Some.one c.loop-one.invariant.read (c.in-Ok-TooLong.is ∙ ap Ok c.in-Ok-TooLong.field-0-is) whole
