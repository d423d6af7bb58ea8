use Rattle.std.proofs.Common.{◌≡◌, ◌∙◌, ℕ, ◌+◌, Option, Some, None, IfSome, List, ap, subst, rules}
use Rattle.damage_skip.specs.Steps.{IsOnward, LeadsTo}
use Rattle.damage_skip.proofs.Leads.{leads-at, limit-file, limit-chunk, each_end}
use Rattle.damage_skip.proofs.block_checks.ChunkSpanJudgesBlocks.judge.Goals as goal

pub contradicted_at-requires-clause-block : goal.contradicted_at-requires-clause-block
contradicted_at-requires-clause-block g c = record {
  sized = c.requires.judges.fits;
  at_block = search rules;
  below = limit-file c.args.self.now.end c.args.self.now.size c.args.block c.requires.judges.within;
}

pub contradicted_at-requires-clause-begun : goal.contradicted_at-requires-clause-begun
contradicted_at-requires-clause-begun g c = c.requires.judges.begun

pub contradicted_at-requires-clause-within : goal.contradicted_at-requires-clause-within
contradicted_at-requires-clause-within g c = limit-chunk c.args.self.now.end c.args.self.now.size c.args.block c.requires.judges.within

pub returns-in-Some-clause-refused : goal.returns-in-Some-clause-refused
returns-in-Some-clause-refused g c =
    λ told e.
    let span = c.args.self.now in
    let block = c.args.block in
    let same : c.in-Some.landing ≡ told = cc in
    let is : c.in_ok-landing.field-0 ≡ Some told = c.in-Some.is ∙ ap Some same in (
      subst (λ (o : Option ℕ). IfSome o (IsOnward span.size span.begin)) is c.in_ok-landing.ensures.onward,
      each_end _ (λ (file : List ℕ) (end : ℕ). LeadsTo file span.begin end block (block + 1) (Some told)) span.end
          (λ end ends. leads-at _ span.begin end block (block + 1) c.in_ok-landing.field-0 (Some told) is (c.in_ok-landing.ensures.leads end ends)),
    )

pub returns-in-None-clause-accepted : goal.returns-in-None-clause-accepted
returns-in-None-clause-accepted g c =
    let span = c.args.self.now in
    let block = c.args.block in
    each_end _ (λ (file : List ℕ) (end : ℕ). LeadsTo file span.begin end block (block + 1) None) span.end
    (λ end ends. leads-at _ span.begin end block (block + 1) c.in_ok-landing.field-0 None c.in-None.is (c.in_ok-landing.ensures.leads end ends))
