use Rattle.std.proofs.Common.{refl}
use Rattle.damage_skip.proofs.Leads.{leads-unread, leads-agreed}
use Rattle.damage_skip.proofs.block_checks.ChunkSpan.contradicted_at.Goals as goal

pub returns-in_default-clause-leads : goal.returns-in_default-clause-leads
returns-in_default-clause-leads g c =
    λ end is. leads-unread _ c.args.self.begin end c.args.block c.in_ok-header.field-0 (cc) c.in_ok-header.ensures.found

pub returns-then-agrees-clause-leads : goal.returns-then-agrees-clause-leads
returns-then-agrees-clause-leads g c =
    λ end is.
    leads-agreed _ c.args.self.begin end c.args.block _ c.in-Some.header c.in-Some.is c.in_ok-header.ensures.found
    ((c.if-agrees.ensures end is).0 refl)
