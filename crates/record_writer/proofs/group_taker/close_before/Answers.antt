use Rattle.std.proofs.Common.{◌≡◌, ◌∙◌, true, Some, ◌++◌, refl, ap, rules}
use Rattle.record_group.specs.Groups.{closes_before}
use Rattle.record_group.specs.Groupings.{Grouping}
use Rattle.record_group.proofs.Grouping.{closed_some}
use Rattle.record_writer.specs.Windows.{with_record}
use Rattle.record_writer.proofs.Given.{groups_from-last}
use Rattle.record_writer.proofs.Reaches.{reach_of-taken}
use Rattle.record_writer.proofs.group_taker.close_before.Goals as goal

pub returns-clause-pushes : goal.returns-clause-pushes
returns-clause-pushes c =
    let old = c.args.buffer.now.grouping in
    let closes : closes_before old.size old.every old.group c.args.rec.now ≡ true = search rules in (
      Some old.group,
      (closes, refl, ap (λ (g : Grouping). with_record g c.args.rec.now) c.in_ok-close.ensures.grouping),
      c.in_ok-close.ensures.closed
          ∙ ap (λ gs. c.args.buffer.now.closed ++ gs) (groups_from-last old (closed_some old.size old.every old.group c.args.rec.now closes)),
    )

pub returns-clause-in_reach : goal.returns-clause-in_reach
returns-clause-in_reach c = λ place.
    let old = c.args.buffer.now.grouping in
    let closes : closes_before old.size old.every old.group c.args.rec.now ≡ true = search rules in
    let some = closed_some old.size old.every old.group c.args.rec.now closes in
    reach_of-taken old (with_record c.close.new.self.grouping c.args.rec.now) c.args.rec.now (Some old.group)
    c.args.buffer.now.closed c.close.new.self.closed place
    (closes, refl, ap (λ (g : Grouping). with_record g c.args.rec.now) c.in_ok-close.ensures.grouping)
    some
    (c.in_ok-close.ensures.closed ∙ ap (λ gs. c.args.buffer.now.closed ++ gs) (groups_from-last old some))
