use Rattle.std.proofs.Common.{◌≡◌, ◌∙◌, ◌+◌, ◌^◌, ◌<◌, ◌∷◌, ◌++◌, [], length, ap, rules}
use Rattle.simple_chunk.proofs.GroupLists.{group_closed}
use Rattle.simple_chunk.proofs.record_groups.RecordGroups.close_group.Goals as goal

pub invariant_of-self-2 : goal.invariant_of-self-2
invariant_of-self-2 c =
    let cuts = c.self.inside.cuts.items in
    let is : c.in_ok-cut.cut ≡ length c.self.inside.records = search rules in
    let few : length cuts + 1 < 2 ^ 32 = search rules in
    (group_closed cuts c.self.inside.records c.push.new.self.items c.self.invariant (c.in_ok-push.ensures.items ∙ ap (λ n. cuts ++ n ∷ []) is) few).held

pub returns-clause-closes : goal.returns-clause-closes
returns-clause-closes c =
    let cuts = c.self.inside.cuts.items in
    let is : c.in_ok-cut.cut ≡ length c.self.inside.records = search rules in
    let few : length cuts + 1 < 2 ^ 32 = search rules in
    rw (← c.self.view_is)
    (group_closed cuts c.self.inside.records c.push.new.self.items c.self.invariant (c.in_ok-push.ensures.items ∙ ap (λ n. cuts ++ n ∷ []) is) few).value
