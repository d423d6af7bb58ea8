use Rattle.std.proofs.Common.{◌≡◌, ◌∙◌, ◌<◌, ℕ, List, length, get_or, ap, arith}
use Rattle.std.proofs.lemmas.List.{get_or_read}
use Rattle.simple_chunk.specs.Records.{record_begin}
use Rattle.simple_chunk.specs.RecordGroups.{AreHeldCuts, GroupsValue, cut_at}
use Rattle.simple_chunk.proofs.GroupLists.{IsGroup, group_at, length-groups}
use Rattle.simple_chunk.proofs.record_groups.RecordGroups.group.Goals as goal

few_of : (cuts : List ℕ) (records : List (List ℕ)) (g : GroupsValue) (i : ℕ) → cut_at cuts records ≡ g → i < length g.groups → i < length cuts
few_of cuts records g i view few = omega (arith, length-groups cuts records g view)

-- the group between two cuts that were read
found : (cuts read : List ℕ) (records : List (List ℕ)) (g : GroupsValue) (i from to : ℕ) → cut_at cuts records ≡ g → AreHeldCuts cuts (length records)
    → i < length g.groups → read ≡ cuts → from ≡ record_begin 0 read i → to ≡ get_or cuts i to → IsGroup records g.groups i from to
found cuts read records g i from to view h few same begins ends_at =
    let inside : i < length cuts = few_of cuts records g i view few in
    group_at cuts records g i from to view h inside (begins ∙ ap (λ l. record_begin 0 l i) same) (get_or_read cuts i to inside ends_at 0)

pub place_before-from-requires : goal.place_before-from-requires
place_before-from-requires c = omega (arith, few_of _ _ _ c.args.i c.self.view_is c.requires, ap length c.deref.ensures.value)

pub index-requires : goal.index-requires
index-requires c = omega (arith, few_of _ _ _ c.args.i c.self.view_is c.requires)

pub range-requires-clause-order : goal.range-requires-clause-order
range-requires-clause-order c =
    (found _ _ _ _ c.args.i _ _ c.self.view_is c.self.invariant c.requires c.deref.ensures.value c.place_before-from.ensures c.index.ensures).order

pub range-requires-clause-within : goal.range-requires-clause-within
range-requires-clause-within c =
    (found _ _ _ _ c.args.i _ _ c.self.view_is c.self.invariant c.requires c.deref.ensures.value c.place_before-from.ensures c.index.ensures).within

pub returns : goal.returns
returns c =
    rw c.range.ensures (found _ _ _ _ c.args.i _ _ c.self.view_is c.self.invariant c.requires c.deref.ensures.value c.place_before-from.ensures c.index.ensures).is
