use Rattle.std.proofs.Common.{sym, ◌∙◌}
use Rattle.simple_chunk.proofs.RecordLists.{concat-parts_from, AreBytes-records}
use Rattle.simple_chunk.proofs.record_list.Records.values.Goals as goal

pub returns-clause-value : goal.returns-clause-value
returns-clause-value c = rw (← c.self.view_is) (c.as_slice.ensures.value ∙ sym (concat-parts_from 0 c.self.inside.ends.items c.self.inside.values c.self.invariant.order))

pub returns-clause-are_bytes : goal.returns-clause-are_bytes
returns-clause-are_bytes c =
    rw (← c.self.view_is) (AreBytes-records _ (rw (concat-parts_from 0 c.self.inside.ends.items c.self.inside.values c.self.invariant.order) c.as_slice.ensures.are_bytes))
