use Rattle.std.proofs.Common.{◌∙◌, length, sym}
use Rattle.simple_chunk.proofs.Parts.{AreEnds-le}
use Rattle.simple_chunk.proofs.RecordLists.{concat-parts_from, AreBytes-records}
use Rattle.simple_chunk.proofs.records_ref.RecordsRef.values.Goals as goal

pub bytes_from-requires : goal.bytes_from-requires
bytes_from-requires c = AreEnds-le c.self.inside.begin c.self.inside.ends.now (length c.self.inside.values.now) c.self.invariant.0

pub returns-clause-value : goal.returns-clause-value
returns-clause-value c =
    rw (← c.self.view_is)
    (c.bytes_from.ensures.value ∙ sym (concat-parts_from c.self.inside.begin c.self.inside.ends.now c.self.inside.values.now c.self.invariant.0))

pub returns-clause-are_bytes : goal.returns-clause-are_bytes
returns-clause-are_bytes c =
    rw (← c.self.view_is)
    (AreBytes-records _
    (rw (concat-parts_from c.self.inside.begin c.self.inside.ends.now c.self.inside.values.now c.self.invariant.0, ← c.bytes_from.ensures.value)
    c.bytes_from.ensures.are_bytes))
