use Rattle.std.proofs.Common.{◌∙◌, ◌++◌, ℕ, List, arith, ap, length}
use Rattle.simple_chunk.specs.Sizes.{data_front}
use Rattle.simple_chunk.proofs.CostLemmas.{cost_of-is}
use Rattle.simple_chunk.proofs.SimpleChunks.{IsHeaderOf-simple_chunk}
use Rattle.simple_chunk.proofs.simple_parts.SimpleChunk.encode.Goals as goal

pub of_parts-requires-clause-few : goal.of_parts-requires-clause-few
of_parts-requires-clause-few c = omega (arith, cost_of-is c.self.inside.records, c.len.ensures, c.self.invariant.0.few)

pub invariant_of-self : goal.invariant_of-self
invariant_of-self c =
    let records = c.self.inside.records in
    let (room, _) = c.self.invariant in
    let front = rw c.as_ref.ensures at c.write_front.ensures.items ∙ ap (λ (items : List ℕ). items ++ data_front records) c.clear.ensures.items in (
      record { few = room.few; sized = room.sized; room = omega (arith, room.room, c.clear.ensures.capacity, c.write_front.ensures.room) },
      (
        IsHeaderOf-simple_chunk records c.of_parts.result c.len.result (length c.values-values.result.now) c.deref.result.now c.values-values.result.now
            (rw c.byte.ensures at c.of_parts.ensures) c.len.ensures (ap length c.values-values.ensures.value) (c.deref.ensures.value ∙ front) c.values-values.ensures.value,
        front,
      ),
    )
