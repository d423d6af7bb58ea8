use Rattle.std.proofs.Common.{eq-eqb}
use Rattle.simple_chunk.proofs.SizeLemmas.{AreSizes-cut}
use Rattle.simple_chunk.proofs.sizes_left.SizesLeft.are_all.Goals as goal
use Rattle.simple_chunk.proofs.sizes_left.SizesLeft.are_all.Goals.{then-is_new, else-is_new}

pub returns-else-self-eq0 : goal.returns-else-self-eq0
returns-else-self-eq0 c = rw (← c.self.view_is) (
  λ yes. absurd cc,
  λ h.
      let none = (AreSizes-cut _ _ _ c.is_new.ensures.taken).0 h in
      let no_size = eq-eqb c.self.inside.count 0 none.0 in
      let as_new = c.is_new.ensures.new.1 none.2 in
      absurd (elim c.if-is_new.branch [ then-is_new w ↦ cc | else-is_new w ↦ cc ]),
)
