use Rattle.std.proofs.Common.{eq-eqb}
use Rattle.std.proofs.lemmas.Bool.{eqb-true}
use Rattle.varint_wire.proofs.Feeding.{IsCut-held_bytes, held_bytes-none}
use Rattle.varint_wire.proofs.feed.Feed.is_new.Goals as goal

pub returns-clause-new : goal.returns-clause-new
returns-clause-new c =
    let none = held_bytes-none _ _ _ c.self.view_is in
    (λ h. none.0 (eqb-true _ _ h), λ h. eq-eqb _ _ (none.1 h))

pub returns-clause-taken : goal.returns-clause-taken
returns-clause-taken c = IsCut-held_bytes _ _ _ c.self.view_is c.self.invariant.0
