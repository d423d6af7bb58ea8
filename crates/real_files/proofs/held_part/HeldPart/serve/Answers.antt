use Rattle.std.proofs.Common.{◌≤◌, rules}
use Rattle.real_files.specs.AheadStores.{IsPartOf}
use Rattle.real_files.proofs.Parts.{part-gives}
use Rattle.real_files.proofs.held_part.HeldPart.serve.Goals as goal
use Rattle.real_files.proofs.held_part.HeldPart.serve.Goals.{then-not-holds+else-buf+in_ok-fill, else-not-holds}

pub returns-clause-given : goal.returns-clause-given
returns-clause-given g c =
    let part : IsPartOf (g.S.Store.bytes c.args.store.now) c.if-not-holds.self =
    elim c.if-not-holds.branch [
      | then-not-holds+else-buf+in_ok-fill w ↦ rw w.self-is (rw w.in_ok-fill.ensures.store.asks.same_bytes at w.in_ok-fill.ensures.part)
      | else-not-holds w ↦ rw w.self-is c.requires.part
    ] in
    let begins : c.if-not-holds.self.from ≤ c.args.at =
    elim c.if-not-holds.branch [
      | then-not-holds+else-buf+in_ok-fill w ↦ rw w.self-is w.in_ok-fill.ensures.held.begins
      | else-not-holds w ↦ rw w.self-is (search rules)
    ] in
    part-gives _ c.if-not-holds.self _ c.args.at c.give.result part begins c.give.ensures.within c.give.ensures.given
