use Rattle.std.proofs.Common.{ℕ, ◌-◌, arith}
use Rattle.std.proofs.lemmas.List.{length-take}
use Rattle.real_files.proofs.Parts.{copied-from_front}
use Rattle.real_files.proofs.held_part.HeldPart.give.Goals as goal

pub returns-clause-given : goal.returns-clause-given
returns-clause-given g c =
    let ends = rw (← c.self.view_is) at c.requires.held.ends in
    rw (← c.self.view_is)
    (copied-from_front c.self.inside.bytes c.copy_from_slice.new.self _ c.self.inside.count (c.args.at - c.self.inside.from) c.min-count.result
    (omega (arith, ends, length-take {A = ℕ})) (omega (arith, c.copy_from_slice.ensures.len, c.min-count.ensures, length-take {A = ℕ}))
    c.copy_from_slice.ensures.after)
