use Rattle.std.proofs.Common.{arith, rules, ℕ, length, drop, length-drop}
use Rattle.std.proofs.lemmas.List.{length-take, take_rest}
use Rattle.scripted_io.proofs.Memory.{cut_to-le, cut_to-none, Gives-from_place}
use Rattle.scripted_io.proofs.mem_input.MemInputSource.take.Goals as goal

pub returns-clause-gives : goal.returns-clause-gives
returns-clause-gives c =
    let cut = c.in_ok-given.ensures.cut in
    let within = cut_to-le c.self.inside.script.cuts c.self.inside.script.number in
    let bytes = c.self.inside.bytes.items in
    let at = c.self.inside.at in
    record {
      fits = search rules;
      given = rw (← c.self.view_is)
          (Gives-from_place bytes _ at c.in_ok-given.given
          (omega (arith, cut, within, c.deref.ensures.len, length-drop {A = ℕ}, length-take {A = ℕ})) (rw c.deref.ensures.value at c.in_ok-given.ensures.given));
      at_end = rw (← c.self.view_is)
          (cut_to-none c.self.inside.script.cuts c.self.inside.script.number (length c.args.buf.now) (drop at bytes) c.in_ok-given.given
          c.requires (rw (c.deref.ensures.value, take_rest bytes at) at cut));
      told = search rules;
      kept = search rules;
      counts = search rules;
    }
