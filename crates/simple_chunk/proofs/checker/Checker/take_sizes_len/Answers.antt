use Rattle.std.proofs.Common.{refl, arith}
use Rattle.simple_chunk.proofs.Checking.{taken_len, taken_other, taken_long}
use Rattle.simple_chunk.proofs.checker.Checker.take_sizes_len.Goals as goal
use Rattle.simple_chunk.proofs.checker.Checker.take_sizes_len.Goals.{in_default-via-in-Value+then-len-self+else-self-len, in_default-via-in-Value+else-len-self, in_default-via-in_default}

pub returns-in-Value : goal.returns-in-Value
returns-in-Value c =
    let front = rw (← c.self.view_is) at c.requires.front in
    let some = rw (← c.self.view_is) at c.requires.some in
    rw (← c.self.view_is)
    (taken_len _ _ c.args.byte c.in-Value.len front refl (omega arith) ((c.in-Value.ensures.value c.in-Value.len).0 refl)
    c.if-len-self.true c.if-self-len.true refl c.new-self-inside.ensures)

pub returns-in_default : goal.returns-in_default
returns-in_default c =
    let front = rw (← c.self.view_is) at c.requires.front in
    let some = rw (← c.self.view_is) at c.requires.some in
    elim c.in_default.branch [
      | in_default-via-in-Value+then-len-self+else-self-len w ↦
          rw (← c.self.view_is)
          (taken_other _ _ c.args.byte w.in-Value.len front refl (omega arith) ((w.in-Value.ensures.value w.in-Value.len).0 refl)
          (λ both. w.if-self-len.false both.1))
      | in_default-via-in-Value+else-len-self w ↦
          rw (← c.self.view_is)
          (taken_other _ _ c.args.byte w.in-Value.len front refl (omega arith) ((w.in-Value.ensures.value w.in-Value.len).0 refl)
          (λ both. omega (arith, both.0)))
      | in_default-via-in_default w ↦
          rw (← c.self.view_is) (taken_long _ _ c.args.byte front refl (omega arith) (w.in_default.ensures.long.0 refl))
    ]
