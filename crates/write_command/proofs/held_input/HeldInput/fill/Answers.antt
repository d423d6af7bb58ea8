use Rattle.std.proofs.Common.{arith, rules}
use Rattle.write_command.proofs.held_input.HeldInput.fill.Goals as goal

pub invariant_of-self-2 : goal.invariant_of-self-2
invariant_of-self-2 g c = (omega arith, search rules, c.of-self-inside.ensures _)
