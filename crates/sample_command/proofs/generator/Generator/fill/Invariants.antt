use Rattle.std.proofs.Common.{◌≡◌, ◌+◌, ◌*◌, take}
use Rattle.sample_command.specs.Generator.{letters, state_after}
use Rattle.sample_command.proofs.generator.Generator.fill.Given as goal

abbrev pub invariant-loop-step : goal.invariant-loop-step
invariant-loop-step l = record {
  filled : take (8 * l.step) l.place ≡ letters (8 * l.step) l.fn.self.state;
  left : l.state ≡ state_after (8 * l.step) l.fn.self.state;
}

abbrev pub invariant-loop-letter : goal.invariant-loop-letter
invariant-loop-letter l = record {
  filled : take (8 * l.step + l.letter) l.place ≡ letters (8 * l.step + l.letter) l.fn.self.state;
  left : l.state ≡ state_after (8 * l.step + l.letter) l.fn.self.state;
}

abbrev pub invariant-loop-rest : goal.invariant-loop-rest
invariant-loop-rest l = record {
  filled : take l.rest l.place ≡ letters l.rest l.fn.self.state;
  left : l.self.state ≡ state_after l.rest l.fn.self.state;
}
