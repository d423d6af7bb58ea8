use Rattle.std.proofs.Common.{take}
use Rattle.simple_chunk.specs.Checkers.{Follows}
use Rattle.simple_chunk.proofs.checker.Checker.take_front.Given as goal

abbrev pub invariant-loop-at : goal.invariant-loop-at
invariant-loop-at l = Follows l.fn.self l.self (take l.at l.piece)
