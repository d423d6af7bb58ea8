use Rattle.std.proofs.Common.{List, ℕ, ◌++◌, drop}
use Rattle.std.specs.Prelude.{◌↔◌}
use Rattle.simple_chunk.specs.Sizes.{AreSizes}
use Rattle.simple_chunk.specs.SizesLeft.{AreLeft}
use Rattle.simple_chunk.proofs.sizes_left.SizesLeft.take.Given as goal

abbrev pub invariant-loop-byte : goal.invariant-loop-byte
invariant-loop-byte l = (rest : List ℕ)
    → AreLeft l.fn.self (l.bytes ++ rest)
    ↔ AreSizes l.self-inside.count l.self-inside.whole (l.self-inside.feed ++ (drop l.byte-index l.others ++ rest))
