use Rattle.std.proofs.Common.{◌≡◌, ◌+◌, List, ℕ, ◌++◌, take}
use Rattle.std.specs.Prelude.{◌↔◌}
use Rattle.simple_chunk.specs.Sizes.{AreSizes}
use Rattle.simple_chunk.proofs.sizes_left.SizesLeft.take_small.Given as goal

-- what was taken, and what is still to come behind it
abbrev pub invariant-loop-byte : goal.invariant-loop-byte
invariant-loop-byte l = record {
  counted : l.count + l.byte-index ≡ l.self-inside.count;
  right : (rest : List ℕ)
      → AreSizes l.self-inside.count l.self-inside.whole (take l.byte-index l.bytes ++ rest) ↔ AreSizes l.count l.whole rest;
}
