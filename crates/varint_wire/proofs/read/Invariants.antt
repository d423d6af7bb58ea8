use Rattle.std.proofs.Common.{◌≡◌, ℕ, ◌<◌, ◌≤◌, get_or, take}
use Rattle.varint_wire.specs.Varint.{spelled_value}
use Rattle.varint_wire.proofs.read.Given as goal

abbrev pub invariant-loop-at : goal.invariant-loop-at
invariant-loop-at l = record {
  few : l.at ≤ 9;
  high : (k : ℕ) → k < l.at → 128 ≤ get_or l.bytes k 0;
  value : l.value ≡ spelled_value (take l.at l.bytes);
}
