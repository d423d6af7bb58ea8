use Rattle.std.proofs.Common.{◌≡◌, ◌-◌, ◌^◌, ◌<◌, ◌≤◌, ◌++◌, length, take, drop}
use Rattle.varint_wire.specs.Varint.{shortest, shortest_within}
use Rattle.varint_wire.proofs.write.Given as goal

abbrev pub invariant-loop-rest : goal.invariant-loop-rest
invariant-loop-rest l = record {
  ten : length l.buf ≡ 10;
  room : l.at ≤ 9;
  below : l.rest < 128 ^ (10 - l.at);
  written : take l.at l.buf ++ shortest_within (9 - l.at) l.rest ≡ shortest l.value;
  behind : drop l.at l.buf ≡ drop l.at l.fn.buf;
}

abbrev pub decreases-loop-rest : goal.decreases-loop-rest
decreases-loop-rest l = l.rest
