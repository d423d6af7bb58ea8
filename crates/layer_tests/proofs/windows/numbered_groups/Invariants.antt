use Rattle.std.proofs.Common.{◌≡◌, ◌^◌, ◌≤◌, [], All, length}
use Rattle.simple_chunk.specs.Costs.{cost_of}
use Rattle.layer_tests.proofs.windows.numbered_groups.Given as goal

abbrev pub invariant-loop-byte : goal.invariant-loop-byte
invariant-loop-byte l = record {
  count : length l.groups.groups ≡ l.byte;
  none : l.groups.ungrouped ≡ [];
  short : All (λ group. cost_of group ≤ 2 ^ 25) l.groups.groups;
}
