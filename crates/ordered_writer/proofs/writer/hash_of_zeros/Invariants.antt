use Rattle.std.proofs.Common.{◌≡◌, ◌-◌, ◌≤◌, replicate}
use Rattle.highway_hash.specs.Riegeli.{riegeli_key}
use Rattle.highway_hash.specs.Hashers.{hasher_of}
use Rattle.ordered_writer.proofs.writer.hash_of_zeros.Given as goal

abbrev pub invariant-loop-left : goal.invariant-loop-left
invariant-loop-left l = record {
  within : l.left ≤ l.fn.count;
  taken : l.hasher ≡ hasher_of riegeli_key (replicate (l.fn.count - l.left) 0);
}

abbrev pub decreases-loop-left : goal.decreases-loop-left
decreases-loop-left l = l.left
