use Rattle.std.proofs.Common.{◌≡◌, ◌-◌, ◌*◌, ◌/◌, ◌≤◌, map}
use Rattle.std.specs.List.{range_with_len}
use Rattle.record_ranges.proofs.cut_places.Cuts.even.Given as goal

abbrev pub invariant-loop-part : goal.invariant-loop-part
invariant-loop-part l = record {
  some : 1 ≤ l.part;
  made : l.places.items ≡ map (λ i. i * l.size / l.parts) (range_with_len 1 (l.part - 1));
}
