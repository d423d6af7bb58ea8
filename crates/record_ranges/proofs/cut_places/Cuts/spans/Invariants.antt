use Rattle.std.proofs.Common.{◌≡◌, ◌++◌, drop}
use Rattle.record_ranges.specs.Stretches.{spans_from}
use Rattle.record_ranges.proofs.cut_places.Cuts.spans.Given as goal

abbrev pub invariant-loop-cut : goal.invariant-loop-cut
invariant-loop-cut l = l.spans.items ++ spans_from l.size l.from (drop l.cut-index l.self) ≡ spans_from l.size 0 l.self
