use Rattle.std.proofs.Common.{◌≡◌, map}
use Rattle.std.specs.List.{range_with_len}
use Rattle.record_collect.specs.Orders.{places_of}
use Rattle.record_collect.proofs.batches.spans_of_each.Given as goal

abbrev pub invariant-loop-pass : goal.invariant-loop-pass
invariant-loop-pass l = l.each.items ≡ map (λ pass. places_of pass 0 l.all) (range_with_len 0 l.pass)
