use Rattle.std.proofs.Common.{◌≡◌, ◌++◌, ◌≤◌, Ok, map, vec_len}
use Rattle.std.specs.Vec.{vec_capacity}
use Rattle.std.specs.Vec.Iter.{into_iter_items}
use Rattle.record_collect.specs.declared.feeding.Fed.TheVariants.{Whole}
use Rattle.record_collect.proofs.gathering.ready_fed.Given as goal

abbrev pub invariant-loop-pass : goal.invariant-loop-pass
invariant-loop-pass l = record {
  items : l.fed.items ≡ map (λ pass. Ok (Whole pass)) l.yielded;
  rest : l.yielded ++ into_iter_items l.pass-iterator ≡ l.fn.passes.items;
  room : vec_len l.fn.passes ≤ vec_capacity l.fed;
}
