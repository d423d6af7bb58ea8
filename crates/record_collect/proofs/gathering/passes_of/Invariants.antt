use Rattle.std.proofs.Common.{◌≡◌, ◌++◌, ◌≤◌, length, vec_len}
use Rattle.std.specs.List.{AllByRecursion}
use Rattle.std.specs.Vec.{vec_capacity}
use Rattle.std.specs.Vec.Iter.{into_iter_items}
use Rattle.record_collect.specs.Ends.{ArePassesOf}
use Rattle.record_collect.specs.Takings.{IsRead}
use Rattle.record_collect.proofs.gathering.passes_of.Given as goal

abbrev pub invariant-loop-one : goal.invariant-loop-one
invariant-loop-one l = record {
  passes : ArePassesOf l.yielded l.passes.items l.are_whole;
  read : AllByRecursion IsRead l.fn.fed.items;
  rest : l.yielded ++ into_iter_items l.one-iterator ≡ l.fn.fed.items;
  many : vec_len l.passes ≡ length l.yielded;
  room : vec_len l.fn.fed ≤ vec_capacity l.passes;
}
