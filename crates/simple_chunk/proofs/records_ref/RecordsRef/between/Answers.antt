use Rattle.std.proofs.Common.{◌-◌, ◌≤◌, length, drop, sym, arith}
use Rattle.std.proofs.lemmas.List.{length-drop, length-take-le}
use Rattle.simple_chunk.proofs.Parts.{between}
use Rattle.simple_chunk.proofs.records_ref.RecordsRef.between.Goals as goal

pub slice_bounds-result-end : goal.slice_bounds-result-end
slice_bounds-result-end c =
    let h = between c.args.values.now c.args.ends.now c.args.from c.args.to _ _ c.requires.held.order c.requires.order c.requires.within c.place_before-begin.ensures c.place_before-end.ensures in
    sym (length-take-le c.place_before-end.result c.args.values.now h.within)

pub returns : goal.returns
returns c =
    (between c.args.values.now c.args.ends.now c.args.from c.args.to _ _ c.requires.held.order c.requires.order c.requires.within c.place_before-begin.ensures c.place_before-end.ensures).parts

pub invariant_of-result : goal.invariant_of-result
invariant_of-result c =
    let h = between c.args.values.now c.args.ends.now c.args.from c.args.to _ _ c.requires.held.order c.requires.order c.requires.within c.place_before-begin.ensures c.place_before-end.ensures in
    let some : c.args.to - c.args.from ≤ length (drop c.args.from c.args.ends.now) =
    omega (arith, length-drop c.args.from c.args.ends.now, c.requires.within, c.requires.order) in (
      h.held,
      omega (arith, length-take-le (c.args.to - c.args.from) (drop c.args.from c.args.ends.now) some, c.requires.within, c.requires.held.few),
    )
