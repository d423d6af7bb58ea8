use Rattle.std.proofs.Common.{◌≡◌, ◌∙◌, ℕ, ◌+◌, List, [], ◌∷◌, ◌++◌, ap, sym, subst, arith}
use Rattle.std.proofs.lemmas.List.{flat_map_more}
use Rattle.chunk_workers.specs.Coded.{AreCoded}
use Rattle.chunk_workers.specs.Runs.{groups_of_runs, run_of}
use Rattle.chunk_workers.specs.Seats.{numbers_at}
use Rattle.chunk_workers.proofs.Ones.{one_more}
use Rattle.chunk_workers.proofs.Rising.{bound_of, bound_of-le, bound_of-push}
use Rattle.chunk_workers.proofs.window.code_drawn.Goals as goal

pub loop-number-smaller : goal.loop-number-smaller
loop-number-smaller g c =
    let some = c.in-Some.ensures.some in
    let m = c.in-Some.number in
    let mine = numbers_at c.loop-number.seat.hand.mine in
    let more : bound_of (numbers_at c.draw.new.seat.hand.mine) ≡ m + 1 = ap bound_of (one_more c.loop-number.seat m c.draw.new.seat some.1) ∙ bound_of-push m mine some.2 in
    omega (arith, some.0, bound_of-le m mine some.2, more)

pub loop-number-preserved : goal.loop-number-preserved
loop-number-preserved g c =
    let h = c.loop-number.invariant in
    let some = c.in-Some.ensures.some in
    let number = c.in-Some.number in
    let groups = c.args.groups.now.groups in
    let pushed : c.push.new.self.items ≡ c.loop-number.numbers.items ++ number ∷ [] = c.in_ok-push.ensures.items in
    record {
      belongs = c.in-Some.ensures.belongs;
      numbers = pushed ∙ ap (λ (ns : List ℕ). ns ++ number ∷ []) h.numbers ∙ sym (one_more c.loop-number.seat number c.draw.new.seat some.1);
      coded =
          subst (λ gs. AreCoded (g.C.Coder.chunk_of c.args.coder.now) gs c.code_run.new.chunks)
          (flat_map_more (run_of c.args.step groups) [] c.loop-number.numbers.items number ∙ ap (groups_of_runs c.args.step groups) (sym pushed))
          (c.in_ok-code_run.ensures (groups_of_runs c.args.step groups c.loop-number.numbers.items) h.coded);
    }
