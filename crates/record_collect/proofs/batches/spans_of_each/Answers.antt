use Rattle.std.proofs.Common.{◌∙◌, ◌++◌, ◌∷◌, [], ℕ, List, map, ap, sym}
use Rattle.std.specs.List.{range_with_len}
use Rattle.record_collect.specs.Batches.{numbers_in}
use Rattle.record_collect.specs.Orders.{places_of}
use Rattle.record_collect.proofs.Woven.{numbers_more}
use Rattle.record_collect.proofs.batches.spans_of_each.Goals as goal

pub loop-pass-preserved : goal.loop-pass-preserved
loop-pass-preserved c =
    c.in_ok-push.ensures.items
    ∙ ap (λ (each : List (List ℕ)). each ++ numbers_in c.in_ok-spans.spans.items ∷ []) c.loop-pass.invariant
    ∙ ap (λ (ns : List ℕ). map (λ i. places_of i 0 c.args.all.now) (range_with_len 0 c.loop-pass.pass) ++ ns ∷ []) c.in_ok-spans.ensures
    ∙ sym (numbers_more c.args.all.now c.loop-pass.pass)
