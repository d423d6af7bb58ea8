use Rattle.std.proofs.Common.{◌∙◌, ◌++◌, ◌∷◌, [], ℕ, List, take, ap, sym}
use Rattle.std.proofs.lemmas.List.{append_assoc}
use Rattle.record_collect.proofs.InTurn.{take_next}
use Rattle.record_collect.proofs.batches.push_batch.Goals as goal

pub loop-number-preserved : goal.loop-number-preserved
loop-number-preserved c =
    let r : List ℕ = c.get.result.now in
    let before : List (List ℕ) = take c.loop-number.number c.args.batch.now in
    c.in_ok-push.ensures.appends
    ∙ ap (λ (l : List (List ℕ)). l ++ r ∷ []) c.loop-number.invariant
    ∙ append_assoc c.args.records.now before (r ∷ [])
    ∙ ap (λ (l : List (List ℕ)). c.args.records.now ++ l) (sym (take_next c.args.batch.now c.loop-number.number r c.get.ensures))
