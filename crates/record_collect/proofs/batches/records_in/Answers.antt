use Rattle.std.proofs.Common.{◌∙◌, List, ℕ, ◌++◌, ap, sym}
use Rattle.record_collect.proofs.InTurn.{turn_next}
use Rattle.record_collect.proofs.batches.records_in.Goals as goal

pub loop-k-preserved : goal.loop-k-preserved
loop-k-preserved c =
    c.in_ok-push_batch.ensures
    ∙ ap (λ (l : List (List ℕ)). l ++ c.index-batches-k.result) c.loop-k.invariant
    ∙ sym (turn_next c.args.batches.now c.loop-k.k c.index-batches-k.result c.loop-k-test.true c.index-batches-k.is)
