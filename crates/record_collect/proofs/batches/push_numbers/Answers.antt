use Rattle.std.proofs.Common.{◌∙◌, ◌++◌, ◌∷◌, [], ℕ, List, append_assoc, ap, sym, arith}
use Rattle.record_collect.proofs.InTurn.{range_next}
use Rattle.record_collect.proofs.batches.push_numbers.Goals as goal

pub loop-number-preserved : goal.loop-number-preserved
loop-number-preserved c =
    let before : List ℕ = c.args.numbers.now.items in
    let first : ℕ = c.args.span.first in
    let number : ℕ = c.loop-number.number in
    c.in_ok-push.ensures.items
    ∙ ap (λ (l : List ℕ). l ++ number ∷ []) c.loop-number.invariant
    ∙ append_assoc before _ (number ∷ [])
    ∙ ap (λ (l : List ℕ). before ++ l) (sym (range_next first number (omega (arith, c.loop-number.auto.number))))
