use Rattle.std.proofs.Common.{arith, ap, refl, sym, ◌∙◌, ◌≡◌, length, ◌==◌, ◌||◌, ℕ, Bool, true, false, List, ◌++◌, Bor}
use Rattle.std.specs.Bool.{then_some}
use Rattle.std.specs.Option.{option_copied}
use Rattle.std.proofs.lemmas.Grind.{common_steps}
use Rattle.command_frame.proofs.OptionWords.{value_in-append, value_in-lacks}
use Rattle.command_frame.specs.Options.{has_value}
use Rattle.command_frame.proofs.options.value_in.Goals.{then-has_value, else-has_value}
use Rattle.command_frame.proofs.options.value_in.Goals as goal

pub returns-in_err-value : goal.returns-in_err-value
returns-in_err-value c =
    ap option_copied c.from_residual.ensures ∙ sym (value_in-lacks c.args.option.now c.args.word.now c.in_err-value.ensures.cases)

option_copied-then_some : {X : Type 0} (b : Bool) (x : Bor X) → option_copied (then_some b x) ≡ then_some b x.now
option_copied-then_some true x = refl
option_copied-then_some false x = refl

pub returns : goal.returns
returns c =
    let value : List ℕ = c.in_ok-value.value.now in
    let front = c.in_ok-value.ensures.cases in
    let word_is : c.args.word.now ≡ c.args.option.now ++ value = front.1.1 ∙ ap (λ rest. c.args.option.now ++ rest) (sym front.2) in
    let allowed : c.if-has_value.then_some ≡ (has_value c.args.option.now || length value == 0) =
    elim c.if-has_value.branch [ then-has_value w ↦ grind (arith, common_steps) | else-has_value w ↦ grind (arith, common_steps) ] in
    ap option_copied c.then_some.ensures ∙ option_copied-then_some _ _ ∙ ap (λ b. then_some b value) allowed
    ∙ sym (value_in-append c.args.option.now c.args.word.now value word_is)
