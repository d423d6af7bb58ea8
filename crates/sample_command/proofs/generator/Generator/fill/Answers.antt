use Rattle.std.proofs.Common.{◌+◌, ◌*◌, ◌/◌, ◌%◌, ◌^◌, ◌∙◌, refl, ap, sym, arith}
use Rattle.sample_command.specs.Generator.{letters, state_after, next_state}
use Rattle.sample_command.proofs.Drawings.{letters-set, state_after-more}
use Rattle.sample_command.proofs.Jumps.{state_after-jump}
use Rattle.sample_command.proofs.generator.Generator.fill.Goals as goal

pub loop-step-init : goal.loop-step-init
unfolding letters state_after
loop-step-init c = record { filled = refl; left = refl }

pub loop-letter-preserved : goal.loop-letter-preserved
loop-letter-preserved c =
    let l = c.loop-letter in
    let first = c.args.self.now.state in
    let before = 8 * c.loop-step.step in
    let i = before + l.letter in
    let n = before + (l.letter + 1) in
    let left = state_after-jump before l.letter first c.loop-step.state c.loop-letter-test.true c.loop-step.invariant.left in
    let drawn = c.letter_of.ensures ∙ ap (λ s. 97 + s / 2 ^ 33 % 26) (left ∙ state_after-more i n first (omega arith)) in
    record {
      filled = letters-set l.place i n first c.letter_of.result (omega arith) (omega arith) l.invariant.filled drawn;
      left = left;
    }

pub loop-rest-preserved : goal.loop-rest-preserved
loop-rest-preserved c =
    let l = c.loop-rest in
    let first = c.args.self.now.state in
    let n = l.rest + 1 in
    let drawn = c.letter_of-in-loop-rest.ensures ∙ ap (λ n. 97 + n % 26) (c.draw.ensures.number ∙ ap (λ s. next_state s / 2 ^ 33) l.invariant.left) in
    record {
      filled = letters-set l.place l.rest n first c.letter_of-in-loop-rest.result refl (omega arith) l.invariant.filled drawn;
      left = c.draw.ensures.left ∙ ap next_state l.invariant.left ∙ sym (state_after-more l.rest n first refl);
    }
