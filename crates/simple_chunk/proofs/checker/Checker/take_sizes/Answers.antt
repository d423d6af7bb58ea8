use Rattle.std.proofs.Common.{List, ℕ, ◌++◌, take, refl, arith, subst}
use Rattle.std.specs.Prelude.{◌↔◌}
use Rattle.std.proofs.lemmas.List.{length-take-le}
use Rattle.simple_chunk.specs.SizesLeft.{AreLeft}
use Rattle.simple_chunk.proofs.Checking.{taken_sizes, taken_wrong}
use Rattle.simple_chunk.proofs.checker.Checker.take_sizes.Goals as goal

pub returns-then-not-take-clause-follows : goal.returns-then-not-take-clause-follows
returns-then-not-take-clause-follows c =
    let few = rw (← c.self.view_is) at c.requires.few in
    let many = length-take-le c.min-len.result c.args.bytes.now (omega arith) in
    let wrong = subst (λ (xs : List ℕ). (rest : List ℕ) → ¬ AreLeft c.self.inside.sizes (xs ++ rest)) c.split_at.ensures.front
    (c.if-not-take.ensures.wrong refl) in
    rw (← c.self.view_is)
    (taken_wrong _ _ (take c.min-len.result c.args.bytes.now) c.in-Sizes.is refl (omega arith) (omega arith) wrong)

pub returns-else-not-take-clause-follows : goal.returns-else-not-take-clause-follows
returns-else-not-take-clause-follows c =
    let few = rw (← c.self.view_is) at c.requires.few in
    let many = length-take-le c.min-len.result c.args.bytes.now (omega arith) in
    let right = subst (λ (xs : List ℕ). (rest : List ℕ) → AreLeft c.self.inside.sizes (xs ++ rest) ↔ AreLeft c.take.new.self rest)
    c.split_at.ensures.front (c.if-not-take.ensures.right refl) in
    rw (← c.self.view_is)
    (taken_sizes _ _ (take c.min-len.result c.args.bytes.now) c.in-Sizes.is c.in-Sizes.is (omega arith) (omega arith) right)
