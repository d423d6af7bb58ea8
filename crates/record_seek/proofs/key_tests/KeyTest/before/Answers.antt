use Rattle.std.proofs.Common.{◌↔◌, Bool, true, false, IsTrue, refl, rules}
use Rattle.std.specs.Fn.{FnReturnsAt}
use Rattle.record_values.specs.Bytes.{AreBytes}
use Rattle.record_values.proofs.ByteLists.{AreBytes-each}
use Rattle.record_seek.proofs.key_tests.KeyTest.before.Goals as goal

-- an answer is yes exactly where yes can be answered, if not both can
exact_of : (answer : Bool) (P : Bool → Type 0) → (P true → P false → ⊥) → P answer → IsTrue answer ↔ P true
exact_of true P one answered = (λ yes. answered, λ can. refl)
exact_of false P one answered = (λ yes. absurd (cc yes), λ can. absurd (one can answered))

pub returns-clause-exact : goal.returns-clause-exact
returns-clause-exact g c =
    let bytes : AreBytes c.args.bytes.now = AreBytes-each _ c.type_inv.bytes in
    exact_of _ (λ answer. FnReturnsAt g.F.Fn c.args.self.now.test c.args.bytes.now answer)
    (c.requires.test.one_way c.args.bytes.now bytes c.requires.small) (search rules)
