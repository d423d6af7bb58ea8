-- Spellings one after another.
use Rattle.std.proofs.Common.{◌≡◌, ℕ, List, [], ◌∷◌, ◌++◌, refl, lit<, arith, sym, ap, ◌∙◌, subst}
use Rattle.std.proofs.lemmas.List.{append_cancel_left}
use Rattle.varint_wire.specs.Varint.{SpellsEach}
use Rattle.varint_wire.specs.Reading.{IsCut}
use Rattle.varint_wire.proofs.Faults.{cut_has_no_spelling}
use Rattle.varint_wire.proofs.Spellings.{spelling_is_one}

-- the empty list ends before a varint does
IsCut-empty : IsCut []
IsCut-empty = (lit< tt, λ i h. absurd (omega arith))

-- bytes are spellings of one list of values at most
pub spellings_are_one : (vs ws bytes : List ℕ) → SpellsEach vs bytes → SpellsEach ws bytes → vs ≡ ws
spellings_are_one [] [] bytes none none' = refl
spellings_are_one [] (w ∷ ws) bytes none (b, y, e, t, more) = absurd (cut_has_no_spelling w [] b y IsCut-empty t (sym none ∙ e))
spellings_are_one (v ∷ vs) [] bytes (a, x, e, s, more) none = absurd (cut_has_no_spelling v [] a x IsCut-empty s (sym none ∙ e))
spellings_are_one (v ∷ vs) (w ∷ ws) bytes (a, x, e, s, more) (b, y, e', t, more') =
    let one = spelling_is_one v w a b x y s t (sym e ∙ e') in
    let rest : x ≡ y = append_cancel_left a x y (sym e ∙ e' ∙ ap (λ (xs : List ℕ). xs ++ y) (sym one.0)) in
    cc (spellings_are_one vs ws y (subst (SpellsEach vs) rest more) more', one.1)
