-- Records that are cut from values at places.
use Rattle.std.proofs.Common.{◌≡◌, ◌∙◌, ℕ, ◌+◌, ◌-◌, ◌≤◌, List, [], ◌∷◌, ◌++◌, length, take, drop, refl, sym, ap, arith, length-append}
use Rattle.std.specs.Prelude.{slice_range}
use Rattle.std.specs.List.{concat}
use Rattle.std.proofs.Math.Seq.{take-append-add}
use Rattle.std.proofs.lemmas.List.{take_all, length-take-le, length-drop}
use Rattle.std.proofs.lemmas.List.Folds.{drop_split}
use Rattle.simple_chunk.specs.Records.{parts_from}
use Rattle.simple_chunk.proofs.Parts.{length-parts_from}
use Rattle.riegeli_c.specs.Chunks.{ends_from, AreGiven}
use Rattle.riegeli_c.specs.Writes.{AreCuts, records_cut}

-- how long one is
pub length-cut : (values : List ℕ) (begin end : ℕ) → end ≤ length values → length (slice_range values begin end) ≡ end - begin
length-cut values begin end within = length-take-le (end - begin) (drop begin values) (omega (arith, length-drop begin values))

-- joined they are the values from the first begin on
joined-cut : (begin : ℕ) (ends values : List ℕ) → AreCuts begin ends (length values)
    → take (length (concat (parts_from begin ends values))) (drop begin values) ≡ concat (parts_from begin ends values)
joined-cut begin [] values h = refl
joined-cut begin (end ∷ ends) values h =
    let one : List ℕ = slice_range values begin end in
    let rest : List ℕ = concat (parts_from end ends values) in
    ap (λ (n : ℕ). take n (drop begin values)) (length-append one rest)
    ∙ ap (take (length one + length rest)) (drop_split values begin end h.0)
    ∙ take-append-add one (drop end values) (length rest)
    ∙ ap (λ (xs : List ℕ). one ++ xs) (joined-cut end ends values h.3)

ends-cut : (begin : ℕ) (ends values : List ℕ) → AreCuts begin ends (length values) → ends_from begin (parts_from begin ends values) ≡ ends
ends-cut begin [] values h = refl
ends-cut begin (end ∷ ends) values h =
    let there : begin + length (slice_range values begin end) ≡ end = omega (arith, h.0, length-cut values begin end h.1) in
    ap (λ (place : ℕ). place ∷ ends_from place (parts_from end ends values)) there
    ∙ ap (λ (places : List ℕ). end ∷ places) (ends-cut end ends values h.3)

pub given-cut : (values ends : List ℕ) → AreCuts 0 ends (length values) → AreGiven (records_cut values ends) values ends
given-cut values ends h = record {
  joined = joined-cut 0 ends values h;
  ends_there = ap (λ (n : ℕ). take n ends) (length-parts_from 0 ends values) ∙ take_all (length ends) ends (omega arith) ∙ sym (ends-cut 0 ends values h);
}
