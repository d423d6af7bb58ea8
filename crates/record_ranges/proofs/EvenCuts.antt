-- Cuts into parts that are alike.
use Rattle.std.proofs.Common.{◌≡◌, ◌∙◌, ℕ, zero, suc, ◌+◌, ◌-◌, ◌*◌, ◌/◌, ◌<◌, ◌≤◌, List, [], ◌∷◌, ◌++◌, map, sym, ap, arith}
use Rattle.std.specs.List.{range_with_len}
use Rattle.std.proofs.Math.Nat.{div-le_of_le-mul, div-mul-le_self, mul-le-mul_left}
use Rattle.std.proofs.lemmas.Nat.{le-div}
use Rattle.std.proofs.lemmas.List.FromFn.{map-range_with_len_more}
use Rattle.record_ranges.specs.Ranges.{RiseUpTo, even_cuts}

-- one more
pub even-more : (size parts part cut : ℕ) (old new : List ℕ) → 1 ≤ part → old ≡ map (λ i. i * size / parts) (range_with_len 1 (part - 1))
    → cut ≡ part * size / parts → new ≡ old ++ cut ∷ [] → new ≡ map (λ i. i * size / parts) (range_with_len 1 (part + 1 - 1))
even-more size parts part cut old new some so_far here is =
    let f : ℕ → ℕ = λ i. i * size / parts in
    let n : part - 1 + 1 ≡ part + 1 - 1 = omega (arith, some) in
    is
    ∙ ap (λ (c : ℕ). old ++ c ∷ []) here
    ∙ ap (λ (xs : List ℕ). xs ++ part * size / parts ∷ []) so_far
    ∙ sym (map-range_with_len_more f 1 (part - 1) part (omega (arith, some)))
    ∙ ap (λ (k : ℕ). map f (range_with_len 1 k)) n

-- each is at or past the one before, and none passes the size
times_rise : (a b k : ℕ) → a ≤ b → a * k ≤ b * k
times_rise a b k less = omega (arith, mul-le-mul_left k less)

cut_rises : (size parts i j : ℕ) → 0 < parts → i ≤ j → i * size / parts ≤ j * size / parts
cut_rises size parts i j some less =
    le-div (i * size / parts) (j * size) parts some (omega (arith, div-mul-le_self (i * size) parts, times_rise i j size less))

cut_within : (size parts i : ℕ) → i ≤ parts → i * size / parts ≤ size
cut_within size parts i less = div-le_of_le-mul parts (times_rise i parts size less)

rise_on : (size parts a n from : ℕ) → 0 < parts → a + n ≡ parts → from ≤ size → from ≤ a * size / parts
    → RiseUpTo size from (map (λ i. i * size / parts) (range_with_len a n))
rise_on size parts a zero from some is within less = within
rise_on size parts a (suc n) from some is within less = (
  less,
  rise_on size parts (a + 1) n (a * size / parts) some (omega (arith, is)) (cut_within size parts a (omega (arith, is)))
      (cut_rises size parts a (a + 1) some (omega arith)),
)

pub even-rise : (size parts : ℕ) → 1 ≤ parts → RiseUpTo size 0 (even_cuts size parts)
even-rise size parts some = rise_on size parts 1 (parts - 1) 0 (omega (arith, some)) (omega (arith, some)) (omega arith) (omega arith)
