-- The lines of an input: the first of them, and how many bytes they take.
use Rattle.std.proofs.Common.{◌≡◌, ◌∙◌, ℕ, suc, ◌+◌, ◌<◌, ◌≤◌, false, List, [], ◌∷◌, ◌++◌, length, refl, ap, inl, inr, arith, zero, sym}
use Rattle.std.specs.List.{concat, onto_first}
use Rattle.std.proofs.lemmas.Bool.{cond-true, cond-false, false_from_ne_true, cases_Bool, false≢true}
use Rattle.command_frame.specs.Lines.{ends_line, lines}
use Rattle.command_frame.specs.OpenLines.{NoneEnds}

-- the first byte doesn't, and none behind it does
none_first : (b : ℕ) (bs : List ℕ) → NoneEnds (b ∷ bs) → ends_line b ≡ false
none_first b bs none = false_from_ne_true (ends_line b) (none 0 (omega arith))

none_rest : (b : ℕ) (bs : List ℕ) → NoneEnds (b ∷ bs) → NoneEnds bs
none_rest b bs none = λ k h. none (suc k) (omega arith)

-- a byte that ends no line goes onto the first line
pub lines-cons : (b : ℕ) (bs : List ℕ) → ends_line b ≡ false → lines (b ∷ bs) ≡ onto_first b (lines bs)
lines-cons b bs h = cond-false (ends_line b) ([] ∷ lines bs) (onto_first b (lines bs)) h

-- the bytes before the first byte 10 are the first line
pub lines-first : (front rest : List ℕ) → NoneEnds front → lines (front ++ 10 ∷ rest) ≡ front ∷ lines rest
lines-first [] rest none = refl
lines-first (b ∷ bs) rest none =
    lines-cons b (bs ++ 10 ∷ rest) (none_first b bs none)
    ∙ ap (onto_first b) (lines-first bs rest (none_rest b bs none))

-- bytes with no byte 10 are one line, if there are any
pub lines-last : (bytes : List ℕ) → NoneEnds bytes → 0 < length bytes → lines bytes ≡ bytes ∷ []
lines-last [] none some = absurd (omega arith)
lines-last (b ∷ []) none some = lines-cons b [] (none_first b [] none)
lines-last (b ∷ c ∷ bs) none some =
    lines-cons b (c ∷ bs) (none_first b (c ∷ bs) none)
    ∙ ap (onto_first b) (lines-last (c ∷ bs) (none_rest b (c ∷ bs) none) (omega arith))

-- a byte put onto the first line
length-onto_first : (b : ℕ) (parts : List (List ℕ))
    → (length (concat (onto_first b parts)) ≡ 1 + length (concat parts)) × (length parts ≤ length (onto_first b parts))
length-onto_first b [] = (refl, omega arith)
length-onto_first b (part ∷ parts) = (omega arith, omega arith)

-- each byte stands in a line or ends one
pub length-le-lines : (bytes : List ℕ) → length bytes ≤ length (concat (lines bytes)) + length (lines bytes)
length-le-lines [] = omega arith
length-le-lines (b ∷ bs) = elim (cases_Bool (ends_line b)) [
  | inl at_end ↦ rw (cond-true (ends_line b) ([] ∷ lines bs) (onto_first b (lines bs)) at_end) (omega (arith, length-le-lines bs))
  | inr within ↦ rw (lines-cons b bs within) (omega (arith, length-le-lines bs, length-onto_first b (lines bs)))
]

-- a byte that ends no line, before bytes that end none
pub NoneEnds-cons : (b : ℕ) (bs : List ℕ) → ends_line b ≡ false → NoneEnds bs → NoneEnds (b ∷ bs)
NoneEnds-cons b bs within none zero h e = absurd (false≢true (sym within ∙ e))
NoneEnds-cons b bs within none (suc k) h e = none k (omega arith) e

-- two parts with no byte 10, joined
pub NoneEnds-append : (xs ys : List ℕ) → NoneEnds xs → NoneEnds ys → NoneEnds (xs ++ ys)
NoneEnds-append [] ys front back = back
NoneEnds-append (x ∷ xs) ys front back =
    NoneEnds-cons x (xs ++ ys) (false_from_ne_true (ends_line x) (front 0 (omega arith)))
    (NoneEnds-append xs ys (λ k h. front (suc k) (omega arith)) back)
