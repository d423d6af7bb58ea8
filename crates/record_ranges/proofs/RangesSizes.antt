-- The sizes that the stores of one file tell.
use Rattle.command_frame.specs.Endings.{ArePast}
use Rattle.std.proofs.Common.{◌≡◌, ◌∙◌, ℕ, ◌<◌, ◌≤◌, ◌⊎◌, Bool, true, false, cond, not, Option, Some, None, List, [], ◌∷◌, get_or, length, refl, sym, ap, subst, inl, inr, arith}
use Rattle.std.specs.Prelude.{◌==◌, nat_lt, slice_get}
use Rattle.std.specs.List.{AllByRecursion, find, list_any}
use Rattle.std.proofs.lemmas.Bool.{cases_Bool, eqb-true, eq-eqb}
use Rattle.command_frame.specs.FileAnswers.{AreWithin}
use Rattle.command_frame.proofs.AskedFiles.{none_past, one_past}
use Rattle.record_ranges.specs.RangesCommand.{AreAlike, Differ, MayBeRead, most_range_bytes}

-- where none is another than this one, all are this one
not_found : (b : Bool) (size : ℕ) (rest : Option ℕ) → cond (not b) (Some size) rest ≡ None → (b ≡ true) × (rest ≡ None)
not_found true size rest is = (refl, is)
not_found false size rest is = absurd (cc is)

pub all_same : (first : ℕ) (sizes : List ℕ) → find (λ size. not (size == first)) sizes ≡ None → AllByRecursion (λ other. other ≡ first) sizes
all_same first [] none = tt
all_same first (size ∷ sizes) none =
    let (is, others) = not_found (size == first) size (find (λ n. not (n == first)) sizes) none in
    (eqb-true size first is, all_same first sizes others)

-- and none is another where they are
pub none_other : (first : ℕ) (sizes : List ℕ) → AllByRecursion (λ other. other ≡ first) sizes → find (λ size. not (size == first)) sizes ≡ None
none_other first [] all = refl
none_other first (size ∷ sizes) all =
    ap (λ (b : Bool). cond (not b) (Some size) (find (λ size. not (size == first)) sizes)) (eq-eqb size first all.0) ∙ none_other first sizes all.1

-- sizes that are alike are within the limit
pub alike_within : (size : ℕ) (sizes : List ℕ) → AreAlike size sizes → AreWithin most_range_bytes sizes
alike_within size sizes h = each sizes h.same where
  each : (sizes : List ℕ) → AllByRecursion (λ other. other ≡ size) sizes → AreWithin most_range_bytes sizes
  each [] all = tt
  each (other ∷ sizes) all = (omega (arith, all.0, h.within), each sizes all.1)

-- the first of them is this one
pub alike_first : (size first : ℕ) (sizes : List ℕ) → AreAlike size sizes → slice_get sizes 0 ≡ Some first → first ≡ size
alike_first size first [] h there = absurd (cc there)
alike_first size first (other ∷ sizes) h there = let is : other ≡ first = cc there in sym is ∙ h.same.0

-- so they don't differ
pub alike_or_differ : (size first other : ℕ) (sizes : List ℕ) → AreAlike size sizes → Differ sizes first other → ⊥
alike_or_differ size first other sizes h (there, found) =
    let is : first ≡ size = alike_first size first sizes h there in
    let all : AllByRecursion (λ other. other ≡ first) sizes =
    subst (λ (n : ℕ). AllByRecursion (λ other. other ≡ n) sizes) (sym is) h.same in
    let none = none_other first sizes all in
    cc (sym found ∙ none)

-- what there is of sizes
pub sizes_judged : (sizes : List ℕ) → 0 < length sizes → ArePast (AreWithin most_range_bytes) sizes
    ⊎ (AreWithin most_range_bytes sizes × (first : ℕ) × (other : ℕ) × Differ sizes first other)
    ⊎ MayBeRead sizes
sizes_judged [] some = absurd (omega (arith, some))
sizes_judged (first ∷ sizes) some = elim (cases_Bool (list_any (λ size. nat_lt most_range_bytes size) (first ∷ sizes))) [
  | inl past ↦ inl (one_past most_range_bytes (first ∷ sizes) past)
  | inr none ↦
      let within = none_past most_range_bytes (first ∷ sizes) none in
      of_others within (find (λ size. not (size == first)) (first ∷ sizes)) refl
] where
  of_others : AreWithin most_range_bytes (first ∷ sizes) → (found : Option ℕ) → find (λ size. not (size == first)) (first ∷ sizes) ≡ found
      → ArePast (AreWithin most_range_bytes) (first ∷ sizes)
      ⊎ (AreWithin most_range_bytes (first ∷ sizes) × (one : ℕ) × (other : ℕ) × Differ (first ∷ sizes) one other)
      ⊎ MayBeRead (first ∷ sizes)
  of_others within None is =
      inr (inr (first, record { some = some; same = all_same first (first ∷ sizes) is; within = within.0 }))
  of_others within (Some other) is = inr (inl (within, first, other, (refl, is)))

-- the first of sizes within the limit
pub within_first : (sizes : List ℕ) (d : ℕ) → 0 < length sizes → AreWithin most_range_bytes sizes → get_or sizes 0 d ≤ most_range_bytes
within_first [] d some within = absurd (omega (arith, some))
within_first (size ∷ sizes) d some within = within.0
