-- What is held while numbers move on.
use Rattle.std.proofs.Common.{◌≡◌, ◌∙◌, ℕ, ◌+◌, ◌-◌, ◌<◌, cond, Option, Some, None, List, [], ◌∷◌, ◌++◌, length, get_or, drop, refl, sym, ap, arith}
use Rattle.std.specs.Prelude.{count_by, is_some}
use Rattle.std.proofs.lemmas.Grind.{common_steps}
use Rattle.std.proofs.lemmas.List.Folds.{sum_by-replicate}
use Rattle.std.proofs.lemmas.List.Sums.{sum_by-append, sum_by-cons, sum_by-set}
use Rattle.ordered_writer.specs.Reorders.{CanHold, Reordering, coming, count_held, held_at, held_in_row, moved_on, reordering_from, room_of, with_held}

module _ {X : Type 0} where
  -- whether there is one, as a number
  abbrev one_if_some : Option X → ℕ
  one_if_some held = cond (is_some held) 1 0

  -- one more is held for a number that had none
  pub count_held-held : (r : Reordering X) (number : ℕ) (c : X) → CanHold r number → count_held (with_held r number c) ≡ count_held r + 1
  count_held-held r number c h =
      let place : number - r.wanted < length r.held = omega (arith, h.low, h.high) in
      omega (arith, sum_by-set one_if_some r.held (number - r.wanted) (Some c) None place, ap one_if_some h.free)

  -- and one less once the next number's is given
  pub count_held-moved : (r : Reordering X) (c : X) → held_at r r.wanted ≡ Some c → count_held r ≡ 1 + count_held (moved_on r)
  count_held-moved r c h = count_moved r.held (ap (λ (n : ℕ). get_or r.held n None) (omega arith) ∙ h)
    where
      count_moved : (held : List (Option X)) → get_or held 0 None ≡ Some c → count_by is_some held ≡ 1 + count_by is_some (drop 1 held ++ None ∷ [])
      count_moved [] first = absurd cc
      count_moved (x ∷ held) first =
          let whole : count_by is_some (x ∷ held) ≡ one_if_some x + count_by is_some held = sum_by-cons one_if_some x held in
          let rest : count_by is_some (held ++ None ∷ []) ≡ count_by is_some held + 0 = sum_by-append one_if_some held (None ∷ []) in
          omega (arith, whole, ap one_if_some first, rest)

  -- a gap behind all others doesn't show
  row-gap : (held : List (Option X)) → held_in_row (held ++ None ∷ []) ≡ held_in_row held
  row-gap [] = refl
  row-gap (None ∷ held) = refl
  row-gap (Some c ∷ held) = ap (λ (cs : List X). c ∷ cs) (row-gap held)

  -- the next one comes first
  pub coming-moved : (r : Reordering X) (c : X) → held_at r r.wanted ≡ Some c → coming r ≡ c ∷ coming (moved_on r)
  coming-moved r c h = row_moved r.held (ap (λ (n : ℕ). get_or r.held n None) (omega arith) ∙ h)
    where
      row_moved : (held : List (Option X)) → get_or held 0 None ≡ Some c → held_in_row held ≡ c ∷ held_in_row (drop 1 held ++ None ∷ [])
      row_moved [] first = absurd cc
      row_moved (x ∷ held) first =
          ap (λ (x : Option X). held_in_row (x ∷ held)) first
          ∙ ap (λ (cs : List X). c ∷ cs) (sym (row-gap held))

  -- there is as much room once one more is held
  pub room_of-held : (r : Reordering X) (number : ℕ) (c : X) → room_of (with_held r number c) ≡ room_of r
  room_of-held r number c = grind (arith, common_steps)

-- nothing is held at first
pub count_held-empty : (X : Type 0) (first room : ℕ) → count_held {X = X} (reordering_from first room) ≡ 0
count_held-empty X first room = omega (arith, sum_by-replicate (one_if_some {X = X}) room None)
