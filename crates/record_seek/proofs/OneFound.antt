-- Where only a front of records stands before, what a search by key may find is the first behind it.
use Rattle.std.proofs.Common.{◌≡◌, ◌↔◌, ℕ, ◌-◌, Option, Some, None, List, length, sym, ap, subst, inl, inr, arith}
use Rattle.std.specs.Prelude.{slice_get}
use Rattle.std.proofs.lemmas.Bool.{cases_lt}
use Rattle.std.proofs.lemmas.List.{nil_from_length}
use Rattle.std.proofs.lemmas.Option.{slice_get_cases, slice_get_past}
use Rattle.record_seek.specs.Found.{IsKeyFound, OnlyFrontStandsBefore}
use Rattle.record_seek.proofs.ReadingOn.{item_at}

module _ {R : Type 0} (Before : R → Type 0) (records : List R) (count : ℕ) (front : OnlyFrontStandsBefore Before records count) where
  found_is : (found : Option R) → IsKeyFound Before records found → found ≡ slice_get records count
  found_is None (inl none) = sym (slice_get_past records count (omega (arith, ap length none)))
  found_is None (inr (last, there, before)) =
      elim (cases_lt count (length records)) [
        | inl less ↦ absurd (front.others (length records - 1) last there (omega (arith, less)) before)
        | inr past ↦ sym (slice_get_past records count past)
      ]
  found_is (Some found) (apart, (i, there, behind)) =
      elim (cases_lt i count) [
        | inl less ↦ absurd (apart (front.front i found there less))
        | inr from ↦
            let same : i ≡ count =
            elim behind [
              | inl first ↦ omega (arith, first, from)
              | inr (last, at, before) ↦ elim (cases_lt count i) [
                | inl past ↦ absurd (front.others (i - 1) last at (omega (arith, past)) before)
                | inr not ↦ omega (arith, not, from)
              ]
            ] in
            subst (λ (n : ℕ). Some found ≡ slice_get records n) same (sym there)
      ]

  first_behind : IsKeyFound Before records (slice_get records count)
  first_behind =
      elim (slice_get_cases records count).1 [
        | inl (r, inside, at, same) ↦ subst (IsKeyFound Before records) (sym at) (
          front.others count r at (omega arith),
          (
            count,
            at,
            elim (cases_lt 0 count) [
              | inl some ↦
                  let last = item_at records (count - 1) (omega (arith, inside)) in
                  inr (last.0, last.1, front.front (count - 1) last.0 last.1 (omega (arith, some)))
              | inr none ↦ inl (omega (arith, none))
            ],
          ),
        )
        | inr (past, none) ↦ subst (IsKeyFound Before records) (sym none) (elim (cases_lt 0 (length records)) [
          | inl some ↦
              let last = item_at records (length records - 1) (omega (arith, some)) in
              inr (last.0, last.1, front.front (length records - 1) last.0 last.1 (omega (arith, past, some)))
          | inr nothing ↦ inl (nil_from_length records (omega (arith, nothing)))
        ])
      ]

  pub found_in_order : (found : Option R) → IsKeyFound Before records found ↔ (found ≡ slice_get records count)
  found_in_order found = (found_is found, λ same. subst (IsKeyFound Before records) (sym same) first_behind)
