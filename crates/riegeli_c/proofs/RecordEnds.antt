-- Where records end that lie one behind another.
use Rattle.std.proofs.Common.{◌≡◌, ◌∙◌, ℕ, ◌+◌, ◌<◌, ◌≤◌, List, [], ◌∷◌, ◌++◌, Some, length, take, drop, refl, sym, ap, arith}
use Rattle.std.specs.Prelude.{set, slice_get}
use Rattle.std.specs.List.{concat}
use Rattle.std.proofs.lemmas.Grind.{take-set_at, take_at_read}
use Rattle.std.proofs.lemmas.List.{length-append, append-nil, take-append-drop}
use Rattle.std.proofs.lemmas.List.Folds.{concat-append}
use Rattle.std.proofs.lemmas.Option.{get_or_from_slice_get, slice_get_within}
use Rattle.riegeli_c.specs.Chunks.{ends_from}

-- the records up to one more
taken : (records : List (List ℕ)) (i : ℕ) (r : List ℕ) → slice_get records i ≡ Some r → take (i + 1) records ≡ take i records ++ r ∷ []
taken records i r at =
    (take_at_read records i [] (slice_get_within records i r at)).1
    ∙ ap (λ (x : List ℕ). take i records ++ x ∷ []) (get_or_from_slice_get records i r [] at)

-- how many bytes these have
pub joined_size : (records : List (List ℕ)) (i : ℕ) (r : List ℕ) → slice_get records i ≡ Some r
    → length (concat (take (i + 1) records)) ≡ length (concat (take i records)) + length r
joined_size records i r at =
    ap (λ (xs : List (List ℕ)). length (concat xs)) (taken records i r at)
    ∙ ap (λ (xs : List ℕ). length xs) (concat-append (take i records) (r ∷ []) ∙ ap (λ (x : List ℕ). concat (take i records) ++ x) (append-nil r))
    ∙ length-append (concat (take i records)) r

-- no more than all
pub joined_within : (records : List (List ℕ)) (n : ℕ) → length (concat (take n records)) ≤ length (concat records)
joined_within records n =
    omega (
      arith,
      ap (λ (xs : List (List ℕ)). length (concat xs)) (take-append-drop n records),
      ap (λ (xs : List ℕ). length xs) (concat-append (take n records) (drop n records)),
      length-append (concat (take n records)) (concat (drop n records)),
    )

-- one more ends behind all before it
ends_push : (begin : ℕ) (records : List (List ℕ)) (r : List ℕ)
    → ends_from begin (records ++ r ∷ []) ≡ ends_from begin records ++ (begin + length (concat records) + length r) ∷ []
ends_push begin [] r = ap (λ (n : ℕ). n ∷ []) (omega arith)
ends_push begin (x ∷ records) r =
    ap (λ (xs : List ℕ). (begin + length x) ∷ xs)
    (ends_push (begin + length x) records r
    ∙ ap (λ (n : ℕ). ends_from (begin + length x) records ++ n ∷ []) (omega (arith, length-append x (concat records))))

pub ends_step : (records : List (List ℕ)) (i : ℕ) (r ends : List ℕ) → slice_get records i ≡ Some r → i < length ends
    → take i ends ≡ ends_from 0 (take i records)
    → take (i + 1) (set ends i (length (concat (take i records)) + length r)) ≡ ends_from 0 (take (i + 1) records)
ends_step records i r ends at inside same =
    let last : ℕ = length (concat (take i records)) + length r in
    take-set_at ends i (i + 1) last refl inside
    ∙ ap (λ (xs : List ℕ). xs ++ last ∷ []) same
    ∙ sym (ap (ends_from 0) (taken records i r at)
    ∙ ends_push 0 (take i records) r
    ∙ ap (λ (n : ℕ). ends_from 0 (take i records) ++ n ∷ []) (omega arith))
