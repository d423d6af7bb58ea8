-- Items in the slots of a ring.
use Rattle.std.proofs.Common.{◌≡◌, ◌≢◌, ◌∙◌, ℕ, ◌+◌, ◌-◌, ◌*◌, ◌/◌, ◌%◌, ◌<◌, ◌≤◌, Option, None, List, [], ◌∷◌, ◌++◌, length, get_or, set, drop, replicate, inl, inr, refl, sym, ap, arith}
use Rattle.std.proofs.Math.Nat.{add-mod_right, mod-add-div, mod-eq_of_lt, mul-add-mod_self_left, mul-mod_right}
use Rattle.std.proofs.lemmas.Bool.{cases_eq, cases_lt}
use Rattle.std.proofs.lemmas.Nat.{mod_below}
use Rattle.std.proofs.lemmas.Grind.{get_or_after_one}
use Rattle.std.proofs.lemmas.List.{ext_get_or, get_or-replicate, get_or-set_other, get_or-set_same, get_or_append_left, get_or-append_right, length-append, length-drop, length-replicate, length-set}
use Rattle.std.proofs.lemmas.List.FromFn.{get_or-map-range_with_len, length-map-range_with_len}
use Rattle.ordered_writer.specs.Reorders.{in_ring}

-- numbers that are less than a ring's length apart have slots of their own
distance : (n a d : ℕ) → d < n → (a + d) % n ≡ a % n → d ≡ 0
distance n a d near same =
    let whole : n * (a / n) + d ≡ n * ((a + d) / n) = omega (arith, mod-add-div a n, mod-add-div (a + d) n, same) in
    sym (mod-eq_of_lt near)
    ∙ sym (mul-add-mod_self_left n (a / n) d)
    ∙ ap (λ (m : ℕ). m % n) whole
    ∙ mul-mod_right n ((a + d) / n)

own_slot : (n low a b : ℕ) → low ≤ a → a < low + n → low ≤ b → b < low + n → a ≢ b → a % n ≢ b % n
own_slot n low a b la ha lb hb other same =
    elim (cases_lt a b) [
      | inl less ↦
          let far : a + (b - a) ≡ b = omega arith in
          absurd (omega (arith, distance n a (b - a) (omega arith) (ap (λ (m : ℕ). m % n) far ∙ sym same)))
      | inr more ↦
          let far : b + (a - b) ≡ a = omega arith in
          other (omega (arith, distance n b (a - b) (omega arith) (ap (λ (m : ℕ). m % n) far ∙ same)))
    ]

module _ {X : Type 0} where
  pub length-in_ring : (wanted : ℕ) (slots : List (Option X)) → length (in_ring wanted slots) ≡ length slots
  length-in_ring wanted slots = length-map-range_with_len (λ (number : ℕ). get_or slots (number % length slots) None) wanted (length slots)

  -- what lies for a number
  pub get_or-in_ring : (wanted : ℕ) (slots : List (Option X)) (i : ℕ) → i < length slots
      → get_or (in_ring wanted slots) i None ≡ get_or slots ((wanted + i) % length slots) None
  get_or-in_ring wanted slots i within =
      get_or-map-range_with_len (λ (number : ℕ). get_or slots (number % length slots) None) wanted (length slots) i (wanted + i) None within refl

  pub first-in_ring : (wanted : ℕ) (slots : List (Option X)) → 0 < length slots
      → get_or slots (wanted % length slots) None ≡ get_or (in_ring wanted slots) (wanted - wanted) None
  first-in_ring wanted slots some =
      let place : wanted + 0 ≡ wanted = omega arith in
      let none : 0 ≡ wanted - wanted = omega arith in
      ap (λ (n : ℕ). get_or slots (n % length slots) None) (sym place)
      ∙ sym (get_or-in_ring wanted slots 0 some)
      ∙ ap (λ (n : ℕ). get_or (in_ring wanted slots) n None) none

  -- nothing lies in empty slots
  pub in_ring-empty : (wanted room : ℕ) → in_ring {X = X} wanted (replicate room None) ≡ replicate room None
  in_ring-empty wanted room =
      let slots : List (Option X) = replicate room None in
      let count : length slots ≡ room = length-replicate {A = Option X} room None in
      ext_get_or None (in_ring wanted slots) slots (length-in_ring wanted slots)
      (λ i small.
      let within : i < room = omega (arith, length-in_ring wanted slots) in
      get_or-in_ring wanted slots i (omega arith)
      ∙ get_or-replicate room ((wanted + i) % length slots) None None (omega (arith, mod_below (wanted + i) (length slots) (omega arith)))
      ∙ sym (get_or-replicate room i None None within))

  -- where a slot is written, what lies for its number changes alone
  pub in_ring-set : (wanted : ℕ) (slots : List (Option X)) (number : ℕ) (item : Option X) → wanted ≤ number → number < wanted + length slots
      → in_ring wanted (set slots (number % length slots) item) ≡ set (in_ring wanted slots) (number - wanted) item
  in_ring-set wanted slots number item low high =
      let n : ℕ = length slots in
      let after : List (Option X) = set slots (number % n) item in
      let count : length after ≡ n = length-set slots (number % n) item in
      let place : wanted + (number - wanted) ≡ number = omega arith in
      let sizes : length (in_ring wanted after) ≡ n = length-in_ring wanted after ∙ count in
      ext_get_or None (in_ring wanted after) (set (in_ring wanted slots) (number - wanted) item)
      (sizes ∙ sym (length-set (in_ring wanted slots) (number - wanted) item ∙ length-in_ring wanted slots))
      (λ i small.
      let within : i < n = omega arith in
      get_or-in_ring wanted after i (omega arith)
      ∙ ap (λ (m : ℕ). get_or after ((wanted + i) % m) None) count
      ∙ elim (cases_eq i (number - wanted)) [
        | inl same ↦
            ap (λ (m : ℕ). get_or after ((wanted + m) % n) None) same
            ∙ ap (λ (m : ℕ). get_or after (m % n) None) place
            ∙ get_or-set_same slots (number % n) item None (mod_below number n (omega arith))
            ∙ sym (get_or-set_same (in_ring wanted slots) (number - wanted) item None (omega (arith, length-in_ring wanted slots)))
            ∙ ap (λ (m : ℕ). get_or (set (in_ring wanted slots) (number - wanted) item) m None) (sym same)
        | inr other ↦
            get_or-set_other slots (number % n) ((wanted + i) % n) item None
            (own_slot n wanted (wanted + i) number (omega arith) (omega arith) low high (λ is. other (omega (arith, is))))
            ∙ sym (get_or-in_ring wanted slots i within)
            ∙ sym (get_or-set_other (in_ring wanted slots) (number - wanted) i item None other)
      ])

  -- where nothing lies for a number it may come last
  pub in_ring-next : (wanted : ℕ) (slots : List (Option X)) → 0 < length slots
      → in_ring (wanted + 1) (set slots (wanted % length slots) None) ≡ drop 1 (in_ring wanted slots) ++ None ∷ []
  in_ring-next wanted slots some =
      let n : ℕ = length slots in
      let after : List (Option X) = set slots (wanted % n) None in
      let count : length after ≡ n = length-set slots (wanted % n) None in
      let rest : List (Option X) = drop 1 (in_ring wanted slots) in
      let size_rest : length rest ≡ n - 1 = omega (arith, length-drop 1 (in_ring wanted slots), length-in_ring wanted slots) in
      let sizes : length (in_ring (wanted + 1) after) ≡ n = length-in_ring (wanted + 1) after ∙ count in
      ext_get_or None (in_ring (wanted + 1) after) (rest ++ None ∷ []) (omega (arith, sizes, length-append rest (None ∷ [])))
      (λ i small.
      let within : i < n = omega arith in
      let place : wanted + 1 + i ≡ wanted + (1 + i) = omega arith in
      get_or-in_ring (wanted + 1) after i (omega arith)
      ∙ ap (λ (m : ℕ). get_or after ((wanted + 1 + i) % m) None) count
      ∙ ap (λ (m : ℕ). get_or after (m % n) None) place
      ∙ elim (cases_lt (1 + i) n) [
        | inl before ↦
            get_or-set_other slots (wanted % n) ((wanted + (1 + i)) % n) None None
            (λ same. absurd (omega (arith, distance n wanted (1 + i) before same)))
            ∙ sym (get_or-in_ring wanted slots (1 + i) before)
            ∙ sym (get_or_after_one (in_ring wanted slots) i None)
            ∙ sym (get_or_append_left rest (None ∷ []) None i (omega arith))
        | inr last ↦
            let is : 1 + i ≡ n = omega arith in
            let end : 0 ≡ i - (n - 1) = omega arith in
            ap (λ (m : ℕ). get_or after ((wanted + m) % n) None) is
            ∙ ap (λ (m : ℕ). get_or after m None) (add-mod_right wanted n)
            ∙ get_or-set_same slots (wanted % n) None None (mod_below wanted n some)
            ∙ ap (λ (m : ℕ). get_or {A = Option X} (None ∷ []) m None) end
            ∙ sym (get_or-append_right rest (None ∷ []) (n - 1) i None size_rest (omega arith))
      ])
