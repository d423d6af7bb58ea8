-- Inside. Items that come in any order and are given by rising numbers. Own.
use Rattle.std.specs.Prelude.{◌≡◌, ℕ, ◌+◌, ◌-◌, ◌%◌, ◌<◌, ◌≤◌, ◌==◌, Option, Some, None, List, [], ◌∷◌, ◌++◌, count_by, drop, get_or, is_some, length, map, refl, replicate}
use Rattle.std.specs.Coded.{Coded, code_by, coded×, coded_list, coded_option, coded_ℕ}
use Rattle.std.specs.List.{AllByRecursion, range_with_len, slice_set}

-- which number comes next, and the items that are held for it and for the numbers behind it, as many as there is room for
pub record Reordering (X : Type 0) : Type 0 where
  pub wanted : ℕ
  pub held : List (Option X)

module _ {X : Type 0} where
  -- such a value is stored as the pair of its fields
  abbrev pub reordering_code : Coded X → Coded (Reordering X)
  reordering_code code =
      code_by (ℕ × List (Option X)) (coded× coded_ℕ (coded_list (coded_option code))) (λ r. (r.wanted, r.held)) (λ p. record { wanted = p.0; held = p.1 }) (λ _. refl)

  -- how many numbers there is room for, from the next one on
  abbrev pub room_of : Reordering X → ℕ
  room_of r = length r.held

  -- how many items are held
  abbrev pub count_held : Reordering X → ℕ
  count_held r = count_by is_some r.held

  -- what is held for a number that there is room for
  abbrev pub held_at : Reordering X → ℕ → Option X
  held_at r number = get_or r.held (number - r.wanted) None

  -- the numbers begin with the first, and nothing is held
  abbrev pub reordering_from : ℕ → ℕ → Reordering X
  reordering_from first room = record { wanted = first; held = replicate room None }

  -- there is room for the number, and nothing is held for it
  pub record CanHold (r : Reordering X) (number : ℕ) : Type 0 where
    pub low : r.wanted ≤ number
    pub high : number < r.wanted + room_of r
    pub free : held_at r number ≡ None

  -- the same with an item for one number
  abbrev pub with_held : Reordering X → ℕ → X → Reordering X
  with_held r number item = record r { held = slice_set r.held (number - r.wanted) (Some item) }

  -- the same once the next number is past: the one behind it comes next, and there is room for one more
  abbrev pub moved_on : Reordering X → Reordering X
  moved_on r = record { wanted = r.wanted + 1; held = drop 1 r.held ++ None ∷ [] }

  -- the items that are held without a gap, from the next number on
  abbrev pub held_in_row : List (Option X) → List X
  held_in_row [] = []
  held_in_row (None ∷ held) = []
  held_in_row (Some item ∷ held) = item ∷ held_in_row held

  -- those that come next
  abbrev pub coming : Reordering X → List X
  coming r = held_in_row r.held

  -- numbered items can be held one after another
  abbrev pub CanHoldEach : Reordering X → List (ℕ × X) → Type 0
  CanHoldEach r [] = Unit {0}
  CanHoldEach r (c ∷ items) = CanHold r c.0 × CanHoldEach (with_held r c.0 c.1) items

  -- what is held then
  abbrev pub with_each : Reordering X → List (ℕ × X) → Reordering X
  with_each r [] = r
  with_each r (c ∷ items) = with_each (with_held r c.0 c.1) items

  -- items in the slots of a ring, each in the slot that its number leaves as a remainder, by number from one number on
  abbrev pub in_ring : ℕ → List (Option X) → List (Option X)
  in_ring wanted slots = map (λ number. get_or slots (number % length slots) None) (range_with_len wanted (length slots))

-- each of so many numbers from the first on stands in the list once, and no other stands there
pub record HasEachFrom (first count : ℕ) (numbers : List ℕ) : Type 0 where
  pub once : (p : ℕ) → first ≤ p → p < first + count → count_by (λ q. q == p) numbers ≡ 1
  pub no_other : AllByRecursion (λ p. (first ≤ p) × (p < first + count)) numbers
