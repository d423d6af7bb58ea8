-- Items of which each of so many numbers has one come by rising numbers, once they are held.
use Rattle.std.proofs.Common.{◌≡◌, ◌≢◌, ◌∙◌, ℕ, zero, suc, ◌+◌, ◌-◌, ◌<◌, ◌≤◌, ◌⊎◌, cond, Option, Some, None, List, [], ◌∷◌, length, map, get_or, refl, sym, ap, subst, inl, inr, arith}
use Rattle.std.specs.Prelude.{Contains, IsSomeAnd, count_by, is_some}
use Rattle.std.specs.List.{AllByRecursion, enumerate_from, range_with_len}
use Rattle.std.proofs.Math.Dec.{eqb}
use Rattle.std.proofs.lemmas.Bool.{cases_eq, cond-false, cond-true, eq-eqb, ne_eqb}
use Rattle.std.proofs.lemmas.List.{get_or-set_other, get_or-set_same, get_or_default, length-replicate, length-set}
use Rattle.std.proofs.lemmas.List.Elements.{All-from_recursion, All-weaker, recursion_from_All}
use Rattle.std.proofs.lemmas.List.Sums.{sum_by-cons}
use Rattle.ordered_writer.specs.Reorders.{CanHold, CanHoldEach, HasEachFrom, Reordering, coming, count_held, held_at, held_in_row, reordering_from, room_of, with_each, with_held}
use Rattle.ordered_writer.proofs.Reorderings.{count_held-empty}

module _ {X : Type 0} where
  -- the numbers of items, and how often a number is among them
  abbrev numbers_of : List (ℕ × X) → List ℕ
  numbers_of items = map (λ (c : ℕ × X). c.0) items

  abbrev times : ℕ → List (ℕ × X) → ℕ
  times p items = count_by (λ (q : ℕ). eqb q p) (numbers_of items)

  times-cons : (p : ℕ) (c : ℕ × X) (items : List (ℕ × X)) → times p (c ∷ items) ≡ cond (eqb c.0 p) 1 0 + times p items
  times-cons p c items = sum_by-cons (λ (q : ℕ). cond (eqb q p) 1 0) c.0 (numbers_of items)

  times-same : (p : ℕ) (c : ℕ × X) (items : List (ℕ × X)) → c.0 ≡ p → times p (c ∷ items) ≡ 1 + times p items
  times-same p c items same = omega (arith, times-cons p c items, cond-true {A = ℕ} (eqb c.0 p) 1 0 (eq-eqb c.0 p same))

  times-other : (p : ℕ) (c : ℕ × X) (items : List (ℕ × X)) → c.0 ≢ p → times p (c ∷ items) ≡ times p items
  times-other p c items other = omega (arith, times-cons p c items, cond-false {A = ℕ} (eqb c.0 p) 1 0 (ne_eqb c.0 p other))

  -- each of so many numbers is held or has one of the items that are still to be held, and no other is
  record Awaits (P : ℕ → X → Type 0) (first count : ℕ) (r : Reordering X) (items : List (ℕ × X)) : Type 0 where
    wanted : r.wanted ≡ first
    room : count ≤ room_of r
    each : AllByRecursion (λ (c : ℕ × X). (first ≤ c.0) × (c.0 < first + count) × P c.0 c.1) items
    one : (p : ℕ) → first ≤ p → p < first + count
        → ((times p items ≡ 1) × (held_at r p ≡ None)) ⊎ ((times p items ≡ 0) × IsSomeAnd (held_at r p) (P p))
    none : (p : ℕ) → first + count ≤ p → held_at r p ≡ None

  -- the next of them can be held
  can_hold_next : (P : ℕ → X → Type 0) (first count : ℕ) (r : Reordering X) (c : ℕ × X) (items : List (ℕ × X))
      → Awaits P first count r (c ∷ items) → CanHold r c.0
  can_hold_next P first count r c items h =
      elim (h.one c.0 h.each.0.0 h.each.0.1) [
        | inl (once, free) ↦ record {
          low = omega (arith, h.wanted, h.each.0.0);
          high = omega (arith, h.wanted, h.room, h.each.0.1);
          free = free;
        }
        | inr (none, held) ↦ absurd (omega (arith, none, times-same c.0 c items refl))
      ]

  -- and then the others are awaited
  held_next : (P : ℕ → X → Type 0) (first count : ℕ) (r : Reordering X) (c : ℕ × X) (items : List (ℕ × X))
      → Awaits P first count r (c ∷ items) → Awaits P first count (with_held r c.0 c.1) items
  held_next P first count r c items h =
      let free = can_hold_next P first count r c items h in
      let place : ℕ = c.0 - r.wanted in
      let within : place < length r.held = omega (arith, free.low, free.high) in
      record {
        wanted = h.wanted;
        room = omega (arith, h.room, length-set r.held place (Some c.1));
        each = h.each.1;
        one = λ p low high.
            elim (cases_eq c.0 p) [
              | inl same ↦ inr (
                elim (h.one c.0 h.each.0.0 h.each.0.1) [
                  | inl (once, none) ↦ omega (arith, once, times-same c.0 c items refl, ap (λ (q : ℕ). times q items) same)
                  | inr (none, held) ↦ absurd (omega (arith, none, times-same c.0 c items refl))
                ],
                subst (λ (q : ℕ). IsSomeAnd (held_at (with_held r c.0 c.1) q) (P q)) same
                    (subst (λ (x : Option X). IsSomeAnd x (P c.0)) (sym (get_or-set_same r.held place (Some c.1) None within)) h.each.0.2),
              )
              | inr other ↦
                  let apart : p - r.wanted ≢ place = λ is. other (omega (arith, is, free.low, low, h.wanted)) in
                  let stays : held_at (with_held r c.0 c.1) p ≡ held_at r p = get_or-set_other r.held place (p - r.wanted) (Some c.1) None apart in
                  elim (h.one p low high) [
                    | inl (once, none) ↦ inl (omega (arith, once, times-other p c items other), stays ∙ none)
                    | inr (none, held) ↦ inr (
                      omega (arith, none, times-other p c items other),
                      subst (λ (x : Option X). IsSomeAnd x (P p)) (sym stays) held,
                    )
                  ]
            ];
        none = λ p past.
            get_or-set_other r.held place (p - r.wanted) (Some c.1) None (λ is. absurd (omega (arith, is, free.low, past, h.wanted, h.each.0.1)))
            ∙ h.none p past;
      }

  -- so all of them can be held
  can_hold_all : (P : ℕ → X → Type 0) (first count : ℕ) (r : Reordering X) (items : List (ℕ × X)) → Awaits P first count r items → CanHoldEach r items
  can_hold_all P first count r [] h = tt
  can_hold_all P first count r (c ∷ items) h = (
    can_hold_next P first count r c items h,
    can_hold_all P first count (with_held r c.0 c.1) items (held_next P first count r c items h),
  )

  held_all : (P : ℕ → X → Type 0) (first count : ℕ) (r : Reordering X) (items : List (ℕ × X)) → Awaits P first count r items
      → Awaits P first count (with_each r items) []
  held_all P first count r [] h = h
  held_all P first count r (c ∷ items) h = held_all P first count (with_held r c.0 c.1) items (held_next P first count r c items h)

  -- items without a gap, and then a gap
  in_row : (P : ℕ → X → Type 0) (first count : ℕ) (held : List (Option X))
      → ((i : ℕ) → i < count → IsSomeAnd (get_or held i None) (P (first + i))) → get_or held count None ≡ None
      → (length (held_in_row held) ≡ count) × AllByRecursion (λ (c : ℕ × X). P c.0 c.1) (enumerate_from first (held_in_row held))
  in_row P first zero [] each gap = (refl, tt)
  in_row P first zero (None ∷ held) each gap = (refl, tt)
  in_row P first zero (Some c ∷ held) each gap = absurd cc
  in_row P first (suc count) [] each gap = absurd (each 0 (omega arith))
  in_row P first (suc count) (None ∷ held) each gap = absurd (each 0 (omega arith))
  in_row P first (suc count) (Some c ∷ held) each gap =
      let rest = in_row P (first + 1) count held
      (λ i within.
      let place : first + suc i ≡ first + 1 + i = omega arith in
      subst (λ (n : ℕ). IsSomeAnd (get_or held i None) (P n)) place (each (suc i) (omega arith)))
      gap in
      let place : first + 0 ≡ first = omega arith in (
        omega (arith, rest.0),
        (subst (λ (n : ℕ). P n c) place (each 0 (omega arith)), rest.1),
      )

  -- where nothing is held, nothing is for any number
  none_at : (held : List (Option X)) (i : ℕ) → count_by is_some held ≡ 0 → get_or held i None ≡ None
  none_at [] i none = refl
  none_at (None ∷ held) zero none = refl
  none_at (Some c ∷ held) zero none = absurd (omega (arith, none, sum_by-cons (λ (x : Option X). cond (is_some x) 1 0) (Some c) held))
  none_at (x ∷ held) (suc i) none = none_at held i (omega (arith, none, sum_by-cons (λ (x : Option X). cond (is_some x) 1 0) x held))

  -- numbers that are in range, and what is known of the items
  each_known : (P : ℕ → X → Type 0) (first count : ℕ) (items : List (ℕ × X))
      → AllByRecursion (λ (p : ℕ). (first ≤ p) × (p < first + count)) (numbers_of items) → AllByRecursion (λ (c : ℕ × X). P c.0 c.1) items
      → AllByRecursion (λ (c : ℕ × X). (first ≤ c.0) × (c.0 < first + count) × P c.0 c.1) items
  each_known P first count [] within known = tt
  each_known P first count (c ∷ items) within known = ((within.0.0, within.0.1, known.0), each_known P first count items within.1 known.1)

  -- what there is before any is held
  abbrev pub IsWindow : Reordering X → ℕ → List (ℕ × X) → Type 0
  IsWindow r count items = (count_held r ≡ 0) × (count ≤ room_of r) × HasEachFrom r.wanted count (numbers_of items)

  awaited : (P : ℕ → X → Type 0) (r : Reordering X) (count : ℕ) (items : List (ℕ × X)) → IsWindow r count items
      → AllByRecursion (λ (c : ℕ × X). P c.0 c.1) items → Awaits P r.wanted count r items
  awaited P r count items (none, room, numbers) known = record {
    wanted = refl;
    room = room;
    each = each_known P r.wanted count items numbers.no_other known;
    one = λ p low high. inl (numbers.once p low high, none_at r.held (p - r.wanted) none);
    none = λ p past. none_at r.held (p - r.wanted) none;
  }

  -- so the items that come are those of the numbers, in order, and what was known of them is known
  pub come : (P : ℕ → X → Type 0) (r : Reordering X) (count : ℕ) (items : List (ℕ × X)) → IsWindow r count items
      → AllByRecursion (λ (c : ℕ × X). P c.0 c.1) items
      → (length (coming (with_each r items)) ≡ count)
      × AllByRecursion (λ (c : ℕ × X). P c.0 c.1) (enumerate_from r.wanted (coming (with_each r items)))
  come P r count items window known =
      let after : Reordering X = with_each r items in
      let h = held_all P r.wanted count r items (awaited P r count items window known) in
      in_row P r.wanted count after.held
      (λ i within.
      let place : r.wanted + i - after.wanted ≡ i = omega (arith, h.wanted) in
      elim (h.one (r.wanted + i) (omega arith) (omega arith)) [
        | inl (once, none) ↦ absurd (omega (arith, once))
        | inr (none, held) ↦ subst (λ (n : ℕ). IsSomeAnd (get_or after.held n None) (P (r.wanted + i))) place held
      ])
      (let place : count ≡ r.wanted + count - after.wanted = omega (arith, h.wanted) in
      ap (λ (n : ℕ). get_or after.held n None) place ∙ h.none (r.wanted + count) (omega arith))

  -- each of the items is one of them
  contained : (items : List (ℕ × X)) → AllByRecursion (Contains items) items
  contained items = recursion_from_All (Contains items) items (λ k d within. (k, within, get_or_default items k (get_or items k d) d within))

  pub can_hold_window : (r : Reordering X) (count : ℕ) (items : List (ℕ × X)) → IsWindow r count items → CanHoldEach r items
  can_hold_window r count items window =
      can_hold_all (λ n c. Contains items (n, c)) r.wanted count r items (awaited (λ n c. Contains items (n, c)) r count items window (contained items))

  pub come-contained : (r : Reordering X) (count : ℕ) (items : List (ℕ × X)) → IsWindow r count items
      → (length (coming (with_each r items)) ≡ count)
      × AllByRecursion (Contains items) (enumerate_from r.wanted (coming (with_each r items)))
  come-contained r count items window = come (λ n c. Contains items (n, c)) r count items window (contained items)

  -- so what was known of each of the items is known of those that come
  all_in_order : (P : X → Type 0) (first : ℕ) (xs : List X) → AllByRecursion (λ (c : ℕ × X). P c.1) (enumerate_from first xs) → AllByRecursion P xs
  all_in_order P first [] each = tt
  all_in_order P first (x ∷ xs) each = (each.0, all_in_order P (first + 1) xs each.1)

  pub come-all : (P : X → Type 0) (r : Reordering X) (count : ℕ) (items : List (ℕ × X)) → IsWindow r count items
      → AllByRecursion (λ (c : ℕ × X). P c.1) items → AllByRecursion P (coming (with_each r items))
  come-all P r count items window known =
      all_in_order P r.wanted (coming (with_each r items)) (come (λ n x. P x) r count items window known).1

  -- what stays while items are held
  pub with_each-wanted : (r : Reordering X) (items : List (ℕ × X)) → (with_each r items).wanted ≡ r.wanted
  with_each-wanted r [] = refl
  with_each-wanted r (c ∷ items) = with_each-wanted (with_held r c.0 c.1) items

  pub with_each-room : (r : Reordering X) (items : List (ℕ × X)) → room_of (with_each r items) ≡ room_of r
  with_each-room r [] = refl
  with_each-room r (c ∷ items) = with_each-room (with_held r c.0 c.1) items ∙ length-set r.held (c.0 - r.wanted) (Some c.1)

  -- a ring that is as large as the window, where nothing is held yet
  pub fresh_window : (first count : ℕ) (items : List (ℕ × X)) → HasEachFrom first count (numbers_of items)
      → IsWindow (reordering_from first count) count items
  fresh_window first count items each =
      let room : room_of {X = X} (reordering_from first count) ≡ count = length-replicate {A = Option X} count None in
      (count_held-empty X first count, omega (arith, room), each)

-- items that have values by their numbers
module _ {X Y : Type 0} where
  values_in_order : (f : X → Y) (value : ℕ → Y) (first : ℕ) (xs : List X)
      → AllByRecursion (λ (c : ℕ × X). f c.1 ≡ value c.0) (enumerate_from first xs)
      → map f xs ≡ map value (range_with_len first (length xs))
  values_in_order f value first [] each = refl
  values_in_order f value first (x ∷ xs) each =
      ap (λ (ys : List Y). f x ∷ ys) (values_in_order f value (first + 1) xs each.1)
      ∙ ap (λ (y : Y). y ∷ map value (range_with_len (first + 1) (length xs))) each.0

  pub come-values : (f : X → Y) (r : Reordering X) (count : ℕ) (items : List (ℕ × X)) (value : ℕ → Y) → IsWindow r count items
      → AllByRecursion (λ (c : ℕ × X). f c.1 ≡ value c.0) items
      → map f (coming (with_each r items)) ≡ map value (range_with_len r.wanted count)
  come-values f r count items value window known =
      let h = come (λ n x. f x ≡ value n) r count items window known in
      values_in_order f value r.wanted (coming (with_each r items)) h.1
      ∙ ap (λ (n : ℕ). map value (range_with_len r.wanted n)) h.0

-- numbers from 0 on
pub each_from_zero : (count : ℕ) (numbers : List ℕ) → ((p : ℕ) → p < count → count_by (λ (q : ℕ). eqb q p) numbers ≡ 1)
    → AllByRecursion (λ (p : ℕ). p < count) numbers → HasEachFrom 0 count numbers
each_from_zero count numbers once others = record {
  once = λ p low high. once p (omega arith);
  no_other = recursion_from_All (λ (p : ℕ). (0 ≤ p) × (p < 0 + count)) numbers
      (All-weaker (λ (p : ℕ). p < count) (λ (p : ℕ). (0 ≤ p) × (p < 0 + count)) (λ p below. (omega arith, omega arith)) numbers
      (All-from_recursion (λ (p : ℕ). p < count) numbers others));
}
