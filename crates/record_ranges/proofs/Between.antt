-- Records whose positions lie between two places.
use Rattle.std.proofs.Common.{◌≡◌, ◌∙◌, ℕ, zero, suc, ◌+◌, ◌<◌, ◌≤◌, ◌&&◌, Bool, false, nat_le, nat_lt, List, [], ◌∷◌, ◌++◌, map, take, filter, refl, sym, ap, subst, inl, inr, Some, ◌⊎◌, add-one, arith}
use Rattle.std.specs.Prelude.{slice_get}
use Rattle.std.specs.List.{AllByRecursion, enumerate_from}
use Rattle.std.proofs.lemmas.Bool.{cond-true, cond-false, and_from, and_left, and_right, lt-ltb, le-ltb, le-leb, lt-leb}
use Rattle.std.proofs.lemmas.List.{map-append, append_assoc, append-nil}
use Rattle.std.proofs.lemmas.List.Elements.{filter-append}
use Rattle.record_ranges.specs.Ranges.{records_between}
use Rattle.record_ranges.specs.Stretches.{Adds}

-- the position of a record
abbrev pub position : ℕ × List ℕ → ℕ
position p = p.0

abbrev bytes : ℕ × List ℕ → List ℕ
bytes p = p.1

abbrev lies : (from to : ℕ) → ℕ × List ℕ → Bool
lies from to p = nat_le from p.0 && nat_lt p.0 to

pub between-append : (from to : ℕ) (a b : List (ℕ × List ℕ)) → records_between from to (a ++ b) ≡ records_between from to a ++ records_between from to b
between-append from to a b =
    ap (map bytes) (filter-append (lies from to) a b) ∙ map-append bytes (filter (lies from to) a) (filter (lies from to) b)

-- none, where none lies there
none_lie : (from to : ℕ) (placed : List (ℕ × List ℕ)) → AllByRecursion (λ p. lies from to p ≡ false) placed → records_between from to placed ≡ []
none_lie from to [] h = refl
none_lie from to (p ∷ placed) h =
    ap (map bytes) (cond-false (lies from to p) (p ∷ filter (lies from to) placed) (filter (lies from to) placed) h.0) ∙ none_lie from to placed h.1

before_lies : (from to : ℕ) (placed : List (ℕ × List ℕ)) → AllByRecursion (λ x. x < from) (map position placed)
    → AllByRecursion (λ p. lies from to p ≡ false) placed
before_lies from to [] h = tt
before_lies from to (p ∷ placed) h =
    (and_left (nat_le from p.0) (nat_lt p.0 to) (lt-leb from p.0 h.0), before_lies from to placed h.1)

past_lies : (from to : ℕ) (placed : List (ℕ × List ℕ)) → AllByRecursion (λ x. to ≤ x) (map position placed)
    → AllByRecursion (λ p. lies from to p ≡ false) placed
past_lies from to [] h = tt
past_lies from to (p ∷ placed) h =
    (and_right (nat_le from p.0) (nat_lt p.0 to) (le-ltb p.0 to h.0), past_lies from to placed h.1)

pub between-before : (from to : ℕ) (placed : List (ℕ × List ℕ)) → AllByRecursion (λ x. x < from) (map position placed) → records_between from to placed ≡ []
between-before from to placed h = none_lie from to placed (before_lies from to placed h)

pub between-past : (from to : ℕ) (placed : List (ℕ × List ℕ)) → AllByRecursion (λ x. to ≤ x) (map position placed) → records_between from to placed ≡ []
between-past from to placed h = none_lie from to placed (past_lies from to placed h)

-- one record that lies there, or doesn't
between-one : (from to position : ℕ) (r : List ℕ) → from ≤ position → position < to → records_between from to ((position, r) ∷ []) ≡ r ∷ []
between-one from to position r low high =
    ap (map bytes) (cond-true (lies from to (position, r)) ((position, r) ∷ []) []
    (and_from (nat_le from position) (nat_lt position to) (le-leb from position low) (lt-ltb position to high)))

between-none : (from to position : ℕ) (r : List ℕ) → position < from ⊎ (to ≤ position) → records_between from to ((position, r) ∷ []) ≡ []
between-none from to position r (inl low) = between-before from to ((position, r) ∷ []) (low, tt)
between-none from to position r (inr high) = between-past from to ((position, r) ∷ []) (high, tt)

-- the places of records, one more at the end
enumerate_next : (n i : ℕ) (rs : List (List ℕ)) (r : List ℕ) → slice_get rs i ≡ Some r
    → enumerate_from n (take (suc i) rs) ≡ enumerate_from n (take i rs) ++ (n + i, r) ∷ []
enumerate_next n i [] r at = absurd (cc)
enumerate_next n zero (x ∷ rs) r at =
    let same : x ≡ r = cc in
    let here : n ≡ n + 0 = omega arith in
    ap (λ (y : List ℕ). (n, y) ∷ []) same ∙ ap (λ (k : ℕ). (k, r) ∷ []) here
enumerate_next n (suc i) (x ∷ rs) r at =
    let on : n + 1 + i ≡ n + suc i = omega arith in
    ap (λ (ps : List (ℕ × List ℕ)). (n, x) ∷ ps)
    (enumerate_next (n + 1) i rs r at ∙ ap (λ (k : ℕ). enumerate_from (n + 1) (take i rs) ++ (k, r) ∷ []) on)

enumerate-more : (n i : ℕ) (rs : List (List ℕ)) (r : List ℕ) → slice_get rs i ≡ Some r
    → enumerate_from n (take (i + 1) rs) ≡ enumerate_from n (take i rs) ++ (n + i, r) ∷ []
enumerate-more n i rs r at =
    subst (λ (m : ℕ). enumerate_from n (take m rs) ≡ enumerate_from n (take i rs) ++ (n + i, r) ∷ []) (sym (add-one i)) (enumerate_next n i rs r at)

module _ {K : Type 0} (kept_as : List (List ℕ) → K) where
  -- so one more is kept of those that lie there
  pub between-more : (from to n i : ℕ) (rs : List (List ℕ)) (old now new : K) (r : List ℕ) → slice_get rs i ≡ Some r
      → Adds kept_as old now (records_between from to (enumerate_from n (take i rs))) → Adds kept_as now new (records_between from to ((n + i, r) ∷ []))
      → Adds kept_as old new (records_between from to (enumerate_from n (take (i + 1) rs)))
  between-more from to n i rs old now new r at so_far adds =
      λ kept is.
      let before : List (List ℕ) = records_between from to (enumerate_from n (take i rs)) in
      adds (kept ++ before) (so_far kept is)
      ∙ ap kept_as (append_assoc kept before (records_between from to ((n + i, r) ∷ [])))
      ∙ ap (λ (xs : List (List ℕ)). kept_as (kept ++ xs)) (sym (between-append from to (enumerate_from n (take i rs)) ((n + i, r) ∷ []))
      ∙ ap (records_between from to) (sym (enumerate-more n i rs r at)))

  -- one that lies there is kept, and another isn't
  pub taken-one : (from to position : ℕ) (r : List ℕ) (old new : K) → from ≤ position → position < to → Adds kept_as old new (r ∷ [])
      → Adds kept_as old new (records_between from to ((position, r) ∷ []))
  taken-one from to position r old new low high adds = subst (Adds kept_as old new) (sym (between-one from to position r low high)) adds

  -- nothing more is kept
  pub adds-none : (old : K) → Adds kept_as old old []
  adds-none old = λ kept is. is ∙ ap kept_as (sym (append-nil kept))

  pub left-before : (from to position : ℕ) (r : List ℕ) (old : K) → position < from → Adds kept_as old old (records_between from to ((position, r) ∷ []))
  left-before from to position r old low = subst (Adds kept_as old old) (sym (between-none from to position r (inl low))) (adds-none old)

  pub left-past : (from to position : ℕ) (r : List ℕ) (old : K) → to ≤ position → Adds kept_as old old (records_between from to ((position, r) ∷ []))
  left-past from to position r old high = subst (Adds kept_as old old) (sym (between-none from to position r (inr high))) (adds-none old)

pub ruleset part_steps = (adds-none, taken-one, left-before, left-past)
