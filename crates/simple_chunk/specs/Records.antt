-- Inside. Records that lie joined in one list of bytes, or groups in one list of records, and the places where they end. Own.
use Rattle.std.specs.Prelude.{◌≡◌, ℕ, zero, suc, ◌-◌, ◌^◌, ◌<◌, ◌≤◌, List, [], ◌∷◌, length, slice_index, slice_range}

-- the parts of a list that end at these places, of which the first begins at a place
abbrev pub parts_from : {X : Type 0} → ℕ → List ℕ → List X → List (List X)
parts_from begin [] xs = []
parts_from begin (end ∷ ends) xs = slice_range xs begin end ∷ parts_from end ends xs

-- where the last of them ends
abbrev pub last_end : ℕ → List ℕ → ℕ
last_end begin [] = begin
last_end begin (end ∷ ends) = last_end end ends

-- where one of them begins: where the one before it ends
abbrev pub record_begin : ℕ → List ℕ → ℕ → ℕ
record_begin begin ends zero = begin
record_begin begin ends (suc i) = slice_index ends i

-- no part ends before it begins, and the last one ends where all does
abbrev pub AreEnds : ℕ → List ℕ → ℕ → Type 0
AreEnds begin [] whole = begin ≡ whole
AreEnds begin (end ∷ ends) whole = (begin ≤ end) × AreEnds end ends whole

-- the ends of records as a list holds them: in order, and fewer than 2^32
pub record AreHeldEnds (ends : List ℕ) (whole : ℕ) : Type 0 where
  pub order : AreEnds 0 ends whole
  pub few : length ends < 2 ^ 32

-- how long the records are that end at these places, of which the first begins at a place
abbrev pub sizes_between : ℕ → List ℕ → List ℕ
sizes_between begin [] = []
sizes_between begin (end ∷ ends) = (end - begin) ∷ sizes_between end ends
