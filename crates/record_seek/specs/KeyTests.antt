-- Inside. Tests of records by their bytes. Own.
use Rattle.std.specs.Prelude.{ℕ, ◌≤◌, ◌^◌, Bool, true, false, List, length}
use Rattle.std.specs.Fn.{Shared, FnReturnsAt}
use denote.Ref.{Bor}
use Rattle.record_values.specs.Bytes.{AreBytes}

-- a function that may be called on each list of at most 2 ^ 26 bytes, and can't answer both ways on one
pub record IsKeyTest {F : Type 0} (g : Shared F (Bor (List ℕ) × Unit {0}) Bool) (f : F) : Type 0 where
  pub callable : (p : Bor (List ℕ)) → AreBytes p.now → length p.now ≤ 2 ^ 26 → g.pre f (p, tt)
  pub one_way : (bytes : List ℕ) → AreBytes bytes → length bytes ≤ 2 ^ 26 → FnReturnsAt g f bytes true → FnReturnsAt g f bytes false → ⊥

-- bytes of which the function can answer that they stand before
abbrev pub StandsBefore : {F : Type 0} → Shared F (Bor (List ℕ) × Unit {0}) Bool → F → List ℕ → Type 0
StandsBefore g f bytes = FnReturnsAt g f bytes true
