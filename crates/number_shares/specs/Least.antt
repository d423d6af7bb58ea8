-- Inside. The least of some numbers. Own.
use Rattle.std.specs.Prelude.{◌≡◌, ℕ, ◌≤◌, Some, List, slice_get}
use Rattle.std.specs.List.{AllByRecursion}

-- the least of some numbers is this one
pub record IsLeast (n : ℕ) (numbers : List ℕ) : Type 0 where
  pub all : AllByRecursion (λ p. n ≤ p) numbers
  pub one : (k : ℕ) × (slice_get numbers k ≡ Some n)
