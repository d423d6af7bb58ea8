-- Promise. Numbers that stand in a list once. Own.
use Rattle.std.specs.Prelude.{◌≡◌, ℕ, ◌<◌, ◌==◌, List, count_by}
use Rattle.std.specs.List.{AllByRecursion}

-- how often a number stands in a list
abbrev pub times : ℕ → List ℕ → ℕ
times number numbers = count_by (λ p. p == number) numbers

-- each number below n stands in the list once, and no other stands there
pub record HasEachBelow (n : ℕ) (numbers : List ℕ) : Type 0 where
  pub once : (p : ℕ) → p < n → times p numbers ≡ 1
  pub no_other : AllByRecursion (λ p. p < n) numbers
