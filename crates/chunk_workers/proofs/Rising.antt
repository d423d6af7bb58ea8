-- How far numbers have come that rise.
use Rattle.std.proofs.Common.{◌≡◌, ℕ, ◌+◌, ◌<◌, ◌≤◌, List, [], ◌∷◌, ◌++◌, max, arith}
use Rattle.std.specs.List.{AllByRecursion}

-- the least number above all of them
abbrev pub bound_of : List ℕ → ℕ
bound_of [] = 0
bound_of (x ∷ xs) = max (x + 1) (bound_of xs)

-- it is at most one that is above all of them, and one more where that one comes behind them
pub bound_of-le : (m : ℕ) (xs : List ℕ) → AllByRecursion (λ p. p < m) xs → bound_of xs ≤ m
bound_of-le m [] all = omega arith
bound_of-le m (x ∷ xs) all = omega (arith, all.0, bound_of-le m xs all.1)

pub bound_of-push : (m : ℕ) (xs : List ℕ) → AllByRecursion (λ p. p < m) xs → bound_of (xs ++ m ∷ []) ≡ m + 1
bound_of-push m [] all = omega arith
bound_of-push m (x ∷ xs) all = omega (arith, all.0, bound_of-push m xs all.1)
