-- What is known of bytes that are lent.
use Rattle.std.proofs.Common.{◌≡◌, ℕ, Option, Some, IfSome, List, subst, inl, inr, arith}
use Rattle.record_io.specs.Outside.{Rose}

-- what is said of shown bytes is so of those that are lent
pub shown : (P : List ℕ → Type 0) (file : List ℕ) (bytes : Option (List ℕ)) → bytes ≡ Some file → IfSome bytes P → P file
shown P file bytes is known = subst (λ (o : Option (List ℕ)). IfSome o P) is known

-- what has no fault never fails
pub never_rises : ¬ Rose 0 0
never_rises (inl rose) = omega (arith, rose)
never_rises (inr most) = omega (arith, most)
