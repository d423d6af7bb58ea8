-- What is decided: that it holds, or that it doesn't.
use Rattle.std.proofs.Common.{◌≡◌, ◌⊎◌, ℕ, zero, suc, ◌<◌, ◌≤◌, List, subst, inl, inr, arith}
use Rattle.std.specs.Prelude.{bytes_eq}
use Rattle.std.proofs.lemmas.Bool.{cases_eq, cases_lt, cases_Bool}
use Rattle.std.proofs.lemmas.Bool.Decides.{not_from_Decides}
use Rattle.std.proofs.lemmas.Slice.Eq.{bytes_eq-Decides}

-- something that holds or doesn't
abbrev pub IsDecided : Type 0 → Type 0
IsDecided A = A ⊎ (¬ A)

-- so are two things, where each is
pub both : (A B : Type 0) → IsDecided A → IsDecided B → IsDecided (A × B)
both A B (inl a) (inl b) = inl (a, b)
both A B (inl a) (inr never) = inr (λ p. never p.1)
both A B (inr never) b = inr (λ p. never p.0)

-- and what follows from something and it from that
pub same_decided : (A B : Type 0) → (A → B) → (B → A) → IsDecided A → IsDecided B
same_decided A B to from (inl a) = inl (to a)
same_decided A B to from (inr never) = inr (λ b. never (from b))

pub less_decided : (a b : ℕ) → IsDecided (a < b)
less_decided a b = elim (cases_lt a b) [ inl less ↦ inl less | inr more ↦ inr (λ less. omega arith) ]

pub at_most_decided : (a b : ℕ) → IsDecided (a ≤ b)
at_most_decided a b = elim (cases_lt b a) [ inl more ↦ inr (λ at_most. omega arith) | inr at_most ↦ inl at_most ]

pub equal_decided : (a b : ℕ) → IsDecided (a ≡ b)
equal_decided a b = elim (cases_eq a b) [ inl same ↦ inl same | inr differ ↦ inr differ ]

-- whether something holds of each number below another, and of some
pub each_below_decided : (P : ℕ → Type 0) → ((i : ℕ) → IsDecided (P i)) → (n : ℕ) → IsDecided ((i : ℕ) → i < n → P i)
each_below_decided P at zero = inl (λ i h. absurd (omega arith))
each_below_decided P at (suc n) =
    elim (each_below_decided P at n) [
      | inl below ↦ elim (at n) [
        | inl here ↦ inl (λ i h. elim (cases_lt i n) [
          | inl less ↦ below i less
          | inr last ↦ let same : n ≡ i = omega arith in subst P same here
        ])
        | inr never ↦ inr (λ all. never (all n (omega arith)))
      ]
      | inr never ↦ inr (λ all. never (λ i h. all i (omega arith)))
    ]

pub some_below_decided : (P : ℕ → Type 0) → ((i : ℕ) → IsDecided (P i)) → (n : ℕ) → IsDecided ((i : ℕ) × (i < n) × P i)
some_below_decided P at zero = inr (λ some. let h : some.0 < 0 = some.1 in omega arith)
some_below_decided P at (suc n) =
    elim (some_below_decided P at n) [
      | inl some ↦ inl (some.0, omega (arith, some.1), some.2)
      | inr none ↦ elim (at n) [
        | inl here ↦ inl (n, omega arith, here)
        | inr never ↦ inr (λ some. elim (cases_lt some.0 n) [
          | inl less ↦ none (some.0, less, some.2)
          | inr last ↦ let same : some.0 ≡ n = omega (arith, some.1) in never (subst P same some.2)
        ])
      ]
    ]

pub lists_decided : (xs ys : List ℕ) → IsDecided (xs ≡ ys)
lists_decided xs ys =
    elim (cases_Bool (bytes_eq xs ys)) [
      | inl same ↦ inl ((bytes_eq-Decides xs ys).0 same)
      | inr differ ↦ inr (not_from_Decides (bytes_eq xs ys) (bytes_eq-Decides xs ys) differ)
    ]

pub not_decided : (A : Type 0) → IsDecided A → IsDecided (¬ A)
not_decided A (inl a) = inr (λ none. none a)
not_decided A (inr never) = inl never

-- what is decided and isn't false is true
pub true_where_not_false : (A : Type 0) → IsDecided A → ¬ ¬ A → A
true_where_not_false A (inl a) h = a
true_where_not_false A (inr never) h = absurd (h never)
