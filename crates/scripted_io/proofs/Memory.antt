-- Lemmas on what the outside in memory gives and takes.
use Rattle.std.proofs.Common.{◌≡◌, ◌↔◌, ℕ, ◌+◌, ◌-◌, ◌<◌, ◌≤◌, min, Some, List, [], ◌∷◌, ◌++◌, length, take, drop, sym, ◌∙◌, refl, ap, arith, length-drop}
use Rattle.std.proofs.lemmas.List.{length-take-le, drop-drop, take-append-drop, take_rest}
use Rattle.record_io.specs.Outside.{Gives}
use Rattle.scripted_io.specs.Memory.{cut_to}

-- a cut call handles no more than it could
pub cut_to-le : (cuts : List ℕ) (number most : ℕ) → cut_to cuts number most ≤ most
cut_to-le [] number most = omega arith
cut_to-le (cut ∷ cuts) number most = omega arith

-- a cut call handles something where it could
pub cut_to-some : (cuts : List ℕ) (number most : ℕ) → 0 < most → 0 < cut_to cuts number most
cut_to-some [] number most some = some
cut_to-some (cut ∷ cuts) number most some = omega arith

-- a cut call on so many bytes handles none exactly where there are none
pub cut_to-none : (cuts : List ℕ) (number room : ℕ) (left : List ℕ) (n : ℕ) → 0 < room → n ≡ cut_to cuts number (min room (length left))
    → (n ≡ 0) ↔ (left ≡ [])
cut_to-none cuts number room [] n some is = (λ none. refl, λ end. omega (arith, is, cut_to-le cuts number (min room 0)))
cut_to-none cuts number room (x ∷ left) n some is = (
  λ none. absurd (omega (arith, is, none, cut_to-some cuts number (min room (length (x ∷ left))) (omega (arith, some)))),
  λ end. absurd (cc end),
)

-- a source gives a front of what is left, and the rest is left after it
pub Gives-front : (left : List ℕ) (n : ℕ) (front : List ℕ) → front ≡ take n left → n ≤ length left
    → Gives (Some left) (Some (drop n left)) front
Gives-front left n front is fits =
    let size : length front ≡ n = (rw is (length-take-le n left fits)) in
    let all : take n left ++ drop n left ≡ left = take-append-drop n left in
    rw (size, is) (sym all, refl)

-- a source that gives a front of its bytes from its place on, and the rest is left after it
pub Gives-from_place : (bytes front : List ℕ) (at n : ℕ) → n ≤ length bytes - at
    → front ≡ take n (take (length bytes - at) (drop at bytes))
    → Gives (Some (drop at bytes)) (Some (drop (at + n) bytes)) front
Gives-from_place bytes front at n fits is =
    let left : take (length bytes - at) (drop at bytes) ≡ drop at bytes = take_rest bytes at in
    let within : n ≤ length (drop at bytes) = omega (arith, length-drop {A = ℕ}) in
    let after : drop (at + n) bytes ≡ drop n (drop at bytes) = sym (drop-drop n at bytes) in
    rw after (Gives-front (drop at bytes) n front (is ∙ ap (take n) left) within)
