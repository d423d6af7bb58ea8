-- What a place in a buffer says of the range of it that counts.
use Rattle.std.proofs.Common.{◌≡◌, ◌∙◌, ℕ, ◌+◌, ◌-◌, ◌<◌, ◌≤◌, List, ◌∷◌, ◌++◌, take, drop, length, length-drop, slice_index, slice_range, sym, ap, subst, arith}
use Rattle.std.proofs.lemmas.Bool.{eqb-true, eq-eqb}
use Rattle.std.proofs.lemmas.List.{drop-drop, drop-take, drop_more, get_or-drop, get_or-take, length-take-le, take-append-drop}
use Rattle.std.proofs.Math.Seq.{get_or-append_seam}
use Rattle.write_command.specs.LineEnds.{NoEnds, IsFirstEnd}
use Rattle.command_frame.specs.OpenLines.{NoneEnds}
use Rattle.write_command.specs.LineFeeds.{LineEndsAt}

pub slice_range-length : (bytes : List ℕ) (from to : ℕ) → from ≤ to → to ≤ length bytes → length (slice_range bytes from to) ≡ to - from
slice_range-length bytes from to ordered within =
    length-take-le (to - from) (drop from bytes) (omega (arith, length-drop from bytes))

pub slice_range-at : (bytes : List ℕ) (from to k : ℕ) → k < to - from → slice_index (slice_range bytes from to) k ≡ slice_index bytes (from + k)
slice_range-at bytes from to k within = get_or-take (to - from) (drop from bytes) k 0 within ∙ get_or-drop from bytes k 0

-- a range of which the front is dropped is the range behind that front
pub slice_range-drop : (n : ℕ) (xs : List ℕ) (begin end : ℕ) → begin + n ≤ end
    → slice_range xs (begin + n) end ≡ drop n (slice_range xs begin end)
slice_range-drop n xs begin end within =
    let size : end - begin ≡ n + (end - (begin + n)) = omega arith in
    sym (ap (λ (m : ℕ). drop n (take m (drop begin xs))) size
    ∙ drop-take n (end - (begin + n)) (drop begin xs)
    ∙ ap (λ (l : List ℕ). take (end - (begin + n)) l) (drop-drop n begin xs))

-- no byte of the range ends a line
pub NoneEnds-range : (bytes : List ℕ) (from to : ℕ) → from ≤ to → to ≤ length bytes → NoEnds bytes from to → NoneEnds (slice_range bytes from to)
NoneEnds-range bytes from to ordered within none k inside ends =
    let size = slice_range-length bytes from to ordered within in
    let small : k < to - from = omega arith in
    none (from + k) (omega arith) (omega arith) (sym (slice_range-at bytes from to k small) ∙ eqb-true _ 10 ends)

-- the first end of the range
pub LineEndsAt-range : (bytes : List ℕ) (from to n : ℕ) → from ≤ to → to ≤ length bytes → IsFirstEnd bytes from to (from + n)
    → LineEndsAt (slice_range bytes from to) n
LineEndsAt-range bytes from to n ordered within first =
    let range : List ℕ = slice_range bytes from to in
    let size : length range ≡ to - from = slice_range-length bytes from to ordered within in
    let inside : n < length range = omega (arith, first.high) in
    let here : slice_index range n ≡ 10 = slice_range-at bytes from to n (omega arith) ∙ first.here in
    let none : NoneEnds (take n range) = (λ k small ends.
    let low : k < n = omega (arith, length-take-le n range (omega arith)) in
    first.none (from + k) (omega arith) (omega arith)
    (sym (slice_range-at bytes from to k (omega arith)) ∙ sym (get_or-take n range k 0 low) ∙ eqb-true _ 10 ends)) in
    (inside, none, sym (take-append-drop n range) ∙ ap (λ (l : List ℕ). take n range ++ l) (drop_more range n 0 inside ∙ ap (λ b. b ∷ drop (n + 1) range) here))

-- the item between a front and what is behind it
at-seam : (xs : List ℕ) (n : ℕ) → n < length xs → xs ≡ take n xs ++ 10 ∷ drop (n + 1) xs → slice_index xs n ≡ 10
at-seam xs n inside parts =
    let front : List ℕ = take n xs in
    let count : length front ≡ n = length-take-le n xs (omega arith) in
    ap (λ (l : List ℕ). slice_index l n) parts
    ∙ ap (λ m. slice_index (front ++ 10 ∷ drop (n + 1) xs) m) (sym count)
    ∙ get_or-append_seam front 10 (drop (n + 1) xs) 0

-- and back
IsFirstEnd-range : (bytes : List ℕ) (from to n : ℕ) → from ≤ to → to ≤ length bytes → LineEndsAt (slice_range bytes from to) n
    → IsFirstEnd bytes from to (from + n)
IsFirstEnd-range bytes from to n ordered within ends =
    let range : List ℕ = slice_range bytes from to in
    let size : length range ≡ to - from = slice_range-length bytes from to ordered within in
    record {
      low = omega arith;
      high = omega (arith, ends.0);
      none = λ p low high is.
          let k : p ≡ from + (p - from) = omega arith in
          let small : p - from < n = omega arith in
          let count : length (take n range) ≡ n = length-take-le n range (omega (arith, ends.0)) in
          let same : slice_index (take n range) (p - from) ≡ slice_index bytes (from + (p - from)) = get_or-take n range (p - from) 0 small ∙ slice_range-at bytes from to (p - from) (omega (arith, ends.0)) in
          ends.1 (p - from) (omega arith) (eq-eqb _ 10 (same ∙ ap (slice_index bytes) (sym k) ∙ is));
      here = sym (slice_range-at bytes from to n (omega (arith, ends.0))) ∙ at-seam range n (omega (arith, ends.0)) ends.2;
    }

-- where that range is what is held
pub IsFirstEnd-held : (bytes held : List ℕ) (from to n : ℕ) → from ≤ to → to ≤ length bytes → slice_range bytes from to ≡ held → LineEndsAt held n
    → IsFirstEnd bytes from to (from + n)
IsFirstEnd-held bytes held from to n ordered within is ends =
    IsFirstEnd-range bytes from to n ordered within (subst (λ (l : List ℕ). LineEndsAt l n) (sym is) ends)
