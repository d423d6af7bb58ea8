-- The hexadecimal digits of bytes, piece by piece.
use Rattle.std.proofs.Common.{◌≡◌, ◌∙◌, ℕ, ◌+◌, ◌-◌, ◌/◌, ◌%◌, Option, List, [], ◌∷◌, ◌++◌, take, drop, slice_index, slice_range, refl, sym, ap, subst, arith}
use Rattle.std.proofs.Math.Seq.{take-add}
use Rattle.std.proofs.lemmas.List.{take-append-drop}
use Rattle.hex.specs.Hex.{encode_with, encode_lower, lower_digits}
use Rattle.record_io.specs.Outside.{TakesShort}
use Rattle.record_io.specs.Buffers.{TakesAndHolds}
use Rattle.record_io.proofs.Buffered.{TakesAndHolds-append, TakesAndHolds-none, TakesShort-behind, TakesShort-held_longer}

encode_with-append : (t xs ys : List ℕ) → encode_with t (xs ++ ys) ≡ encode_with t xs ++ encode_with t ys
unfolding encode_with
encode_with-append t [] ys = refl
encode_with-append t (x ∷ xs) ys = ap (λ (zs : List ℕ). slice_index t (x / 16) ∷ slice_index t (x % 16) ∷ zs) (encode_with-append t xs ys)

-- the digits of a piece more
digits-next : (bytes : List ℕ) (at count : ℕ) → encode_lower (take (at + count) bytes) ≡ encode_lower (take at bytes) ++ encode_lower (slice_range bytes at (at + count))
digits-next bytes at count =
    let size : at + count - at ≡ count = omega arith in
    ap encode_lower (take-add at count bytes)
    ∙ encode_with-append lower_digits (take at bytes) (take count (drop at bytes))
    ∙ ap (λ (n : ℕ). encode_lower (take at bytes) ++ encode_lower (take n (drop at bytes))) (sym size)

-- the first of them are a front of all
digits-front : (bytes : List ℕ) (n : ℕ) → encode_lower bytes ≡ encode_lower (take n bytes) ++ encode_lower (drop n bytes)
digits-front bytes n = ap encode_lower (sym (take-append-drop n bytes)) ∙ encode_with-append lower_digits (take n bytes) (drop n bytes)

-- none were put yet
pub digits-begun : (a : Option (List ℕ)) (held : List ℕ) → TakesAndHolds a a (held ++ encode_lower []) held
unfolding encode_with
digits-begun a held = TakesAndHolds-none a held

-- a piece more was put
module _ (a b c : Option (List ℕ)) (before held bytes : List ℕ) (at count : ℕ) (first : TakesAndHolds a b (before ++ encode_lower (take at bytes)) held) where
  abbrev Piece : List ℕ
  Piece = encode_lower (slice_range bytes at (at + count))

  pub digits-put : (then : List ℕ) → TakesAndHolds b c (held ++ Piece) then → TakesAndHolds a c (before ++ encode_lower (take (at + count) bytes)) then
  digits-put then next =
      subst (λ (xs : List ℕ). TakesAndHolds a c (before ++ xs) then) (sym (digits-next bytes at count))
      (TakesAndHolds-append a b c before held then (encode_lower (take at bytes)) Piece first next)

  -- or it failed
  pub digits-failed : TakesShort b c (held ++ Piece) → TakesShort a c (before ++ encode_lower bytes)
  digits-failed next =
      subst (λ (xs : List ℕ). TakesShort a c (before ++ xs)) (sym (digits-front bytes (at + count)))
      (TakesShort-held_longer a c before (encode_lower (take (at + count) bytes)) (encode_lower (drop (at + count) bytes))
      (subst (λ (xs : List ℕ). TakesShort a c (before ++ xs)) (sym (digits-next bytes at count))
      (TakesShort-behind a b c before held (encode_lower (take at bytes)) Piece first next)))
