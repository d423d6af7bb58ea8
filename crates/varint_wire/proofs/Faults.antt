-- Where bytes are cut or too long, they begin with no spelling.
use Rattle.std.proofs.Common.{◌≡◌, ℕ, ◌-◌, ◌*◌, ◌%◌, ◌^◌, ◌<◌, ◌≤◌, List, [], ◌∷◌, ◌++◌, length, take, get_or, arith, ap, ◌∙◌, inl, inr, ⊎_elim}
use Rattle.std.proofs.lemmas.Bool.{cases_lt}
use Rattle.std.proofs.lemmas.List.{length-append, length-take-le, get_or_append_left, get_or-take, take_more, take_at, take-append-le}
use Rattle.varint_wire.specs.Varint.{spelled_value, Spells}
use Rattle.varint_wire.specs.Reading.{AllContinue, IsCut, IsTooLarge, IsLong}
use Rattle.varint_wire.proofs.Spellings.{spelled_value-push}

-- the last byte of a spelling stands in the bytes that begin with it, and is below 128
last_of_front : (v : ℕ) (bytes front rest : List ℕ) → Spells v front → bytes ≡ front ++ rest → get_or bytes (length front - 1) 0 < 128
last_of_front v bytes front rest s e =
    let left = get_or_append_left front rest 0 (length front - 1) (omega (arith, s.some)) in
    let same = ap (λ z. get_or z (length front - 1) 0) e in
    omega (arith, s.ended)

-- bytes that are cut begin with no spelling
pub cut_has_no_spelling : (v : ℕ) (bytes front rest : List ℕ) → IsCut bytes → Spells v front → bytes ≡ front ++ rest → ⊥
cut_has_no_spelling v bytes front rest h s e =
    let last = last_of_front v bytes front rest s e in
    let whole = ap length e ∙ length-append front rest in
    let high = h.1 (length front - 1) (omega (arith, s.some)) in
    omega arith

-- bytes that are too long begin with no spelling
pub long_has_no_spelling : (v : ℕ) (bytes front rest : List ℕ) → IsLong bytes → Spells v front → bytes ≡ front ++ rest → ⊥
long_has_no_spelling v bytes front rest h s e =
    let last = last_of_front v bytes front rest s e in
    ⊎_elim (λ (k : AllContinue (take 10 bytes)).
    let few = length-take-le 10 bytes h.0 in
    let high = k (length front - 1) (omega (arith, s.some, s.at_most_ten)) in
    let same = get_or-take 10 bytes (length front - 1) 0 (omega (arith, s.some, s.at_most_ten)) in
    omega arith)
    (λ (k : IsTooLarge bytes).
    ⊎_elim (λ (short : length front - 1 < 9).
    let few = length-take-le 9 bytes (omega (arith, h.0)) in
    let high = k.0 (length front - 1) (omega arith) in
    let same = get_or-take 9 bytes (length front - 1) 0 short in
    omega arith)
    (λ (long : 9 ≤ length front - 1).
    let ten : length front ≡ 10 = omega (arith, s.at_most_ten) in
    let front_is : take 10 bytes ≡ front = ap (take 10) e ∙ take_at front rest 10 ten in
    let value = ap spelled_value front_is ∙ s.value_is in
    omega (arith, k.2, s.fits))
    (cases_lt (length front - 1) 9))
    h.1

-- bytes whose first nine are at least 128 and whose tenth has no room are too long
IsLong-from_tenth : (bytes : List ℕ) → 9 < length bytes → ((i : ℕ) → i < 9 → 128 ≤ get_or bytes i 0) → 1 < get_or bytes 9 0 → IsLong bytes
IsLong-from_tenth bytes many high room =
    let nine = length-take-le 9 bytes (omega arith) in
    let ten = length-take-le 10 bytes (omega arith) in (
      omega arith,
      ⊎_elim
          (λ (low : get_or bytes 9 0 < 128).
          let front : take 10 bytes ≡ take 9 bytes ++ get_or bytes 9 0 ∷ [] = take_more bytes 9 0 many in
          let value = ap spelled_value front ∙ spelled_value-push (take 9 bytes) (get_or bytes 9 0) in
          let power : 128 ^ length (take 9 bytes) ≡ 2 ^ 63 = ap (λ n. 128 ^ n) nine in
          let product : get_or bytes 9 0 % 128 * 128 ^ length (take 9 bytes) ≡ get_or bytes 9 0 * 2 ^ 63 = rw power (omega arith) in
          inr ((λ i h. let same = get_or-take 9 bytes i 0 (omega arith) in omega (arith, high i (omega arith))), low, omega arith))
          (λ (last : 128 ≤ get_or bytes 9 0).
          inl (λ i h. let same = get_or-take 10 bytes i 0 (omega arith) in
          ⊎_elim (λ (k : i < 9). omega (arith, high i k))
          (λ (k : 9 ≤ i). let place : i ≡ 9 = omega arith in rw (same, place) last) (cases_lt i 9)))
          (cases_lt (get_or bytes 9 0) 128),
    )

-- the same, where the place is known to be the tenth
pub IsLong-at : (bytes : List ℕ) (at : ℕ) → at ≡ 9 → at < length bytes → ((i : ℕ) → i < at → 128 ≤ get_or bytes i 0) → 1 < get_or bytes at 0 → IsLong bytes
IsLong-at bytes at nine many high room =
    IsLong-from_tenth bytes (omega arith) (λ i h. high i (omega arith)) (rw nine at room)

-- bytes that are too long are so whatever follows
IsLong-append : (bytes more : List ℕ) → IsLong bytes → IsLong (bytes ++ more)
IsLong-append bytes more h =
    let ten : take 10 (bytes ++ more) ≡ take 10 bytes = take-append-le 10 bytes more h.0 in
    let nine : take 9 (bytes ++ more) ≡ take 9 bytes = take-append-le 9 bytes more (omega (arith, h.0)) in
    let tenth : get_or (bytes ++ more) 9 0 ≡ get_or bytes 9 0 = get_or_append_left bytes more 0 9 (omega (arith, h.0)) in
    (omega (arith, h.0, length-append bytes more), rw (ten, nine, tenth) h.1)

-- so no spelling begins them
pub long_begins_none : (v : ℕ) (bytes more front rest : List ℕ) → IsLong bytes → Spells v front → bytes ++ more ≡ front ++ rest → ⊥
long_begins_none v bytes more front rest h s e = long_has_no_spelling v (bytes ++ more) front rest (IsLong-append bytes more h) s e
