-- Facts about the packet that holds a remainder.
use Rattle.std.proofs.Common.{◌≡◌, ℕ, ◌+◌, ◌-◌, ◌/◌, ◌%◌, ◌<◌, ◌≤◌, List, ◌++◌, length, take, drop, get_or, set, cond, ltb, eqb, replicate, refl, arith, ◌∙◌, ⊎_elim}
use Rattle.std.proofs.lemmas.Bool.{cases_lt}
use Rattle.std.proofs.lemmas.Bool.Decides.{nat_tests}
use Rattle.std.proofs.lemmas.List.{get_or-replicate, get_or_past, get_or_append_left, get_or-append_right, get_or-take, get_or-drop, length-take-le, length-append, length-drop, get_or-set_same, get_or-set_other, length-set, take_rest}
use borrow.Rule.Slice.PartMut.{put_mid}
use Rattle.std.proofs.lemmas.List.FromFn.{fill_by_all}
use Rattle.highway_hash.specs.HighwayHash.{remainder_byte, remainder_packet}

-- a packet of zeros
unfoldable pub zeros : List ℕ
zeros = replicate 32 0

-- its length
pub length-zeros : length zeros ≡ 32
unfolding zeros
length-zeros = refl

-- each of its bytes
pub zero_byte : (k : ℕ) → get_or zeros k 0 ≡ 0
unfolding zeros
zero_byte k = ⊎_elim (λ h. get_or-replicate 32 k 0 0 h) (λ h. get_or_past zeros k 0 h) (cases_lt k 32)

-- how many bytes of whole words a remainder begins with
abbrev pub words_len : List ℕ → ℕ
words_len r = length r - length r % 4

-- the packet after the whole words were written
unfoldable pub front : List ℕ → List ℕ
front r = take (words_len r) r ++ drop (words_len r) zeros

-- its length
pub length-front : (r : List ℕ) → length r < 32 → length (front r) ≡ 32
unfolding front
length-front r h = omega (arith, length-append (take (words_len r) r) (drop (words_len r) zeros), length-take-le (words_len r) r (omega arith), length-drop (words_len r) zeros, length-zeros)

-- its bytes are the words' bytes, and then zeros
pub front_word : (r : List ℕ) (k : ℕ) → k < words_len r → get_or (front r) k 0 ≡ get_or r k 0
unfolding front
front_word r k h =
    let len : length (take (words_len r) r) ≡ words_len r = length-take-le (words_len r) r (omega arith) in
    get_or_append_left (take (words_len r) r) (drop (words_len r) zeros) 0 k (omega arith) ∙ get_or-take (words_len r) r k 0 h

pub front_rest : (r : List ℕ) (k : ℕ) → words_len r ≤ k → get_or (front r) k 0 ≡ 0
unfolding front
front_rest r k h =
    let len : length (take (words_len r) r) ≡ words_len r = length-take-le (words_len r) r (omega arith) in
    get_or-append_right (take (words_len r) r) (drop (words_len r) zeros) (words_len r) k 0 len h ∙ get_or-drop (words_len r) zeros (k - words_len r) 0 ∙ zero_byte (words_len r + (k - words_len r))

-- the length of a packet after its last four bytes were written
pub length-put_mid : (xs ys : List ℕ) → length xs ≡ 32 → length ys ≡ 4 → length (put_mid 28 4 xs ys) ≡ 32
length-put_mid xs ys p q = omega (arith, length-append (take 28 xs) (ys ++ drop 4 (drop 28 xs)), length-append ys (drop 4 (drop 28 xs)), length-take-le 28 xs (omega arith), length-drop 4 (drop 28 xs), length-drop 28 xs)

-- each of its bytes
pub byte_after_end : (xs ys : List ℕ) (k : ℕ) → length xs ≡ 32 → length ys ≡ 4 → k < 32 → get_or (put_mid 28 4 xs ys) k 0 ≡ cond (ltb k 28) (get_or xs k 0) (get_or ys (k - 28) 0)
byte_after_end xs ys k p q h =
    let len : length (take 28 xs) ≡ 28 = length-take-le 28 xs (omega arith) in
    let before : k < 28 → get_or (put_mid 28 4 xs ys) k 0 ≡ get_or xs k 0 =
    λ l. get_or_append_left (take 28 xs) (ys ++ drop 4 (drop 28 xs)) 0 k (omega arith) ∙ get_or-take 28 xs k 0 l in
    let after : 28 ≤ k → get_or (put_mid 28 4 xs ys) k 0 ≡ get_or ys (k - 28) 0 =
    λ l. get_or-append_right (take 28 xs) (ys ++ drop 4 (drop 28 xs)) 28 k 0 len l ∙ get_or_append_left ys (drop 4 (drop 28 xs)) 0 (k - 28) (omega arith) in
    grind (arith, nat_tests, before, after)

-- each byte of a packet after one was written
pub byte_after_set : (xs : List ℕ) (i k y : ℕ) → i < length xs → get_or (set xs i y) k 0 ≡ cond (eqb k i) y (get_or xs k 0)
byte_after_set xs i k y h = grind (arith, nat_tests, get_or-set_same {A = ℕ}, get_or-set_other {A = ℕ})

-- each byte of the packet of 16 bytes or more
pub end_byte : (r : List ℕ) (k : ℕ) → 16 ≤ length r → length r < 32 → k < 32 → get_or (put_mid 28 4 (front r) (drop (length r - 4) r)) k 0 ≡ remainder_byte r k
end_byte r k p q h =
    let len : length (drop (length r - 4) r) ≡ 4 = omega (arith, length-drop (length r - 4) r) in
    let put = byte_after_end (front r) (drop (length r - 4) r) k (length-front r q) len h in
    let last = get_or-drop (length r - 4) r (k - 28) 0 in
    grind (arith, nat_tests, put, last, front_word r k, front_rest r k)

-- each byte of the packet of fewer than 16 bytes that are not whole words
pub tail_byte : (r : List ℕ) (k : ℕ) → length r < 16 → 0 < length r % 4 → get_or (set (set (set (front r) 16 (get_or r (words_len r) 0)) 17 (get_or r (words_len r + length r % 4 / 2) 0)) 18 (get_or r (length r - 1) 0)) k 0 ≡ remainder_byte r k
tail_byte r k p q =
    let x : ℕ = get_or r (words_len r) 0 in
    let y : ℕ = get_or r (words_len r + length r % 4 / 2) 0 in
    let z : ℕ = get_or r (length r - 1) 0 in
    let len : length (front r) ≡ 32 = length-front r (omega arith) in
    let first = byte_after_set (front r) 16 k x (omega arith) in
    let second = byte_after_set (set (front r) 16 x) 17 k y (omega (arith, length-set {A = ℕ})) in
    let third = byte_after_set (set (set (front r) 16 x) 17 y) 18 k z (omega (arith, length-set {A = ℕ})) in
    grind (arith, nat_tests, first, second, third, front_word r k, front_rest r k)

-- the packet of 16 bytes or more
pub end_packet : (r xs ys : List ℕ) → 16 ≤ length r → length r < 32 → xs ≡ take (words_len r) r → ys ≡ take (length r - (length r - 4)) (drop (length r - 4) r) → put_mid 28 4 (xs ++ drop (words_len r) (replicate 32 0)) ys ≡ remainder_packet r
unfolding remainder_packet zeros front
end_packet r xs ys p q e f =
    rw (e, f, take_rest) (fill_by_all (remainder_byte r) (put_mid 28 4 (front r) (drop (length r - 4) r)) 32 0 (length-put_mid (front r) _ (length-front r q) (omega (arith, length-drop (length r - 4) r))) (λ k h. end_byte r k p q h))

-- the packet of fewer than 16 bytes that are not whole words
pub tail_packet : (r xs : List ℕ) → length r < 16 → 0 < length r % 4 → xs ≡ take (words_len r) r → set (set (set (xs ++ drop (words_len r) (replicate 32 0)) 16 (get_or r (words_len r) 0)) 17 (get_or r (words_len r + length r % 4 / 2) 0)) 18 (get_or r (length r - 1) 0) ≡ remainder_packet r
unfolding remainder_packet zeros front
tail_packet r xs p q e =
    let len : length (front r) ≡ 32 = length-front r (omega arith) in
    rw e (fill_by_all (remainder_byte r) _ 32 0 (simp length-set len) (λ k h. tail_byte r k p q))
