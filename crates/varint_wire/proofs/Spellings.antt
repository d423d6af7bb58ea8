-- Facts of spellings: their value, that none begins another, and the shortest one.
use Rattle.std.proofs.Common.{◌≡◌, ℕ, zero, suc, ◌+◌, ◌-◌, ◌*◌, ◌/◌, ◌%◌, ◌^◌, ◌<◌, ◌≤◌, List, [], ◌∷◌, ◌++◌, length, take, get_or, refl, arith, sym, ap, ◌∙◌, ⊎_elim, subst}
use Rattle.std.proofs.Math.Nat.{pow-succ'}
use Rattle.std.proofs.lemmas.Bool.{cases_lt}
use Rattle.std.proofs.lemmas.Bool.Decides.{nat_tests}
use Rattle.std.proofs.lemmas.List.{get_or_append_left, take_at, get_or_past}
use Rattle.varint_wire.specs.Varint.{spelled_value, Spells, shortest_within, shortest}
use Rattle.varint_wire.specs.ShortestSpellings.{IsShortest}

-- the value of n bytes is below 128 ^ n
pub spelled_value-lt : (bytes : List ℕ) → spelled_value bytes < 128 ^ length bytes
spelled_value-lt [] = omega arith
spelled_value-lt (b ∷ bs) = rw pow-succ' (omega (arith, spelled_value-lt bs))

-- one more byte at the end adds its seven bits above the others
pub spelled_value-push : (bytes : List ℕ) (b : ℕ) → spelled_value (bytes ++ b ∷ []) ≡ spelled_value bytes + b % 128 * 128 ^ length bytes
spelled_value-push [] b = omega arith
spelled_value-push (x ∷ xs) b = rw (pow-succ', spelled_value-push xs b) (grind arith)

-- one group less leaves one power of 128 less
pub div-lt-pow : (v m : ℕ) → v < 128 ^ suc m → v / 128 < 128 ^ m
div-lt-pow v m h = let e = pow-succ' 128 m in omega arith

-- a spelling isn't longer than another that begins the same bytes
spelling_le : (v w : ℕ) (a b x y : List ℕ) → Spells v a → Spells w b → a ++ x ≡ b ++ y → length b ≤ length a
spelling_le v w a b x y s t e =
    ⊎_elim (λ h. absurd
    (let inside : length a - 1 + 1 < length b = omega (arith, s.some) in
    let high = (t.continued (length a - 1) inside).0 in
    let low = s.ended in
    let left = get_or_append_left a x 0 (length a - 1) (omega (arith, s.some)) in
    let right = get_or_append_left b y 0 (length a - 1) (omega (arith, s.some)) in
    let same = ap (λ z. get_or z (length a - 1) 0) e in
    omega arith))
    (λ h. h) (cases_lt (length a) (length b))

-- no spelling begins another: whatever follows, bytes begin with one spelling at most
pub spelling_is_one : (v w : ℕ) (a b x y : List ℕ) → Spells v a → Spells w b → a ++ x ≡ b ++ y → (a ≡ b) × (v ≡ w)
spelling_is_one v w a b x y s t e =
    let long = spelling_le v w a b x y s t e in
    let short = spelling_le w v b a y x t s (sym e) in
    let same : length a ≡ length b = omega arith in
    let whole : a ≡ b = sym (take_at a x (length a) refl) ∙ ap (take (length a)) e ∙ take_at b y (length a) (sym same) in
    (whole, sym s.value_is ∙ ap spelled_value whole ∙ t.value_is)

-- each byte of a spelling is below 256
pub Spells-lt : (v : ℕ) (bytes : List ℕ) → Spells v bytes → (i : ℕ) → get_or bytes i 0 < 256
Spells-lt v bytes s i =
    ⊎_elim (λ (h : i + 1 < length bytes). (s.continued i h).1)
    (λ (h : length bytes ≤ i + 1). ⊎_elim
    (λ (k : i < length bytes). let last : i ≡ length bytes - 1 = omega arith in rw last (omega (arith, s.ended)))
    (λ (k : length bytes ≤ i). let past = get_or_past bytes i 0 k in omega arith) (cases_lt i (length bytes)))
    (cases_lt (i + 1) (length bytes))

-- a byte in front changes neither the last byte nor what holds of all but the last
ended_more : (b : ℕ) (bytes : List ℕ) → 0 < length bytes → get_or bytes (length bytes - 1) 0 < 128 → get_or (b ∷ bytes) (length (b ∷ bytes) - 1) 0 < 128
ended_more b [] p h = absurd (omega arith)
ended_more b (x ∷ xs) p h = let place : length (b ∷ x ∷ xs) - 1 ≡ suc (length (x ∷ xs) - 1) = omega arith in rw place h

continued_more : (b : ℕ) (bytes : List ℕ) → 128 ≤ b → b < 256 → ((i : ℕ) → i + 1 < length bytes → (128 ≤ get_or bytes i 0) × (get_or bytes i 0 < 256)) → (i : ℕ) → i + 1 < length (b ∷ bytes) → (128 ≤ get_or (b ∷ bytes) i 0) × (get_or (b ∷ bytes) i 0 < 256)
continued_more b bytes low high each zero h = (low, high)
continued_more b bytes low high each (suc i) h = each i (omega arith)

-- each number below 128 is spelled by itself
pub Spells-small : (v : ℕ) → v < 128 → Spells v (v ∷ [])
Spells-small v small = record {
  some = omega arith;
  at_most_ten = omega arith;
  continued = λ i h. let past : i + 1 < 1 = h in absurd (omega arith);
  ended = small;
  value_is = omega arith;
  fits = omega arith;
}

-- the shortest spelling has a byte
length-shortest_within-pos : (n v : ℕ) → 0 < length (shortest_within n v)
length-shortest_within-pos zero v = omega arith
length-shortest_within-pos (suc n) v = grind (arith, nat_tests)

-- a value below 128 is its own shortest spelling
pub shortest_within-small : (n v : ℕ) → v < 128 → shortest_within n v ≡ v ∷ []
shortest_within-small zero v h = refl
shortest_within-small (suc n) v h = grind (arith, nat_tests)

-- another begins with its lowest group
pub shortest_within-large : (n v : ℕ) → 128 ≤ v → shortest_within (suc n) v ≡ (v % 128 + 128) ∷ shortest_within n (v / 128)
shortest_within-large n v h = grind (arith, nat_tests)

-- what holds of both forms of the shortest spelling holds of it
shortest_within-cases : (P : List ℕ → Type 0) (n v : ℕ) → (v < 128 → P (v ∷ [])) → (128 ≤ v → P ((v % 128 + 128) ∷ shortest_within n (v / 128))) → P (shortest_within (suc n) v)
shortest_within-cases P n v small large =
    ⊎_elim (λ h. subst P (sym (shortest_within-small (suc n) v h)) (small h))
    (λ h. subst P (sym (shortest_within-large n v h)) (large h)) (cases_lt v 128)

-- it has at most one byte more than n
length-shortest_within-at_most : (n v : ℕ) → length (shortest_within n v) ≤ n + 1
length-shortest_within-at_most zero v = omega arith
length-shortest_within-at_most (suc n) v =
    shortest_within-cases (λ bytes. length bytes ≤ suc n + 1) n v (λ h. omega arith)
    (λ h. omega (arith, length-shortest_within-at_most n (v / 128)))

-- a value below 128 ^ m takes at most m bytes
length-shortest_within-le : (n v m : ℕ) → v < 128 ^ m → 0 < m → length (shortest_within n v) ≤ m
length-shortest_within-le zero v m h p = omega arith
length-shortest_within-le (suc n) v zero h p = omega arith
length-shortest_within-le (suc n) v (suc zero) h p =
    shortest_within-cases (λ bytes. length bytes ≤ 1) n v (λ _. omega arith) (λ k. absurd (omega arith))
length-shortest_within-le (suc n) v (suc (suc m)) h p =
    shortest_within-cases (λ bytes. length bytes ≤ suc (suc m)) n v (λ _. omega arith)
    (λ _. let rest = length-shortest_within-le n (v / 128) (suc m) (div-lt-pow v (suc m) h) (omega arith) in omega arith)

-- its value is the value that it spells
spelled_value-shortest_within : (n v : ℕ) → v < 128 ^ suc n → spelled_value (shortest_within n v) ≡ v
spelled_value-shortest_within zero v h = let small : v < 128 = omega arith in omega arith
spelled_value-shortest_within (suc n) v h =
    shortest_within-cases (λ bytes. spelled_value bytes ≡ v) n v (λ k. omega arith)
    (λ k. let rest = spelled_value-shortest_within n (v / 128) (div-lt-pow v (suc n) h) in omega arith)

-- its last byte is below 128
shortest_within-ended : (n v : ℕ) → v < 128 ^ suc n → get_or (shortest_within n v) (length (shortest_within n v) - 1) 0 < 128
shortest_within-ended zero v h = omega arith
shortest_within-ended (suc n) v h =
    shortest_within-cases (λ bytes. get_or bytes (length bytes - 1) 0 < 128) n v (λ k. k)
    (λ k. ended_more (v % 128 + 128) (shortest_within n (v / 128)) (length-shortest_within-pos n (v / 128))
    (shortest_within-ended n (v / 128) (div-lt-pow v (suc n) h)))

-- all bytes but its last are from 128 to 255
shortest_within-continued : (n v i : ℕ) → i + 1 < length (shortest_within n v) → (128 ≤ get_or (shortest_within n v) i 0) × (get_or (shortest_within n v) i 0 < 256)
shortest_within-continued zero v i = λ h. absurd (omega arith)
shortest_within-continued (suc n) v i =
    shortest_within-cases (λ bytes. i + 1 < length bytes → (128 ≤ get_or bytes i 0) × (get_or bytes i 0 < 256)) n v
    (λ _ h. absurd (omega arith))
    (λ _ h. continued_more (v % 128 + 128) (shortest_within n (v / 128)) (omega arith) (omega arith)
    (shortest_within-continued n (v / 128)) i h)

-- the shortest spelling is a spelling
pub Spells-shortest : (v : ℕ) → v < 2 ^ 64 → Spells v (shortest v)
unfolding shortest
Spells-shortest v h =
    let room : v < 128 ^ 10 = omega arith in
    record {
      some = length-shortest_within-pos 9 v;
      at_most_ten = length-shortest_within-at_most 9 v;
      continued = shortest_within-continued 9 v;
      ended = shortest_within-ended 9 v room;
      value_is = spelled_value-shortest_within 9 v room;
      fits = h;
    }

-- a value below 128 ^ n has a shortest spelling of at most n bytes
pub length-shortest-le : (v n : ℕ) → v < 128 ^ n → 0 < n → length (shortest v) ≤ n
unfolding shortest
length-shortest-le v n h p = length-shortest_within-le 9 v n h p

-- the shortest spelling has from 1 to 10 bytes
pub length-shortest : (v : ℕ) → (0 < length (shortest v)) × (length (shortest v) ≤ 10)
unfolding shortest
length-shortest v = (length-shortest_within-pos 9 v, length-shortest_within-at_most 9 v)

-- no spelling is shorter than the shortest
pub IsShortest-shortest : (v : ℕ) → v < 2 ^ 64 → IsShortest v (shortest v)
IsShortest-shortest v h = record {
  spells = Spells-shortest v h;
  least = λ others s. length-shortest-le v (length others) (let bound = spelled_value-lt others in let e = s.value_is in omega arith) s.some;
}

-- each byte of the shortest spelling is below 256
pub shortest-lt : (v : ℕ) → v < 2 ^ 64 → (i : ℕ) → get_or (shortest v) i 0 < 256
shortest-lt v h i = Spells-lt v (shortest v) (Spells-shortest v h) i
