-- Facts of the bytes that a feed holds.
use Rattle.std.proofs.Common.{◌≡◌, ℕ, zero, suc, ◌+◌, ◌*◌, ◌/◌, ◌%◌, ◌^◌, ◌<◌, ◌≤◌, List, [], ◌∷◌, ◌++◌, length, take, get_or, refl, arith, sym, ap, ◌∙◌, subst, ⊎_elim}
use Rattle.std.specs.Prelude.{◌↔◌}
use Rattle.std.proofs.lemmas.Bool.{cases_lt}
use Rattle.std.proofs.lemmas.List.{length_push, get_or_push, get_or_append_left, get_or_past, take_all}
use Rattle.std.proofs.Math.Nat.{pow-succ'}
use Rattle.varint_wire.specs.Varint.{spelled_value, Spells}
use Rattle.varint_wire.specs.Reading.{IsCut, IsLong}
use Rattle.varint_wire.specs.Held.{held_bytes}
use Rattle.varint_wire.proofs.Faults.{IsLong-at}
use Rattle.varint_wire.proofs.Spellings.{spelled_value-push}
use Rattle.varint_wire.proofs.Steps.{Spells-at}

-- they are as many as there are groups
pub length-held_bytes : (n groups : ℕ) → length (held_bytes n groups) ≡ n
unfolding held_bytes
length-held_bytes zero groups = refl
length-held_bytes (suc n) groups = ap suc (length-held_bytes n (groups / 128))

-- each is from 128 to 255
pub held_bytes-high : (n groups i : ℕ) → i < n → (128 ≤ get_or (held_bytes n groups) i 0) × (get_or (held_bytes n groups) i 0 < 256)
unfolding held_bytes
held_bytes-high zero groups i h = absurd (omega arith)
held_bytes-high (suc n) groups zero h = (omega arith, omega arith)
held_bytes-high (suc n) groups (suc i) h = held_bytes-high n (groups / 128) i (omega arith)

-- so they begin a varint that has more bytes
pub IsCut-held_bytes : (n groups : ℕ) (held : List ℕ) → held_bytes n groups ≡ held → n ≤ 9 → IsCut held
IsCut-held_bytes n groups held is few =
    subst IsCut is
    (let many = length-held_bytes n groups in (omega arith, λ i h. (held_bytes-high n groups i (omega arith)).0))

-- and there are none where there are no groups
pub held_bytes-none : (n groups : ℕ) (held : List ℕ) → held_bytes n groups ≡ held → (n ≡ 0) ↔ (held ≡ [])
unfolding held_bytes
held_bytes-none zero groups held is = (λ _. sym is, λ _. refl)
held_bytes-none (suc n) groups held is = (λ none. absurd (omega (arith, none)), λ none. absurd (omega (arith, ap length (is ∙ none))))

-- their value is that of the groups
pub spelled_value-held_bytes : (n groups : ℕ) → groups < 128 ^ n → spelled_value (held_bytes n groups) ≡ groups
unfolding held_bytes
spelled_value-held_bytes zero groups h = omega arith
spelled_value-held_bytes (suc n) groups h =
    let power = pow-succ' 128 n in
    let rest = spelled_value-held_bytes n (groups / 128) (omega arith) in
    omega arith

-- one more group is one more byte at the end
pub held_bytes-push : (n groups b : ℕ) → groups < 128 ^ n → 128 ≤ b → b < 256 → held_bytes (suc n) (groups + b % 128 * 128 ^ n) ≡ held_bytes n groups ++ b ∷ []
unfolding held_bytes
held_bytes-push zero groups b h low high = ap (λ x. x ∷ []) (omega arith)
held_bytes-push (suc n) groups b h low high =
    let power = pow-succ' 128 n in
    let product : b % 128 * 128 ^ suc n ≡ 128 * (b % 128 * 128 ^ n) = rw power (grind arith) in
    let first : (groups + b % 128 * 128 ^ suc n) % 128 ≡ groups % 128 = omega arith in
    let above : (groups + b % 128 * 128 ^ suc n) / 128 ≡ groups / 128 + b % 128 * 128 ^ n = omega arith in
    let rest = held_bytes-push n (groups / 128) b (omega arith) low high in
    rw (first, above) (ap (λ bytes. (groups % 128 + 128) ∷ bytes) rest)

-- what the bytes of a feed are with one more byte
pub record Pushed (old : List ℕ) (count value b : ℕ) : Type 0 where
  pub many : length (old ++ b ∷ []) ≡ count + 1
  pub high : (i : ℕ) → i < count → 128 ≤ get_or (old ++ b ∷ []) i 0
  pub small : (i : ℕ) → get_or (old ++ b ∷ []) i 0 < 256
  pub last : get_or (old ++ b ∷ []) count 0 ≡ b
  pub whole : take (count + 1) (old ++ b ∷ []) ≡ old ++ b ∷ []
  pub value_is : spelled_value (old ++ b ∷ []) ≡ value + b % 128 * 128 ^ count

-- they are so for the bytes that the groups make
pushed_groups : (count value b : ℕ) → value < 128 ^ count → b < 256 → Pushed (held_bytes count value) count value b
pushed_groups count value b below small =
    let held = length-held_bytes count value in
    let more = length_push (held_bytes count value) b in
    let last = get_or_push (held_bytes count value) b 0 count held in
    record {
      many = omega arith;
      high = λ i h. let same = get_or_append_left (held_bytes count value) (b ∷ []) 0 i (omega arith) in omega (arith, (held_bytes-high count value i h).0);
      small = λ i.
          ⊎_elim (λ (h : i < count). let same = get_or_append_left (held_bytes count value) (b ∷ []) 0 i (omega arith) in omega (arith, (held_bytes-high count value i h).1))
          (λ (h : count ≤ i). ⊎_elim
          (λ (k : i < count + 1). let place : i ≡ count = omega arith in rw place (omega arith))
          (λ (k : count + 1 ≤ i). let past = get_or_past (held_bytes count value ++ b ∷ []) i 0 (omega arith) in omega arith) (cases_lt i (count + 1)))
          (cases_lt i count);
      last = last;
      whole = take_all (count + 1) (held_bytes count value ++ b ∷ []) (omega arith);
      value_is = spelled_value-push (held_bytes count value) b ∙ ap (λ v. v + b % 128 * 128 ^ length (held_bytes count value)) (spelled_value-held_bytes count value below) ∙ ap (λ n. value + b % 128 * 128 ^ n) held;
    }

-- they are so for each feed
pub pushed : (old : List ℕ) (count value b : ℕ) → held_bytes count value ≡ old → value < 128 ^ count → b < 256 → Pushed old count value b
pushed old count value b e below small = subst (λ xs. Pushed xs count value b) e (pushed_groups count value b below small)

-- a tenth byte that has no room makes them too long
pub pushed_long : (old : List ℕ) (count value b : ℕ) → Pushed old count value b → (count ≡ 9) × (1 < b) → IsLong (old ++ b ∷ [])
pushed_long old count value b p big =
    let last : 1 < get_or (old ++ b ∷ []) count 0 = rw p.last big.1 in
    IsLong-at (old ++ b ∷ []) count big.0 (omega (arith, p.many)) p.high last

-- a byte below 128 makes them a spelling, where the value fits
pub pushed_spelled : (old : List ℕ) (count value b v : ℕ) → Pushed old count value b → count ≤ 9 → b < 128 → v ≡ value + b % 128 * 128 ^ count → v < 2 ^ 64 → Spells v (old ++ b ∷ [])
pushed_spelled old count value b v p few low is fits =
    let last : get_or (old ++ b ∷ []) count 0 < 128 = rw p.last low in
    rw p.whole at
    (Spells-at v (old ++ b ∷ []) count (omega (arith, p.many)) few p.high p.small last (rw p.whole (p.value_is ∙ sym is)) fits)
