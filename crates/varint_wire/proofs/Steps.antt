-- One step of reading: what the bytes up to a place are worth, and where they are a spelling.
use Rattle.std.proofs.Common.{◌≡◌, ℕ, ◌+◌, ◌-◌, ◌*◌, ◌%◌, ◌^◌, ◌<◌, ◌≤◌, List, ◌++◌, length, take, drop, get_or, arith, sym, ap, ◌∙◌, ⊎_elim, Bool, true, false}
use Rattle.std.specs.Prelude.{IsTrue, ◌↔◌}
use Rattle.std.proofs.lemmas.Bool.{cases_lt}
use Rattle.std.proofs.lemmas.List.{length-take-le, get_or-take, take_more, take-append-drop}
use Rattle.varint_wire.specs.Varint.{spelled_value, Spells}
use Rattle.varint_wire.proofs.Spellings.{spelled_value-lt, spelled_value-push, spelling_is_one}

-- the value before a place has the groups before it
pub value_below : (bytes : List ℕ) (at : ℕ) → at ≤ length bytes → spelled_value (take at bytes) < 128 ^ at
value_below bytes at h =
    let bound = spelled_value-lt (take at bytes) in
    let power : 128 ^ length (take at bytes) ≡ 128 ^ at = ap (λ n. 128 ^ n) (length-take-le at bytes h) in
    omega arith

-- the byte at the place adds its group
pub value_more : (bytes : List ℕ) (at : ℕ) → at < length bytes → spelled_value (take (at + 1) bytes) ≡ spelled_value (take at bytes) + get_or bytes at 0 % 128 * 128 ^ at
value_more bytes at h =
    ap spelled_value (take_more bytes at 0 h) ∙ spelled_value-push (take at bytes) (get_or bytes at 0) ∙ ap (λ n. spelled_value (take at bytes) + get_or bytes at 0 % 128 * 128 ^ n) (length-take-le at bytes (omega arith))

-- the first byte below 128 ends a spelling, where the value fits
pub Spells-at : (v : ℕ) (bytes : List ℕ) (at : ℕ) → at < length bytes → at ≤ 9 → ((i : ℕ) → i < at → 128 ≤ get_or bytes i 0) → ((i : ℕ) → get_or bytes i 0 < 256) → get_or bytes at 0 < 128 → spelled_value (take (at + 1) bytes) ≡ v → v < 2 ^ 64 → Spells v (take (at + 1) bytes)
Spells-at v bytes at inside few high small low value fits =
    let many : length (take (at + 1) bytes) ≡ at + 1 = length-take-le (at + 1) bytes (omega arith) in
    record {
      some = omega arith;
      at_most_ten = omega arith;
      continued = λ i h. let same = get_or-take (at + 1) bytes i 0 (omega arith) in (omega (arith, high i (omega arith)), omega (arith, small i));
      ended = let place : length (take (at + 1) bytes) - 1 ≡ at = omega arith in let same = get_or-take (at + 1) bytes at 0 (omega arith) in rw place (omega arith);
      value_is = value;
      fits = fits;
    }

-- whatever else spells the bytes' front is that spelling
pub spelled_once : (v n w : ℕ) (bytes front rest : List ℕ) → n ≤ length bytes → Spells v (take n bytes) → Spells w front → bytes ≡ front ++ rest → (v ≡ w) × (n ≡ length front)
spelled_once v n w bytes front rest inside s t e =
    let one = spelling_is_one v w (take n bytes) front (drop n bytes) rest s t (take-append-drop n bytes ∙ e) in
    (one.1, sym (length-take-le n bytes inside) ∙ ap length one.0)

-- where the test for the tenth byte says no, a byte from 128 on is not the tenth
pub room_for_more : (at byte : ℕ) (test : Bool) → at ≤ 9 → (IsTrue test ↔ ((at ≡ 9) × (1 < byte))) → test ≡ false → 128 ≤ byte → at + 1 ≤ 9
room_for_more at byte test few h denied high =
    ⊎_elim (λ (k : at < 9). omega arith) (λ (k : 9 ≤ at). let yes : test ≡ true = h.1 (omega arith, omega arith) in absurd cc) (cases_lt at 9)
