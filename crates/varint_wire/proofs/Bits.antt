-- Groups of seven bits, as the code shifts and masks them.
use Rattle.std.proofs.Common.{◌≡◌, ℕ, zero, suc, ◌+◌, ◌*◌, ◌%◌, ◌^◌, ◌<◌, ◌≤◌, refl, arith, sym, ap, ◌∙◌, ⊎_elim, bit_and, bit_or}
use Rattle.std.proofs.Math.Nat.{pow-succ'}
use Rattle.std.proofs.lemmas.Bool.{cases_lt}
use Rattle.std.proofs.lemmas.Nat.{pow-add, and_mask, or_comm, or_shifted, shl_whole}

-- n groups are 7 n bits
bits_of_groups : (n : ℕ) → 128 ^ n ≡ 2 ^ (7 * n)
bits_of_groups zero = refl
bits_of_groups (suc n) =
    let more : 7 * suc n ≡ 7 + 7 * n = omega arith in
    pow-succ' 128 n ∙ ap (λ x. 128 * x) (bits_of_groups n) ∙ sym (ap (λ k. 2 ^ k) more ∙ pow-add 2 7 (7 * n))

-- the low seven bits of a byte, shifted to the place n, lose none where the tenth byte is at most 1
shifted_whole : (b n : ℕ) → n ≤ 9 → (n ≡ 9 → b ≤ 1) → b % 128 * 2 ^ (7 * n) % 2 ^ 64 ≡ b % 128 * 2 ^ (7 * n)
shifted_whole b n few last =
    ⊎_elim (λ (h : n < 9). shl_whole (b % 128) 7 (7 * n) 64 (omega arith) (omega arith))
    (λ (h : 9 ≤ n). shl_whole (b % 128) 1 (7 * n) 64 (omega (arith, last (omega arith))) (omega arith)) (cases_lt n 9)

-- a shifted group stands above the groups before it
pub with_group_is : (v b n : ℕ) → v < 128 ^ n → n ≤ 9 → (n ≡ 9 → b ≤ 1) → bit_or v (bit_and b 127 * 2 ^ (7 * n) % 2 ^ 64) ≡ v + b % 128 * 128 ^ n
with_group_is v b n below few last =
    let mask = and_mask b 7 in
    let power = bits_of_groups n in
    let whole = ap (λ x. x * 2 ^ (7 * n) % 2 ^ 64) mask ∙ shifted_whole b n few last in
    let joined = ap (bit_or v) whole ∙ or_comm v (b % 128 * 2 ^ (7 * n)) ∙ or_shifted (b % 128) (7 * n) v (omega arith) in
    joined ∙ (rw power (omega arith))

-- a group with the mark that another follows
pub marked_group : (n : ℕ) → bit_or (bit_and n 127) 128 ≡ n % 128 + 128
marked_group n =
    ap (λ x. bit_or x 128) (and_mask n 7) ∙ or_comm (n % 128) 128 ∙ or_shifted 1 7 (n % 128) (omega arith) ∙ omega arith
