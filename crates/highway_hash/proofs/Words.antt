-- Facts about the halves of words, and about the chunks of a list.
use Rattle.std.proofs.Common.{◌≡◌, ℕ, zero, suc, ◌+◌, ◌-◌, ◌*◌, ◌/◌, ◌%◌, ◌^◌, ◌<◌, List, take, drop, get_or, bit_and, bit_or, refl, ap, ◌∙◌, arith}
use Rattle.std.specs.Simd.{first_chunks}
use Rattle.std.proofs.lemmas.Nat.{and_mask, mul-le, or_shifted}
use Rattle.std.proofs.lemmas.List.{drop-drop}
use Rattle.std.proofs.Math.Nat.{mul-suc, mul-zero}
use Rattle.highway_hash.specs.HighwayHash.{half_product, swapped}

-- two shifts by 32 exchange the halves, as a rotation by 32 does
pub shifted_by_half : (n : ℕ) → n < 2 ^ 64 → bit_or (n * 2 ^ 32 % 2 ^ 64) (n / 2 ^ 32) ≡ swapped n
shifted_by_half n h =
    let shifted : n * 2 ^ 32 % 2 ^ 64 ≡ n % 2 ^ 32 * 2 ^ 32 = omega arith in
    rw shifted (or_shifted (n % 2 ^ 32) 32 (n / 2 ^ 32) (omega arith))

-- the halves exchanged are again a word
pub swapped-lt : (n : ℕ) → n < 2 ^ 64 → swapped n < 2 ^ 64
swapped-lt n h = omega arith

-- a product of halves is a word
pub half_product-lt : (x y : ℕ) → y < 2 ^ 64 → half_product x y < 2 ^ 64
half_product-lt x y h = omega (arith, mul-le (x % 2 ^ 32) (y / 2 ^ 32) (2 ^ 32 - 1) (2 ^ 32 - 1) (omega arith) (omega arith))

-- it is the product of the masked word and the shifted one
pub masked_product : (x y : ℕ) → y < 2 ^ 64 → bit_and x (2 ^ 32 - 1) * (y / 2 ^ 32) % 2 ^ 64 ≡ half_product x y
masked_product x y h = rw (and_mask x 32) (omega (arith, half_product-lt x y h))

-- two numbers of 32 bits joined by a shift and `|`
pub joined_halves : (a b : ℕ) → a < 2 ^ 32 → b < 2 ^ 32 → bit_or (a * 2 ^ 32 % 2 ^ 64) b ≡ a * 2 ^ 32 + b
joined_halves a b p q =
    let whole : a * 2 ^ 32 % 2 ^ 64 ≡ a * 2 ^ 32 = omega arith in
    rw whole (or_shifted a 32 b q)

-- the chunk at a place, of the first n chunks of k elements
pub chunk_at : (k n i : ℕ) (xs : List ℕ) (d : List ℕ) → i < n → get_or (first_chunks k n xs) i d ≡ take k (drop (k * i) xs)
chunk_at k zero i xs d h = absurd (omega arith)
chunk_at k (suc n) zero xs d h = rw mul-zero refl
chunk_at k (suc n) (suc i) xs d h =
    let next : k + k * i ≡ k * suc i = rw mul-suc (omega arith) in
    let rest : drop (k * i) (drop k xs) ≡ drop (k * suc i) xs = drop-drop (k * i) k xs ∙ ap (λ (m : ℕ). drop m xs) next in
    chunk_at k n i (drop k xs) d (omega arith) ∙ ap (λ (ys : List ℕ). take k ys) rest
