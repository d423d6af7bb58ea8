-- What operations on vectors do to each lane.
use Rattle.std.proofs.Common.{◌≡◌, ℕ, ◌*◌, ◌-◌, ◌/◌, ◌%◌, ◌^◌, List, bit_and, bit_or, bit_xor, replicate, slice_index, refl, arith}
use Rattle.std.specs.Simd.Lanes.{zip2}
use Rattle.std.proofs.lemmas.Nat.{xor_lt}
use Rattle.highway_hash.specs.HighwayHash.{by_lane, by_lanes, half_product, plus, swapped}
use Rattle.highway_hash.specs.WholeLanes.{IsFourLanes}
use Rattle.highway_hash.proofs.LaneLists.{four_lanes, IsFourLanes-lanes}
use Rattle.highway_hash.proofs.Words.{half_product-lt, masked_product, shifted_by_half, swapped-lt}

-- the shifts of each lane by n, and the lanes under a mask
abbrev pub shifted_left : List ℕ → ℕ → List ℕ
shifted_left xs n = zip2 (λ x k. x * 2 ^ k % 2 ^ 64) xs (replicate 4 n)

abbrev pub shifted_right : List ℕ → ℕ → List ℕ
shifted_right xs n = zip2 (λ x k. x / 2 ^ k) xs (replicate 4 n)

abbrev pub masked : List ℕ → List ℕ
masked xs = zip2 bit_and xs (replicate 4 (2 ^ 32 - 1))

pub plus_vector : {xs ys : List ℕ} → IsFourLanes xs → IsFourLanes ys → zip2 plus xs ys ≡ by_lanes plus xs ys
plus_vector {xs} {ys} p q = rw (four_lanes xs p.four, four_lanes ys q.four) refl

pub plus_whole : {xs ys : List ℕ} → IsFourLanes xs → IsFourLanes ys → IsFourLanes (zip2 plus xs ys)
plus_whole {xs} {ys} p q = rw (plus_vector p q) (IsFourLanes-lanes (λ i. plus (slice_index xs i) (slice_index ys i)) (λ i. omega arith))

pub xor_vector : {xs ys : List ℕ} → IsFourLanes xs → IsFourLanes ys → zip2 bit_xor xs ys ≡ by_lanes bit_xor xs ys
xor_vector {xs} {ys} p q = rw (four_lanes xs p.four, four_lanes ys q.four) refl

pub xor_whole : {xs ys : List ℕ} → IsFourLanes xs → IsFourLanes ys → IsFourLanes (zip2 bit_xor xs ys)
xor_whole {xs} {ys} p q = rw (xor_vector p q) (IsFourLanes-lanes (λ i. bit_xor (slice_index xs i) (slice_index ys i)) (λ i. xor_lt 64 _ _ (p.small i) (q.small i)))

pub half_product_vector : {xs ys : List ℕ} → IsFourLanes xs → IsFourLanes ys → zip2 (λ x y. x * y % 2 ^ 64) (masked xs) (shifted_right ys 32) ≡ by_lanes half_product xs ys
half_product_vector {xs} {ys} p q =
    let at = λ (i : ℕ). masked_product (slice_index xs i) (slice_index ys i) (q.small i) in
    rw (four_lanes xs p.four, four_lanes ys q.four) (cc (at 0, at 1, at 2, at 3))

pub half_product_whole : {xs ys : List ℕ} → IsFourLanes xs → IsFourLanes ys → IsFourLanes (zip2 (λ x y. x * y % 2 ^ 64) (masked xs) (shifted_right ys 32))
half_product_whole {xs} {ys} p q = rw (half_product_vector p q) (IsFourLanes-lanes (λ i. half_product (slice_index xs i) (slice_index ys i)) (λ i. half_product-lt _ _ (q.small i)))

pub swapped_vector : {xs : List ℕ} → IsFourLanes xs → zip2 bit_or (shifted_left xs 32) (shifted_right xs 32) ≡ by_lane swapped xs
swapped_vector {xs} p =
    let at = λ (i : ℕ). shifted_by_half (slice_index xs i) (p.small i) in
    rw (four_lanes xs p.four) (cc (at 0, at 1, at 2, at 3))

pub swapped_whole : {xs : List ℕ} → IsFourLanes xs → IsFourLanes (zip2 bit_or (shifted_left xs 32) (shifted_right xs 32))
swapped_whole {xs} p = rw (swapped_vector p) (IsFourLanes-lanes (λ i. swapped (slice_index xs i)) (λ i. swapped-lt _ (p.small i)))
