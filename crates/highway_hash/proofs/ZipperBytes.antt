-- The zipper as one swizzle of the bytes of a vector.
use Rattle.std.proofs.Common.{◌≡◌, ℕ, suc, ◌+◌, ◌*◌, ◌/◌, ◌%◌, ◌^◌, ◌<◌, List, [], ◌∷◌, ◌++◌, map, take, drop, slice_index, ap, ◌∙◌, arith}
use Rattle.std.specs.Int.{w64, byte_at, to_le_bytes, from_le_bytes}
use Rattle.std.specs.Simd.Lanes.{digits_l, number_l, pick_l}
use Rattle.highway_hash.specs.HighwayHash.{zipped, zipped_bytes, zipped_pair, zipper_sources}
use Rattle.highway_hash.specs.WholeLanes.{IsFourLanes}
use Rattle.highway_hash.proofs.LaneLists.{four_lanes}

-- the bytes of a word, and those of the number above it
bytes_of_word : (x m n : ℕ) → x < 2 ^ 64 → digits_l 256 (suc (suc (suc (suc (suc (suc (suc (suc n)))))))) (x + 2 ^ 64 * m) ≡ to_le_bytes w64 x ++ digits_l 256 n m
bytes_of_word x m n h =
    let y : ℕ = x + 2 ^ 64 * m in
    let b0 : y % 256 ≡ byte_at 0 x = omega arith in
    let b1 : y / 256 % 256 ≡ byte_at 1 x = omega arith in
    let b2 : y / 256 / 256 % 256 ≡ byte_at 2 x = omega arith in
    let b3 : y / 256 / 256 / 256 % 256 ≡ byte_at 3 x = omega arith in
    let b4 : y / 256 / 256 / 256 / 256 % 256 ≡ byte_at 4 x = omega arith in
    let b5 : y / 256 / 256 / 256 / 256 / 256 % 256 ≡ byte_at 5 x = omega arith in
    let b6 : y / 256 / 256 / 256 / 256 / 256 / 256 % 256 ≡ byte_at 6 x = omega arith in
    let b7 : y / 256 / 256 / 256 / 256 / 256 / 256 / 256 % 256 ≡ byte_at 7 x = omega arith in
    let above : y / 256 / 256 / 256 / 256 / 256 / 256 / 256 / 256 ≡ m = omega arith in
    cc

-- the word of eight bytes, and those of the bytes behind them
word_of_bytes : (x0 x1 x2 x3 x4 x5 x6 x7 : ℕ) (bs : List ℕ) (n : ℕ)
    → let word = x0 % 256 ∷ x1 % 256 ∷ x2 % 256 ∷ x3 % 256 ∷ x4 % 256 ∷ x5 % 256 ∷ x6 % 256 ∷ x7 % 256 ∷ [] in
    digits_l (2 ^ 64) (suc n) (number_l 256 (word ++ bs)) ≡ from_le_bytes w64 word ∷ digits_l (2 ^ 64) n (number_l 256 bs)
word_of_bytes x0 x1 x2 x3 x4 x5 x6 x7 bs n =
    let word : List ℕ = x0 % 256 ∷ x1 % 256 ∷ x2 % 256 ∷ x3 % 256 ∷ x4 % 256 ∷ x5 % 256 ∷ x6 % 256 ∷ x7 % 256 ∷ [] in
    let lowest : number_l 256 (word ++ bs) % 2 ^ 64 ≡ from_le_bytes w64 word = omega arith in
    let above : number_l 256 (word ++ bs) / 2 ^ 64 ≡ number_l 256 bs = omega arith in
    cc

-- the bytes of four words
bytes_of_words : (a b c d : ℕ) → a < 2 ^ 64 → b < 2 ^ 64 → c < 2 ^ 64 → d < 2 ^ 64
    → digits_l 256 32 (number_l (2 ^ 64) (a ∷ b ∷ c ∷ d ∷ [])) ≡ to_le_bytes w64 a ++ (to_le_bytes w64 b ++ (to_le_bytes w64 c ++ to_le_bytes w64 d))
bytes_of_words a b c d p q r s =
    bytes_of_word a (b + 2 ^ 64 * (c + 2 ^ 64 * (d + 2 ^ 64 * 0))) 24 p
    ∙ ap (λ (ys : List ℕ). to_le_bytes w64 a ++ ys) (
    bytes_of_word b (c + 2 ^ 64 * (d + 2 ^ 64 * 0)) 16 q
    ∙ ap (λ (ys : List ℕ). to_le_bytes w64 b ++ ys) (
    bytes_of_word c (d + 2 ^ 64 * 0) 8 r
    ∙ ap (λ (ys : List ℕ). to_le_bytes w64 c ++ ys) (bytes_of_word d 0 0 s)))

-- the lanes of a zipped pair, and those of the bytes behind it
lanes_of_pair : (a b : ℕ) (bs : List ℕ) (n : ℕ) → digits_l (2 ^ 64) (suc (suc n)) (number_l 256 (zipped_bytes a b ++ bs)) ≡ zipped_pair a b ++ digits_l (2 ^ 64) n (number_l 256 bs)
lanes_of_pair a b bs n =
    word_of_bytes (a / 256 ^ 3) (b / 256 ^ 4) (a / 256 ^ 2) (a / 256 ^ 5) (b / 256 ^ 6) (a / 256) (b / 256 ^ 7) a (drop 8 (zipped_bytes a b) ++ bs) (suc n)
    ∙ ap (λ (ys : List ℕ). from_le_bytes w64 (take 8 (zipped_bytes a b)) ∷ ys) (word_of_bytes (b / 256 ^ 3) (a / 256 ^ 4) (b / 256 ^ 2) (b / 256 ^ 5) (b / 256) (a / 256 ^ 6) b (a / 256 ^ 7) bs n)

-- the bytes of a vector
abbrev pub vector_bytes : List ℕ → List ℕ
vector_bytes xs = digits_l 256 32 (number_l (2 ^ 64) xs)

-- the lanes of a vector of bytes, in the zipper's order
abbrev pub swizzled : List ℕ → List ℕ
swizzled bytes = digits_l (2 ^ 64) 4 (number_l 256 (pick_l 0 (bytes ++ bytes) (zipper_sources ++ map (λ k. 16 + k) zipper_sources)))

-- the swizzle of the bytes of four words
swizzled_words : (a b c d : ℕ) → swizzled (to_le_bytes w64 a ++ (to_le_bytes w64 b ++ (to_le_bytes w64 c ++ to_le_bytes w64 d))) ≡ zipped (a ∷ b ∷ c ∷ d ∷ [])
unfolding zipped
swizzled_words a b c d =
    lanes_of_pair a b (zipped_bytes c d) 2 ∙ ap (λ (ys : List ℕ). zipped_pair a b ++ ys) (lanes_of_pair c d [] 0)

-- the zipper of the lanes of a vector
pub zipped_vector : {xs : List ℕ} → IsFourLanes xs → swizzled (vector_bytes xs) ≡ zipped xs
zipped_vector {xs} w =
    let at : ℕ → ℕ = slice_index xs in
    rw (four_lanes xs w.four) (ap swizzled (bytes_of_words (at 0) (at 1) (at 2) (at 3) (w.small 0) (w.small 1) (w.small 2) (w.small 3)) ∙ swizzled_words (at 0) (at 1) (at 2) (at 3))
