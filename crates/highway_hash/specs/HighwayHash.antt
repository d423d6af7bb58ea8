-- Promise. HighwayHash-64 of a whole list of bytes, by the paper "Fast keyed hash/pseudo-random function using SIMD
-- multiply and permute" and its 64-bit reference. Lanes are numbers below 2 ^ 64; sums wrap.
use Rattle.std.specs.Prelude.{ℕ, zero, suc, ◌+◌, ◌-◌, ◌*◌, ◌/◌, ◌%◌, ◌^◌, List, [], ◌∷◌, ◌++◌, length, map, take, drop, bit_xor, nat_le, nat_lt, ◌==◌, if◌then◌else◌, slice_index, slice_range}
use Rattle.std.specs.List.{range_with_len}
use Rattle.std.specs.Int.{w32, w64, to_le_bytes, from_le_bytes, rotate_left}

-- a state of the hash: four lanes each of two running values and of two multipliers
pub record HashState : Type 0 where
  pub v0 : List ℕ
  pub v1 : List ℕ
  pub mul0 : List ℕ
  pub mul1 : List ℕ

-- the sum of two lanes
abbrev pub plus : ℕ → ℕ → ℕ
plus x y = (x + y) % 2 ^ 64

-- the lower and the upper 32 bits of a lane, and the lane with these halves exchanged
abbrev pub low32 : ℕ → ℕ
low32 x = x % 2 ^ 32

abbrev pub high32 : ℕ → ℕ
high32 x = x / 2 ^ 32

abbrev pub swapped : ℕ → ℕ
swapped x = low32 x * 2 ^ 32 + high32 x

-- the lower half of a lane times the upper half of another
abbrev pub half_product : ℕ → ℕ → ℕ
half_product x y = low32 x * high32 y

-- both halves rotated left, each by itself
abbrev pub rotated_halves : ℕ → ℕ → ℕ
rotated_halves m x = rotate_left w32 (high32 x) m * 2 ^ 32 + rotate_left w32 (low32 x) m

-- the four lanes that f gives
abbrev pub lanes : (ℕ → ℕ) → List ℕ
lanes f = f 0 ∷ f 1 ∷ f 2 ∷ f 3 ∷ []

-- f of each lane, and of each two lanes at one place
abbrev pub by_lane : (ℕ → ℕ) → List ℕ → List ℕ
by_lane f xs = lanes (λ i. f (slice_index xs i))

abbrev pub by_lanes : (ℕ → ℕ → ℕ) → List ℕ → List ℕ → List ℕ
by_lanes f xs ys = lanes (λ i. f (slice_index xs i) (slice_index ys i))

-- the multipliers at the start
abbrev pub first_mul0 : List ℕ
first_mul0 = 0xdbe6d5d5fe4cce2f ∷ 0xa4093822299f31d0 ∷ 0x13198a2e03707344 ∷ 0x243f6a8885a308d3 ∷ []

abbrev pub first_mul1 : List ℕ
first_mul1 = 0x3bd39e10cb0ef593 ∷ 0xc0acf169b5f18a8c ∷ 0xbe5466cf34e90c6c ∷ 0x452821e638d01377 ∷ []

-- the state before any input, of a key of four words
unfoldable pub reset : List ℕ → HashState
reset key = record {
  v0 = by_lanes bit_xor first_mul0 key;
  v1 = by_lanes bit_xor first_mul1 (by_lane swapped key);
  mul0 = first_mul0;
  mul1 = first_mul1;
}

-- the zipper: which byte of a pair of lanes stands at each byte of the zipped pair
abbrev pub zipper_sources : List ℕ
zipper_sources = 3 ∷ 12 ∷ 2 ∷ 5 ∷ 14 ∷ 1 ∷ 15 ∷ 0 ∷ 11 ∷ 4 ∷ 10 ∷ 13 ∷ 9 ∷ 6 ∷ 8 ∷ 7 ∷ []

-- the 16 bytes of a pair of lanes in the zipper's order, the lower-numbered lane first
abbrev pub zipped_bytes : ℕ → ℕ → List ℕ
zipped_bytes low high = map (slice_index (to_le_bytes w64 low ++ to_le_bytes w64 high)) zipper_sources

-- the zipped pair as two lanes
abbrev pub zipped_pair : ℕ → ℕ → List ℕ
zipped_pair low high =
    from_le_bytes w64 (take 8 (zipped_bytes low high))
    ∷ from_le_bytes w64 (drop 8 (zipped_bytes low high))
    ∷ []

-- the zipper of the pairs of lanes (0, 1) and (2, 3)
unfoldable pub zipped : List ℕ → List ℕ
zipped xs =
    zipped_pair (slice_index xs 0) (slice_index xs 1)
    ++ zipped_pair (slice_index xs 2) (slice_index xs 3)

-- the first part of an update: the input goes into v1, and the products into the multipliers
unfoldable pub multiplied : HashState → List ℕ → HashState
multiplied s input =
    let v1 = by_lanes plus (by_lanes plus s.v1 s.mul0) input in
    let v0 = by_lanes plus s.v0 s.mul1 in
    record {
      v0 = v0;
      v1 = v1;
      mul0 = by_lanes bit_xor s.mul0 (by_lanes half_product v1 s.v0);
      mul1 = by_lanes bit_xor s.mul1 (by_lanes half_product v0 v1);
    }

-- the second part: the zipper of v1 is added to v0, and then that of v0 to v1
unfoldable pub mixed : HashState → HashState
mixed s =
    let v0 = by_lanes plus s.v0 (zipped s.v1) in
    record s { v0 = v0; v1 = by_lanes plus s.v1 (zipped v0) }

-- the state after an update with four lanes
unfoldable pub updated : HashState → List ℕ → HashState
updated s input = mixed (multiplied s input)

-- the four lanes at the front of the bytes
unfoldable pub lanes_of : List ℕ → List ℕ
lanes_of bytes = lanes (λ i. from_le_bytes w64 (slice_range bytes (8 * i) (8 * i + 8)))

-- the state after the packet of 32 bytes at the front of the bytes
abbrev pub after_packet : HashState → List ℕ → HashState
after_packet s bytes = updated s (lanes_of bytes)

-- the state after the first n packets
unfoldable pub after_packets : List ℕ → List ℕ → ℕ → HashState
after_packets key bytes zero = reset key
after_packets key bytes (suc n) = after_packet (after_packets key bytes n) (drop (32 * n) bytes)

-- byte i of the packet that holds a remainder r of 1 to 31 bytes: its whole words of four bytes, and then
-- either its last four bytes at the packet's end or the one to three bytes past its words
abbrev pub remainder_byte : List ℕ → ℕ → ℕ
remainder_byte r i =
    let m = length r in
    let q = m % 4 in
    if nat_lt i (m - q) then slice_index r i
    else if nat_le 16 m then (if nat_le 28 i then slice_index r (m - 4 + (i - 28)) else 0)
    else if q == 0 then 0
    else if i == 16 then slice_index r (m - q)
    else if i == 17 then slice_index r (m - q + q / 2)
    else if i == 18 then slice_index r (m - 1)
    else 0

-- the packet that holds a remainder
unfoldable pub remainder_packet : List ℕ → List ℕ
remainder_packet r = map (remainder_byte r) (range_with_len 0 32)

-- the state after a remainder of m bytes, where there is one
unfoldable pub after_remainder : HashState → List ℕ → HashState
after_remainder s r =
    let m = length r in
    if m == 0 then s
    else updated (record s {
      v0 = by_lane (λ x. plus x (m * 2 ^ 32 + m)) s.v0;
      v1 = by_lane (rotated_halves m) s.v1;
    }) (lanes_of (remainder_packet r))

-- the pairs of lanes exchanged, and the halves of each lane too
abbrev pub permuted : List ℕ → List ℕ
permuted xs =
    swapped (slice_index xs 2)
    ∷ swapped (slice_index xs 3)
    ∷ swapped (slice_index xs 0)
    ∷ swapped (slice_index xs 1)
    ∷ []

-- a round of the finish: an update with the permuted v0
unfoldable pub finishing_round : HashState → HashState
finishing_round s = updated s (permuted s.v0)

-- the hash of a state: four rounds, and the sum of the first lanes
unfoldable pub finished : HashState → ℕ
finished s =
    let t = finishing_round (finishing_round (finishing_round (finishing_round s))) in
    plus (plus (slice_index t.v0 0) (slice_index t.v1 0)) (plus (slice_index t.mul0 0) (slice_index t.mul1 0))

-- HighwayHash-64 of the bytes under a key of four words
unfoldable pub hash_of : List ℕ → List ℕ → ℕ
hash_of key bytes =
    let packets = length bytes / 32 in
    finished (after_remainder (after_packets key bytes packets) (drop (32 * packets) bytes))
