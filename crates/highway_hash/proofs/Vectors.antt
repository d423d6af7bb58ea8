-- The published vectors, computed from the definition.
use Rattle.std.proofs.Common.{◌≡◌, ℕ, List, [], ◌∷◌, ◌++◌, refl}
use Rattle.std.specs.Prelude.{replicate}
use Rattle.std.specs.Int.{w64, to_le_bytes}
use Rattle.highway_hash.specs.HighwayHash.{hash_of, finished, after_remainder, after_packets, finishing_round, updated, mixed, multiplied, zipped, reset, lanes_of, remainder_packet}
use Rattle.highway_hash.specs.Riegeli.{riegeli_hash}

-- the key whose bytes are 0 to 31 in order
counting_key : List ℕ
counting_key = 0x0706050403020100 ∷ 0x0f0e0d0c0b0a0908 ∷ 0x1716151413121110 ∷ 0x1f1e1d1c1b1a1918 ∷ []

empty_input : to_le_bytes w64 (riegeli_hash []) ≡ 0xe1 ∷ 0x9f ∷ 0x13 ∷ 0xc0 ∷ 0xe9 ∷ 0xb1 ∷ 0xc3 ∷ 0x72 ∷ []
unfolding hash_of finished after_remainder after_packets finishing_round updated mixed multiplied zipped reset lanes_of remainder_packet
empty_input = refl

sixteen_bytes : to_le_bytes w64 (riegeli_hash (replicate 8 0 ++ 0x40 ∷ replicate 7 0)) ≡ 0x83 ∷ 0xaf ∷ 0x70 ∷ 0xd1 ∷ 0x0d ∷ 0x88 ∷ 0x4a ∷ 0x3f ∷ []
unfolding hash_of finished after_remainder after_packets finishing_round updated mixed multiplied zipped reset lanes_of remainder_packet
sixteen_bytes = refl

thirty_two_bytes : to_le_bytes w64 (riegeli_hash (replicate 8 0 ++ 0xe1 ∷ 0x9f ∷ 0x13 ∷ 0xc0 ∷ 0xe9 ∷ 0xb1 ∷ 0xc3 ∷ 0x72 ∷ 0x73 ∷ replicate 15 0)) ≡ 0x91 ∷ 0xba ∷ 0xc2 ∷ 0x3c ∷ 0x92 ∷ 0x87 ∷ 0xe1 ∷ 0xa9 ∷ []
unfolding hash_of finished after_remainder after_packets finishing_round updated mixed multiplied zipped reset lanes_of remainder_packet
thirty_two_bytes = refl

empty_counting : hash_of counting_key [] ≡ 0x907A56DE22C26E53
unfolding counting_key hash_of finished after_remainder after_packets finishing_round updated mixed multiplied zipped reset lanes_of remainder_packet
empty_counting = refl

one_byte_counting : hash_of counting_key (0 ∷ []) ≡ 0x7EAB43AAC7CDDD78
unfolding counting_key hash_of finished after_remainder after_packets finishing_round updated mixed multiplied zipped reset lanes_of remainder_packet
one_byte_counting = refl

two_bytes_counting : hash_of counting_key (0 ∷ 1 ∷ []) ≡ 0xB8D0569AB0B53D62
unfolding counting_key hash_of finished after_remainder after_packets finishing_round updated mixed multiplied zipped reset lanes_of remainder_packet
two_bytes_counting = refl
