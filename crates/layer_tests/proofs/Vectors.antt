-- Hashes of bytes that count from 0, from an independent program, computed from the definition: each length of a remainder's
-- words and tail, and whole packets before it.
use Rattle.std.proofs.Common.{◌≡◌, ℕ, List, [], ◌∷◌, refl}
use Rattle.std.specs.List.{range_with_len}
use Rattle.highway_hash.specs.HighwayHash.{hash_of, finished, after_remainder, after_packets, finishing_round, updated, mixed, multiplied, zipped, reset, lanes_of, remainder_packet}

-- the key whose bytes are 0 to 31 in order
key_from_0 : List ℕ
key_from_0 = 0x0706050403020100 ∷ 0x0f0e0d0c0b0a0908 ∷ 0x1716151413121110 ∷ 0x1f1e1d1c1b1a1918 ∷ []

hash_of_3 : hash_of key_from_0 (range_with_len 0 3) ≡ 0x5C6BEFAB8A463D80
unfolding key_from_0 hash_of finished after_remainder after_packets finishing_round updated mixed multiplied zipped reset lanes_of remainder_packet
hash_of_3 = refl

hash_of_4 : hash_of key_from_0 (range_with_len 0 4) ≡ 0xF205A46893007EDA
unfolding key_from_0 hash_of finished after_remainder after_packets finishing_round updated mixed multiplied zipped reset lanes_of remainder_packet
hash_of_4 = refl

hash_of_13 : hash_of key_from_0 (range_with_len 0 13) ≡ 0xA89A58CE65E641FF
unfolding key_from_0 hash_of finished after_remainder after_packets finishing_round updated mixed multiplied zipped reset lanes_of remainder_packet
hash_of_13 = refl

hash_of_14 : hash_of key_from_0 (range_with_len 0 14) ≡ 0x24B031A348455A23
unfolding key_from_0 hash_of finished after_remainder after_packets finishing_round updated mixed multiplied zipped reset lanes_of remainder_packet
hash_of_14 = refl

hash_of_15 : hash_of key_from_0 (range_with_len 0 15) ≡ 0x40793F86A449F33B
unfolding key_from_0 hash_of finished after_remainder after_packets finishing_round updated mixed multiplied zipped reset lanes_of remainder_packet
hash_of_15 = refl

hash_of_16 : hash_of key_from_0 (range_with_len 0 16) ≡ 0xCFAB3489F97EB832
unfolding key_from_0 hash_of finished after_remainder after_packets finishing_round updated mixed multiplied zipped reset lanes_of remainder_packet
hash_of_16 = refl

hash_of_19 : hash_of key_from_0 (range_with_len 0 19) ≡ 0x75D9518E2371C504
unfolding key_from_0 hash_of finished after_remainder after_packets finishing_round updated mixed multiplied zipped reset lanes_of remainder_packet
hash_of_19 = refl

hash_of_28 : hash_of key_from_0 (range_with_len 0 28) ≡ 0xF71F8976A0A2C639
unfolding key_from_0 hash_of finished after_remainder after_packets finishing_round updated mixed multiplied zipped reset lanes_of remainder_packet
hash_of_28 = refl

hash_of_31 : hash_of key_from_0 (range_with_len 0 31) ≡ 0x9FC7007CCF035A68
unfolding key_from_0 hash_of finished after_remainder after_packets finishing_round updated mixed multiplied zipped reset lanes_of remainder_packet
hash_of_31 = refl

hash_of_32 : hash_of key_from_0 (range_with_len 0 32) ≡ 0xA0C964D9ECD580FC
unfolding key_from_0 hash_of finished after_remainder after_packets finishing_round updated mixed multiplied zipped reset lanes_of remainder_packet
hash_of_32 = refl

hash_of_33 : hash_of key_from_0 (range_with_len 0 33) ≡ 0x2C90F73CA03181FC
unfolding key_from_0 hash_of finished after_remainder after_packets finishing_round updated mixed multiplied zipped reset lanes_of remainder_packet
hash_of_33 = refl

hash_of_50 : hash_of key_from_0 (range_with_len 0 50) ≡ 0xA2A98FC534825EBE
unfolding key_from_0 hash_of finished after_remainder after_packets finishing_round updated mixed multiplied zipped reset lanes_of remainder_packet
hash_of_50 = refl

hash_of_64 : hash_of key_from_0 (range_with_len 0 64) ≡ 0x75542C5D4CD2A6FF
unfolding key_from_0 hash_of finished after_remainder after_packets finishing_round updated mixed multiplied zipped reset lanes_of remainder_packet
hash_of_64 = refl
