-- Values counted by hand, computed from the definitions. The hashes are those of an independent program.
use Rattle.std.proofs.Common.{◌≡◌, ℕ, true, false, Some, None, List, [], ◌∷◌, replicate, map, refl}
use Rattle.highway_hash.specs.HighwayHash.{hash_of, finished, after_remainder, after_packets, finishing_round, updated, mixed, multiplied, zipped, reset, lanes_of, remainder_packet}
use Rattle.varint_wire.specs.Varint.{shortest}
use Rattle.block_layout.specs.Layout.{room, end_of, chunk_end_of}
use Rattle.chunk_header.specs.SimpleChunks.{simple_chunk}
use Rattle.simple_chunk.specs.Costs.{cost_of}
use Rattle.meta_chunk.specs.Laid.{laid_bytes}
use Rattle.meta_chunk.specs.Files.{signature, signature_bytes, begin_of, end_of_chunks, laid_each}
use Rattle.meta_chunk.specs.PaddingSizes.{padding, padding_at}
use Rattle.record_group.specs.declared.pad.Pad.TheVariants.{No, Start, End, Both}
use Rattle.record_group.specs.Groups.{closes_before, groups, record_chunks, chunks_of, file_of}

-- the records `a`, `b` and `c`
letters : List (List ℕ)
letters = (0x61 ∷ []) ∷ (0x62 ∷ []) ∷ (0x63 ∷ []) ∷ []

-- each costs 9: two fit into 20, and the third would make 27
cost_of_letters : cost_of letters ≡ 27
unfolding letters
cost_of_letters = refl

groups_of_two : groups letters 20 None ≡ ((0x61 ∷ []) ∷ (0x62 ∷ []) ∷ []) ∷ ((0x63 ∷ []) ∷ []) ∷ []
unfolding letters groups
groups_of_two = refl

-- a group may reach the size exactly
groups_of_exactly_two : groups letters 18 None ≡ ((0x61 ∷ []) ∷ (0x62 ∷ []) ∷ []) ∷ ((0x63 ∷ []) ∷ []) ∷ []
unfolding letters groups
groups_of_exactly_two = refl

groups_of_one_below : groups letters 17 None ≡ ((0x61 ∷ []) ∷ []) ∷ ((0x62 ∷ []) ∷ []) ∷ ((0x63 ∷ []) ∷ []) ∷ []
unfolding letters groups
groups_of_one_below = refl

-- all of them in one group
one_group : groups letters 27 None ≡ letters ∷ []
unfolding letters groups
one_group = refl

-- a record that passes the size by itself has a group of its own
groups_of_size_1 : groups letters 1 None ≡ ((0x61 ∷ []) ∷ []) ∷ ((0x62 ∷ []) ∷ []) ∷ ((0x63 ∷ []) ∷ []) ∷ []
unfolding letters groups
groups_of_size_1 = refl

-- and the records before and behind it are in groups without it
group_around_a_long_record : groups ([] ∷ replicate 30 0x61 ∷ [] ∷ [] ∷ []) 20 None ≡ ([] ∷ []) ∷ (replicate 30 0x61 ∷ []) ∷ ([] ∷ [] ∷ []) ∷ []
unfolding groups
group_around_a_long_record = refl

-- an empty record costs 8, so it closes a group too
empty_record_closes : closes_before 15 None ([] ∷ []) [] ≡ true
empty_record_closes = refl

empty_record_fits : closes_before 16 None ([] ∷ []) [] ≡ false
empty_record_fits = refl

-- no record, no group
no_groups : groups [] 20 None ≡ []
unfolding groups
no_groups = refl

-- the default size is 1048576: records of 100 bytes cost 108, so 9709 of them fit and one more doesn't
default_size_fits : closes_before 1048576 None (replicate 9708 (replicate 100 0x61)) (replicate 100 0x61) ≡ false
default_size_fits = refl

default_size_closes : closes_before 1048576 None (replicate 9709 (replicate 100 0x61)) (replicate 100 0x61) ≡ true
default_size_closes = refl

-- without records the file is its first bytes alone
file_of_none : file_of [] 1048576 None No ≡ signature_bytes
unfolding groups file_of laid_each laid_bytes chunk_end_of end_of room hash_of finished after_remainder after_packets finishing_round updated mixed multiplied zipped reset lanes_of remainder_packet shortest
file_of_none = refl

-- the file of `a`, `bc` and an empty record has one chunk, from 64 to 112
begins_of_three : map (begin_of (chunks_of ((0x61 ∷ []) ∷ (0x62 ∷ 0x63 ∷ []) ∷ [] ∷ []) 1048576 None No)) (0 ∷ 1 ∷ 2 ∷ []) ≡ 0 ∷ 64 ∷ 112 ∷ []
unfolding groups chunk_end_of end_of shortest
begins_of_three = refl

file_of_three : file_of ((0x61 ∷ []) ∷ (0x62 ∷ 0x63 ∷ []) ∷ [] ∷ []) 1048576 None No ≡
    0x83 ∷ 0xaf ∷ 0x70 ∷ 0xd1 ∷ 0x0d ∷ 0x88 ∷ 0x4a ∷ 0x3f
    ∷ 0 ∷ 0 ∷ 0 ∷ 0 ∷ 0 ∷ 0 ∷ 0 ∷ 0
    ∷ 0x40 ∷ 0 ∷ 0 ∷ 0 ∷ 0 ∷ 0 ∷ 0 ∷ 0
    ∷ 0x91 ∷ 0xba ∷ 0xc2 ∷ 0x3c ∷ 0x92 ∷ 0x87 ∷ 0xe1 ∷ 0xa9
    ∷ 0 ∷ 0 ∷ 0 ∷ 0 ∷ 0 ∷ 0 ∷ 0 ∷ 0
    ∷ 0xe1 ∷ 0x9f ∷ 0x13 ∷ 0xc0 ∷ 0xe9 ∷ 0xb1 ∷ 0xc3 ∷ 0x72
    ∷ 0x73 ∷ 0 ∷ 0 ∷ 0 ∷ 0 ∷ 0 ∷ 0 ∷ 0
    ∷ 0 ∷ 0 ∷ 0 ∷ 0 ∷ 0 ∷ 0 ∷ 0 ∷ 0
    ∷ 0x18 ∷ 0x09 ∷ 0xa8 ∷ 0x0e ∷ 0x07 ∷ 0xa2 ∷ 0x61 ∷ 0x2f
    ∷ 0x08 ∷ 0 ∷ 0 ∷ 0 ∷ 0 ∷ 0 ∷ 0 ∷ 0
    ∷ 0xc5 ∷ 0x3d ∷ 0x74 ∷ 0x41 ∷ 0x6c ∷ 0xa3 ∷ 0x86 ∷ 0x87
    ∷ 0x72 ∷ 0x03 ∷ 0 ∷ 0 ∷ 0 ∷ 0 ∷ 0 ∷ 0
    ∷ 0x03 ∷ 0 ∷ 0 ∷ 0 ∷ 0 ∷ 0 ∷ 0 ∷ 0
    ∷ 0 ∷ 0x03 ∷ 0x01 ∷ 0x02 ∷ 0 ∷ 0x61 ∷ 0x62 ∷ 0x63 ∷ []
unfolding groups file_of laid_each laid_bytes chunk_end_of end_of room hash_of finished after_remainder after_packets finishing_round updated mixed multiplied zipped reset lanes_of remainder_packet shortest
file_of_three = refl

-- the file of `a`, `b` and `c` with chunks of at most 20: two of them, from 64 and from 110
begins_of_two_groups : map (begin_of (chunks_of letters 20 None No)) (0 ∷ 1 ∷ 2 ∷ 3 ∷ []) ≡ 0 ∷ 64 ∷ 110 ∷ 154 ∷ []
unfolding letters groups chunk_end_of end_of shortest
begins_of_two_groups = refl

file_of_two_groups : file_of letters 20 None No ≡
    0x83 ∷ 0xaf ∷ 0x70 ∷ 0xd1 ∷ 0x0d ∷ 0x88 ∷ 0x4a ∷ 0x3f
    ∷ 0 ∷ 0 ∷ 0 ∷ 0 ∷ 0 ∷ 0 ∷ 0 ∷ 0
    ∷ 0x40 ∷ 0 ∷ 0 ∷ 0 ∷ 0 ∷ 0 ∷ 0 ∷ 0
    ∷ 0x91 ∷ 0xba ∷ 0xc2 ∷ 0x3c ∷ 0x92 ∷ 0x87 ∷ 0xe1 ∷ 0xa9
    ∷ 0 ∷ 0 ∷ 0 ∷ 0 ∷ 0 ∷ 0 ∷ 0 ∷ 0
    ∷ 0xe1 ∷ 0x9f ∷ 0x13 ∷ 0xc0 ∷ 0xe9 ∷ 0xb1 ∷ 0xc3 ∷ 0x72
    ∷ 0x73 ∷ 0 ∷ 0 ∷ 0 ∷ 0 ∷ 0 ∷ 0 ∷ 0
    ∷ 0 ∷ 0 ∷ 0 ∷ 0 ∷ 0 ∷ 0 ∷ 0 ∷ 0
    ∷ 0x3e ∷ 0x90 ∷ 0x86 ∷ 0x76 ∷ 0x22 ∷ 0xf1 ∷ 0x84 ∷ 0x8a
    ∷ 0x06 ∷ 0 ∷ 0 ∷ 0 ∷ 0 ∷ 0 ∷ 0 ∷ 0
    ∷ 0x3e ∷ 0x2c ∷ 0x55 ∷ 0x8d ∷ 0xd1 ∷ 0xc8 ∷ 0x36 ∷ 0x5a
    ∷ 0x72 ∷ 0x02 ∷ 0 ∷ 0 ∷ 0 ∷ 0 ∷ 0 ∷ 0
    ∷ 0x02 ∷ 0 ∷ 0 ∷ 0 ∷ 0 ∷ 0 ∷ 0 ∷ 0
    ∷ 0 ∷ 0x02 ∷ 0x01 ∷ 0x01 ∷ 0x61 ∷ 0x62 ∷ 0x90 ∷ 0xcd
    ∷ 0xe5 ∷ 0x89 ∷ 0x8d ∷ 0xa0 ∷ 0x4d ∷ 0xef ∷ 0x04 ∷ 0
    ∷ 0 ∷ 0 ∷ 0 ∷ 0 ∷ 0 ∷ 0 ∷ 0x96 ∷ 0xa6
    ∷ 0x91 ∷ 0x97 ∷ 0x47 ∷ 0x79 ∷ 0x62 ∷ 0x2b ∷ 0x72 ∷ 0x01
    ∷ 0 ∷ 0 ∷ 0 ∷ 0 ∷ 0 ∷ 0 ∷ 0x01 ∷ 0
    ∷ 0 ∷ 0 ∷ 0 ∷ 0 ∷ 0 ∷ 0 ∷ 0 ∷ 0x01
    ∷ 0x01 ∷ 0x63 ∷ []
unfolding letters groups file_of laid_each laid_bytes chunk_end_of end_of room hash_of finished after_remainder after_packets finishing_round updated mixed multiplied zipped reset lanes_of remainder_packet shortest
file_of_two_groups = refl

-- two records in each group are as many as a size of 20 gives
groups_of_every_2 : groups letters 1048576 (Some 2) ≡ ((0x61 ∷ []) ∷ (0x62 ∷ []) ∷ []) ∷ ((0x63 ∷ []) ∷ []) ∷ []
unfolding letters groups
groups_of_every_2 = refl

file_of_every_2 : file_of letters 1048576 (Some 2) No ≡ file_of letters 20 None No
unfolding letters groups file_of
file_of_every_2 = refl

-- one record in each, as many as there are, and more
groups_of_every_1 : groups letters 1048576 (Some 1) ≡ ((0x61 ∷ []) ∷ []) ∷ ((0x62 ∷ []) ∷ []) ∷ ((0x63 ∷ []) ∷ []) ∷ []
unfolding letters groups
groups_of_every_1 = refl

groups_of_every_3 : groups letters 1048576 (Some 3) ≡ letters ∷ []
unfolding letters groups
groups_of_every_3 = refl

groups_of_every_4 : groups letters 1048576 (Some 4) ≡ letters ∷ []
unfolding letters groups
groups_of_every_4 = refl

-- the number closes the group of `a` and `b`, and the size those of `c` and of a record of 12 bytes
groups_of_both : groups ((0x61 ∷ []) ∷ (0x62 ∷ []) ∷ (0x63 ∷ []) ∷ replicate 12 0x64 ∷ (0x65 ∷ []) ∷ []) 28 (Some 2) ≡
    ((0x61 ∷ []) ∷ (0x62 ∷ []) ∷ []) ∷ ((0x63 ∷ []) ∷ []) ∷ (replicate 12 0x64 ∷ []) ∷ ((0x65 ∷ []) ∷ []) ∷ []
unfolding groups
groups_of_both = refl

-- of no records the file is padded once, up to 65536
chunks_of_none_start : chunks_of [] 1048576 None Start ≡ signature ∷ padding 65432 ∷ []
unfolding groups padding_at chunk_end_of end_of
chunks_of_none_start = refl

chunks_of_none_end : chunks_of [] 1048576 None End ≡ signature ∷ padding 65432 ∷ []
unfolding groups padding_at chunk_end_of end_of
chunks_of_none_end = refl

chunks_of_none_both : chunks_of [] 1048576 None Both ≡ signature ∷ padding 65432 ∷ []
unfolding groups padding_at chunk_end_of end_of
chunks_of_none_both = refl

begins_of_none_both : map (begin_of (chunks_of [] 1048576 None Both)) (0 ∷ 1 ∷ 2 ∷ 3 ∷ []) ≡ 0 ∷ 64 ∷ 65536 ∷ 65536 ∷ []
unfolding groups padding_at chunk_end_of end_of
begins_of_none_both = refl

-- `a` with padding on both sides: its chunk begins at 65536, and the file ends at 131072
chunks_of_a_both : chunks_of ((0x61 ∷ []) ∷ []) 1048576 None Both ≡ signature ∷ padding 65432 ∷ simple_chunk ((0x61 ∷ []) ∷ []) ∷ padding 65428 ∷ []
unfolding groups padding_at chunk_end_of end_of shortest
chunks_of_a_both = refl

begins_of_a_both : map (begin_of (chunks_of ((0x61 ∷ []) ∷ []) 1048576 None Both)) (0 ∷ 1 ∷ 2 ∷ 3 ∷ 4 ∷ []) ≡ 0 ∷ 64 ∷ 65536 ∷ 65604 ∷ 131072 ∷ []
unfolding groups padding_at chunk_end_of end_of shortest
begins_of_a_both = refl

-- with padding before it alone, the file ends with the chunk, and with padding behind it alone, it begins at 64
begins_of_a_start : map (begin_of (chunks_of ((0x61 ∷ []) ∷ []) 1048576 None Start)) (0 ∷ 1 ∷ 2 ∷ 3 ∷ 4 ∷ []) ≡ 0 ∷ 64 ∷ 65536 ∷ 65604 ∷ 65604 ∷ []
unfolding groups padding_at chunk_end_of end_of shortest
begins_of_a_start = refl

begins_of_a_end : map (begin_of (chunks_of ((0x61 ∷ []) ∷ []) 1048576 None End)) (0 ∷ 1 ∷ 2 ∷ 3 ∷ 4 ∷ []) ≡ 0 ∷ 64 ∷ 108 ∷ 65536 ∷ 65536 ∷ []
unfolding groups padding_at chunk_end_of end_of shortest
begins_of_a_end = refl

-- one record of 65388 bytes: its chunk ends 39 bytes before the block, so the padding takes the next block too
chunks_of_long_end : chunks_of (replicate 65388 0x61 ∷ []) 1048576 None End ≡ signature ∷ simple_chunk (replicate 65388 0x61 ∷ []) ∷ padding 65511 ∷ []
unfolding groups padding_at chunk_end_of end_of shortest
chunks_of_long_end = refl

begins_of_long_end : map (begin_of (chunks_of (replicate 65388 0x61 ∷ []) 1048576 None End)) (0 ∷ 1 ∷ 2 ∷ 3 ∷ []) ≡ 0 ∷ 64 ∷ 65497 ∷ 131072 ∷ []
unfolding groups padding_at chunk_end_of end_of shortest
begins_of_long_end = refl

-- one record of 65427 bytes: its chunk ends at the block, so nothing is padded behind it
chunks_of_full_end : chunks_of (replicate 65427 0x61 ∷ []) 1048576 None End ≡ signature ∷ simple_chunk (replicate 65427 0x61 ∷ []) ∷ []
unfolding groups padding_at chunk_end_of end_of shortest
chunks_of_full_end = refl

-- `d` behind other chunks: from 196, with padding on both sides, and from a block, where nothing is padded before it
end_behind_others : end_of_chunks 196 (record_chunks 196 ((0x64 ∷ []) ∷ []) 1048576 None No) ≡ 240
unfolding groups chunk_end_of end_of shortest
end_behind_others = refl

chunks_behind_others : record_chunks 196 ((0x64 ∷ []) ∷ []) 1048576 None Both ≡ padding 65300 ∷ simple_chunk ((0x64 ∷ []) ∷ []) ∷ padding 65428 ∷ []
unfolding groups padding_at chunk_end_of end_of shortest
chunks_behind_others = refl

chunks_from_a_block : record_chunks 65536 ((0x64 ∷ []) ∷ []) 1048576 None Start ≡ simple_chunk ((0x64 ∷ []) ∷ []) ∷ []
unfolding groups padding_at
chunks_from_a_block = refl
