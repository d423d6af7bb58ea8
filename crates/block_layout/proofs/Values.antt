-- Values counted by hand, computed from the definitions.
use Rattle.std.proofs.lemmas.Bool.{cases_lt}
use Rattle.std.proofs.Common.{◌≡◌, ℕ, suc, ◌%◌, ◌<◌, ◌≤◌, inl, inr, ⊎_elim, ap, take, drop, slice_index, List, [], ◌∷◌, ◌++◌, replicate, lit<, lit≤, refl, arith}
use Rattle.std.specs.Prelude.{map}
use Rattle.std.specs.List.{range_with_len}
use Rattle.highway_hash.specs.HighwayHash.{hash_of, finished, after_remainder, after_packets, finishing_round, updated, mixed, multiplied, zipped, reset, lanes_of, remainder_packet}
use Rattle.highway_hash.specs.Riegeli.{with_hash, BeginsWithHash}
use Rattle.block_layout.specs.Layout.{block_of, IsUsable, IsBoundary, room, IsEnd, IsChunkEnd, end_of, chunk_end_of, usable_bytes, usable_bytes_at}
use Rattle.block_layout.specs.BlockHeaders.{block_header, IsRightBlockHeader, IsSane, StandsAt}
use Rattle.block_layout.proofs.Room.{room_mono}

-- the signature chunk
signature : chunk_end_of 0 40 0 ≡ 64
unfolding chunk_end_of end_of
signature = refl

-- a chunk within a block
small : chunk_end_of 64 48 3 ≡ 112
unfolding chunk_end_of end_of
small = refl

-- a chunk that ends exactly at a block
to_a_block : chunk_end_of 64 65472 1 ≡ 65536
unfolding chunk_end_of end_of
to_a_block = refl

-- a byte more: its end goes past the block's header
one_byte_past_a_block : chunk_end_of 64 65473 1 ≡ 65561
unfolding chunk_end_of end_of
one_byte_past_a_block = refl

-- a chunk with one block header inside
over_a_block : chunk_end_of 64 70045 1 ≡ 70133
unfolding chunk_end_of end_of
over_a_block = refl

-- the number of records alone moves the end: to a block
padded_to_a_block : chunk_end_of 64 50 65472 ≡ 65536
unfolding chunk_end_of end_of
padded_to_a_block = refl

-- into a block header, and so past it
padded_past_a_block : chunk_end_of 64 50 65473 ≡ 65561
unfolding chunk_end_of end_of
padded_past_a_block = refl

-- likewise from its middle
padded_into_a_header : chunk_end_of 64 50 65480 ≡ 65561
unfolding chunk_end_of end_of
padded_into_a_header = refl

-- and behind it
padded_behind_a_header : chunk_end_of 64 50 65498 ≡ 65562
unfolding chunk_end_of end_of
padded_behind_a_header = refl

-- fewer than 40 bytes before a block, padded to the next one
from_block_to_block : chunk_end_of 65497 65551 0 ≡ 131072
unfolding chunk_end_of end_of
from_block_to_block = refl

-- a chunk header that lies across a block
header_across_a_block : chunk_end_of 65530 44 1 ≡ 65598
unfolding chunk_end_of end_of
header_across_a_block = refl

-- a chunk that begins at a block
from_a_block : chunk_end_of 65536 44 1 ≡ 65604
unfolding chunk_end_of end_of
from_a_block = refl

-- a chunk over a block in the middle of a file
third_of_four : chunk_end_of 60154 30045 1 ≡ 90223
unfolding chunk_end_of end_of
third_of_four = refl

-- 24 of the first 64 positions are the block header's
room_behind_the_first_header : room 0 64 ≡ 40
unfolding room
room_behind_the_first_header = refl

-- within a block each position is usable
room_within_a_block : room 64 112 ≡ 48
unfolding room
room_within_a_block = refl

-- a block header leaves no room
room_in_a_header : room 0 24 ≡ 0
unfolding room
room_in_a_header = refl

room_of_one : room 0 25 ≡ 1
unfolding room
room_of_one = refl

room_of_nothing : room 30 30 ≡ 0
unfolding room
room_of_nothing = refl

room_backwards : room 40 30 ≡ 0
unfolding room
room_backwards = refl

-- across a block: 6 positions before its header, and 38 behind it
room_across_a_block : room 65530 65598 ≡ 44
unfolding room
room_across_a_block = refl

-- bytes that are the numbers of their positions: over a block header its 24 are left out
usable_over_a_header : usable_bytes 65530 (range_with_len 65530 40) ≡ range_with_len 65530 6 ++ range_with_len 65560 10
unfolding usable_bytes
usable_over_a_header = refl

-- from a block on
usable_from_a_block : usable_bytes 65536 (range_with_len 65536 30) ≡ range_with_len 65560 6
unfolding usable_bytes
usable_from_a_block = refl

-- from the middle of a block header, none before its end
usable_in_a_header : usable_bytes 65540 (range_with_len 65540 20) ≡ []
unfolding usable_bytes
usable_in_a_header = refl

usable_behind_a_header : usable_bytes 65540 (range_with_len 65540 21) ≡ 65560 ∷ []
unfolding usable_bytes
usable_behind_a_header = refl

-- at the begin of a file, 40 usable bytes stand behind the block header
own_at_the_begin : usable_bytes_at (range_with_len 0 100) 0 40 ≡ range_with_len 24 40
unfolding usable_bytes
own_at_the_begin = refl

-- a file that ends early has fewer
own_cut_off : usable_bytes_at (range_with_len 0 100) 64 40 ≡ range_with_len 64 36
unfolding usable_bytes
own_cut_off = refl

own_at_the_end : usable_bytes_at (range_with_len 0 100) 100 40 ≡ []
unfolding usable_bytes
own_at_the_end = refl

own_past_the_end : usable_bytes_at (range_with_len 0 100) 101 40 ≡ []
unfolding usable_bytes
own_past_the_end = refl

-- over a block header
own_over_a_header : usable_bytes_at (range_with_len 0 65580) 65530 16 ≡ range_with_len 65530 6 ++ range_with_len 65560 10
unfolding usable_bytes
own_over_a_header = refl

-- in a file that ends within it
own_before_a_header : usable_bytes_at (range_with_len 0 65550) 65530 16 ≡ range_with_len 65530 6
unfolding usable_bytes
own_before_a_header = refl

-- at a block
own_at_a_block : usable_bytes_at (range_with_len 0 65580) 65536 16 ≡ range_with_len 65560 16
unfolding usable_bytes
own_at_a_block = refl

-- the first 24 positions of a block are not usable, and of the 24 behind its begin none is a boundary
not_usable : (p : ℕ) → p % 65536 < 24 → IsUsable p → ⊥
not_usable p in_header usable = omega arith

no_boundary : (p : ℕ) → 0 < p % 65536 → p % 65536 < 25 → IsBoundary p → ⊥
no_boundary p past_begin in_header (inl at_begin) = omega arith
no_boundary p past_begin in_header (inr past) = omega arith

-- a block
boundary_0 : IsBoundary 0
boundary_0 = inl refl

not_usable_0 : IsUsable 0 → ⊥
not_usable_0 usable = not_usable 0 (lit< tt) usable

-- a place in its header
no_boundary_1 : IsBoundary 1 → ⊥
no_boundary_1 = no_boundary 1 (lit< tt) (lit< tt)

not_usable_1 : IsUsable 1 → ⊥
not_usable_1 usable = not_usable 1 (lit< tt) usable

-- the last of its header
no_boundary_23 : IsBoundary 23 → ⊥
no_boundary_23 = no_boundary 23 (lit< tt) (lit< tt)

not_usable_23 : IsUsable 23 → ⊥
not_usable_23 usable = not_usable 23 (lit< tt) usable

-- the first usable one, where no chunk begins
no_boundary_24 : IsBoundary 24 → ⊥
no_boundary_24 = no_boundary 24 (lit< tt) (lit< tt)

usable_24 : IsUsable 24
usable_24 = lit≤ tt

-- the first one behind a block where a chunk may begin
boundary_25 : IsBoundary 25
boundary_25 = inr (lit≤ tt)

usable_25 : IsUsable 25
usable_25 = lit≤ tt

-- the last one before a block
boundary_65535 : IsBoundary 65535
boundary_65535 = inr (lit≤ tt)

usable_65535 : IsUsable 65535
usable_65535 = lit≤ tt

-- the second block
boundary_65536 : IsBoundary 65536
boundary_65536 = inl refl

not_usable_65536 : IsUsable 65536 → ⊥
not_usable_65536 usable = not_usable 65536 (lit< tt) usable

-- its first usable one
no_boundary_65560 : IsBoundary 65560 → ⊥
no_boundary_65560 = no_boundary 65560 (lit< tt) (lit< tt)

usable_65560 : IsUsable 65560
usable_65560 = lit≤ tt

-- and the one after that
boundary_65561 : IsBoundary 65561
boundary_65561 = inr (lit≤ tt)

usable_65561 : IsUsable 65561
usable_65561 = lit≤ tt

-- the block header at the begin of each file
first_block_header : block_header 0 64 ≡
    0x83 ∷ 0xaf ∷ 0x70 ∷ 0xd1 ∷ 0x0d ∷ 0x88 ∷ 0x4a ∷ 0x3f
    ∷ 0 ∷ 0 ∷ 0 ∷ 0 ∷ 0 ∷ 0 ∷ 0 ∷ 0
    ∷ 0x40 ∷ 0 ∷ 0 ∷ 0 ∷ 0 ∷ 0 ∷ 0 ∷ 0 ∷ []
unfolding hash_of finished after_remainder after_packets finishing_round updated mixed multiplied zipped reset lanes_of remainder_packet
first_block_header = refl

-- the two distances of a block header inside a chunk, behind its hash
inner_block_header : drop 8 (block_header 65472 4597) ≡
    0xc0 ∷ 0xff ∷ 0 ∷ 0 ∷ 0 ∷ 0 ∷ 0 ∷ 0
    ∷ 0xf5 ∷ 0x11 ∷ 0 ∷ 0 ∷ 0 ∷ 0 ∷ 0 ∷ 0 ∷ []
unfolding hash_of finished after_remainder after_packets finishing_round updated mixed multiplied zipped reset lanes_of remainder_packet
inner_block_header = refl

-- it has the hash that it should have
first_is_right : IsRightBlockHeader (block_header 0 64)
unfolding hash_of finished after_remainder after_packets finishing_round updated mixed multiplied zipped reset lanes_of remainder_packet
first_is_right = (refl, refl)

-- a header with another next chunk behind that hash is not right
changed_is_not_right : IsRightBlockHeader (take 8 (block_header 0 64) ++ drop 8 (block_header 0 65)) → ⊥
unfolding hash_of finished after_remainder after_packets finishing_round updated mixed multiplied zipped reset lanes_of remainder_packet
changed_is_not_right right = let first : slice_index (block_header 0 64) 0 ≡ 240 = ap (λ xs. slice_index xs 0) right.1 in omega arith

-- the hash of no bytes, alone, begins with the hash of those behind it, and is no block header
abbrev hash_alone : List ℕ
hash_alone = 0xe1 ∷ 0x9f ∷ 0x13 ∷ 0xc0 ∷ 0xe9 ∷ 0xb1 ∷ 0xc3 ∷ 0x72 ∷ []

hash_alone_begins_with_it : BeginsWithHash hash_alone
unfolding hash_of finished after_remainder after_packets finishing_round updated mixed multiplied zipped reset lanes_of remainder_packet
hash_alone_begins_with_it = refl

hash_alone_is_not_right : IsRightBlockHeader hash_alone → ⊥
hash_alone_is_not_right right = omega (arith, right.0)

-- nor are 25 bytes
one_byte_more_is_not_right : IsRightBlockHeader (with_hash (replicate 17 0)) → ⊥
one_byte_more_is_not_right right = omega (arith, right.0)

-- a block header that could stand at the first block after the file's begin
sane : IsSane 65536 5382 24687
sane = record {
  back = lit≤ tt;
  past_itself = lit≤ tt;
  in_reach = lit≤ tt;
  from_boundary = inr (lit≤ tt);
  to_boundary = inr (lit≤ tt);
}

-- one that would end inside of itself could not
not_below : (n : ℕ) → n < 25 → 25 ≤ n → ⊥
not_below n below reaches = omega arith

not_sane : IsSane 65536 0 24 → ⊥
not_sane is = not_below 24 (lit< tt) is.past_itself

-- an end is where the room is reached, and where one position before it is not
end_where_reached : (begin size last : ℕ) → begin ≤ last → room begin (suc last) ≡ size → room begin last < size → IsEnd begin size (suc last)
end_where_reached begin size last after reached before = record {
  after = omega arith;
  holds = reached;
  least = λ e at_or_after holds. ⊎_elim
      (λ (below : e < suc last). let less : room begin e ≤ room begin last = room_mono begin e last (omega arith) in absurd (omega arith))
      (λ (past : suc last ≤ e). past)
      (cases_lt e (suc last));
}

-- the signature chunk has its 40th byte at 63
end_of_signature : IsEnd 0 40 64
unfolding room
end_of_signature = end_where_reached 0 40 63 (lit≤ tt) refl (lit< tt)

-- a chunk that fills the first block ends at the second one, before that block's header
end_at_a_block : IsEnd 64 65472 65536
unfolding room
end_at_a_block = end_where_reached 64 65472 65535 (lit≤ tt) refl (lit< tt)

-- with a byte more it ends behind that header
end_behind_a_header : IsEnd 64 65473 65561
unfolding room
end_behind_a_header = end_where_reached 64 65473 65560 (lit≤ tt) refl (lit< tt)

-- a chunk that begins at a block: that block's header is counted out
end_from_a_block : IsEnd 65536 44 65604
unfolding room
end_from_a_block = end_where_reached 65536 44 65603 (lit≤ tt) refl (lit< tt)

-- 65480 records of a chunk at 64 lead into a block header, past which the first boundary follows
end_of_many_records : IsChunkEnd 64 50 65480 65561
unfolding room
end_of_many_records = record {
  bytes_end = 114;
  is_end = end_where_reached 64 50 113 (lit≤ tt) refl (lit< tt);
  boundary = boundary_65561;
  past_bytes = lit≤ tt;
  past_records = lit≤ tt;
  least = λ e at_boundary past_bytes past_records. ⊎_elim
      (λ (at_block : e % 65536 ≡ 0). omega arith)
      (λ (past : 25 ≤ e % 65536). omega arith)
      at_boundary;
}

-- the block at or before a position
blocks : map block_of (0 ∷ 65535 ∷ 65536 ∷ 131071 ∷ []) ≡ 0 ∷ 0 ∷ 65536 ∷ 65536 ∷ []
blocks = refl

-- the first block header of a file stands there
first_stands : StandsAt (block_header 0 64) 0 0 64
first_stands = record {
  is_block = refl;
  bytes = refl;
  sane = record { back = lit≤ tt; past_itself = lit≤ tt; in_reach = lit≤ tt; from_boundary = inl refl; to_boundary = inr (lit≤ tt) };
}
