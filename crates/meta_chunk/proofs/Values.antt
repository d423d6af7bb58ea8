-- Values counted by hand, computed from the definitions. The hashes are those of an independent program.
use Rattle.std.specs.Prelude.{map, slice_index}
use Rattle.std.specs.List.{concat}
use Rattle.std.proofs.Common.{◌≡◌, sym, ℕ, suc, ◌<◌, inl, inr, List, [], ◌∷◌, ◌++◌, length, drop, replicate, lit<, lit≤, refl, ap, arith}
use Rattle.highway_hash.specs.HighwayHash.{hash_of, finished, after_remainder, after_packets, finishing_round, updated, mixed, multiplied, zipped, reset, lanes_of, remainder_packet}
use Rattle.varint_wire.specs.Varint.{shortest}
use Rattle.block_layout.specs.Layout.{room, end_of, chunk_end_of}
use Rattle.chunk_header.specs.Chunks.{ChunkValue, chunk_bytes}
use Rattle.chunk_header.specs.SimpleChunks.{simple_chunk, IsSimple, IsSimpleChunk}
use Rattle.chunk_header.proofs.SimpleChunks.{IsSimple-simple_chunk}
use Rattle.meta_chunk.specs.Kinds.{KeepsRule}
use Rattle.meta_chunk.specs.Laid.{end_of_chunk, byte_at, laid_bytes, laid}
use Rattle.meta_chunk.specs.Files.{signature, signature_bytes, IsPlain, IsUnread, Holds, HoldEach, AreRecordsOf, end_of_chunks, begin_of, placed_from, totals_of}
use Rattle.meta_chunk.specs.PaddingSizes.{padding, padding_size_of, padding_at}

-- the bytes that a file begins with: a block header and the signature chunk
first_bytes : signature_bytes ≡
    0x83 ∷ 0xaf ∷ 0x70 ∷ 0xd1 ∷ 0x0d ∷ 0x88 ∷ 0x4a ∷ 0x3f
    ∷ 0 ∷ 0 ∷ 0 ∷ 0 ∷ 0 ∷ 0 ∷ 0 ∷ 0
    ∷ 0x40 ∷ 0 ∷ 0 ∷ 0 ∷ 0 ∷ 0 ∷ 0 ∷ 0
    ∷ 0x91 ∷ 0xba ∷ 0xc2 ∷ 0x3c ∷ 0x92 ∷ 0x87 ∷ 0xe1 ∷ 0xa9
    ∷ 0 ∷ 0 ∷ 0 ∷ 0 ∷ 0 ∷ 0 ∷ 0 ∷ 0
    ∷ 0xe1 ∷ 0x9f ∷ 0x13 ∷ 0xc0 ∷ 0xe9 ∷ 0xb1 ∷ 0xc3 ∷ 0x72
    ∷ 0x73 ∷ 0 ∷ 0 ∷ 0 ∷ 0 ∷ 0 ∷ 0 ∷ 0
    ∷ 0 ∷ 0 ∷ 0 ∷ 0 ∷ 0 ∷ 0 ∷ 0 ∷ 0 ∷ []
unfolding laid_bytes chunk_end_of end_of room hash_of finished after_remainder after_packets finishing_round updated mixed multiplied zipped reset lanes_of remainder_packet
first_bytes = refl

-- the records `a`, `bc` and an empty one, right behind them
three_records_laid : laid 64 (simple_chunk ((0x61 ∷ []) ∷ (0x62 ∷ 0x63 ∷ []) ∷ [] ∷ [])) ≡
    0x18 ∷ 0x09 ∷ 0xa8 ∷ 0x0e ∷ 0x07 ∷ 0xa2 ∷ 0x61 ∷ 0x2f
    ∷ 0x08 ∷ 0 ∷ 0 ∷ 0 ∷ 0 ∷ 0 ∷ 0 ∷ 0
    ∷ 0xc5 ∷ 0x3d ∷ 0x74 ∷ 0x41 ∷ 0x6c ∷ 0xa3 ∷ 0x86 ∷ 0x87
    ∷ 0x72 ∷ 0x03 ∷ 0 ∷ 0 ∷ 0 ∷ 0 ∷ 0 ∷ 0
    ∷ 0x03 ∷ 0 ∷ 0 ∷ 0 ∷ 0 ∷ 0 ∷ 0 ∷ 0
    ∷ 0 ∷ 0x03 ∷ 0x01 ∷ 0x02 ∷ 0 ∷ 0x61 ∷ 0x62 ∷ 0x63 ∷ []
unfolding laid_bytes chunk_end_of end_of room hash_of finished after_remainder after_packets finishing_round updated mixed multiplied zipped reset lanes_of remainder_packet shortest
three_records_laid = refl

-- 60 records of which the chunk has 41 bytes: 19 bytes of padding
padding_laid : drop 41 (laid 64 (record { kind = 0x74; num_records = 60; decoded_size = 0; «data» = 7 ∷ [] })) ≡ replicate 19 0
unfolding laid_bytes chunk_end_of end_of room hash_of finished after_remainder after_packets finishing_round updated mixed multiplied zipped reset lanes_of remainder_packet
padding_laid = refl

-- a chunk that begins at a block: its block header leads back by 0 and on by 68, and its bytes come behind
at_a_block : ChunkValue
at_a_block = simple_chunk ((0x78 ∷ []) ∷ [])

previous_at_a_block : byte_at 65536 (end_of_chunk 65536 at_a_block) (chunk_bytes at_a_block) 65544 ≡ 0
unfolding at_a_block chunk_end_of end_of room hash_of finished after_remainder after_packets finishing_round updated mixed multiplied zipped reset lanes_of remainder_packet shortest
previous_at_a_block = refl

next_at_a_block : byte_at 65536 (end_of_chunk 65536 at_a_block) (chunk_bytes at_a_block) 65552 ≡ 68
unfolding at_a_block chunk_end_of end_of room hash_of finished after_remainder after_packets finishing_round updated mixed multiplied zipped reset lanes_of remainder_packet shortest
next_at_a_block = refl

own_byte_at_a_block : byte_at 65536 (end_of_chunk 65536 at_a_block) (chunk_bytes at_a_block) 65568 ≡ 4
unfolding at_a_block chunk_end_of end_of room hash_of finished after_remainder after_packets finishing_round updated mixed multiplied zipped reset lanes_of remainder_packet shortest
own_byte_at_a_block = refl

last_byte_at_a_block : byte_at 65536 (end_of_chunk 65536 at_a_block) (chunk_bytes at_a_block) 65603 ≡ 0x78
unfolding at_a_block chunk_end_of end_of room hash_of finished after_remainder after_packets finishing_round updated mixed multiplied zipped reset lanes_of remainder_packet shortest
last_byte_at_a_block = refl

-- the same chunk six bytes before a block: the block header stands between bytes 5 and 6 of the chunk's header
previous_across_a_block : byte_at 65530 (end_of_chunk 65530 at_a_block) (chunk_bytes at_a_block) 65544 ≡ 6
unfolding at_a_block chunk_end_of end_of room hash_of finished after_remainder after_packets finishing_round updated mixed multiplied zipped reset lanes_of remainder_packet shortest
previous_across_a_block = refl

next_across_a_block : byte_at 65530 (end_of_chunk 65530 at_a_block) (chunk_bytes at_a_block) 65552 ≡ 62
unfolding at_a_block chunk_end_of end_of room hash_of finished after_remainder after_packets finishing_round updated mixed multiplied zipped reset lanes_of remainder_packet shortest
next_across_a_block = refl

byte_before_a_block : byte_at 65530 (end_of_chunk 65530 at_a_block) (chunk_bytes at_a_block) 65535 ≡ 129
unfolding at_a_block chunk_end_of end_of room hash_of finished after_remainder after_packets finishing_round updated mixed multiplied zipped reset lanes_of remainder_packet shortest
byte_before_a_block = refl

byte_behind_a_header : byte_at 65530 (end_of_chunk 65530 at_a_block) (chunk_bytes at_a_block) 65560 ≡ 141
unfolding at_a_block chunk_end_of end_of room hash_of finished after_remainder after_packets finishing_round updated mixed multiplied zipped reset lanes_of remainder_packet shortest
byte_behind_a_header = refl

-- the chunk of a record of one byte
of_byte : ℕ → ChunkValue
of_byte b = simple_chunk ((b ∷ []) ∷ [])

-- where the chunks of `a`, `b` and `c` begin, and where the file ends
small : List ChunkValue
small = signature ∷ of_byte 0x61 ∷ of_byte 0x62 ∷ of_byte 0x63 ∷ []

begins_of_small : map (begin_of small) (0 ∷ 1 ∷ 2 ∷ 3 ∷ 4 ∷ 5 ∷ []) ≡ 0 ∷ 64 ∷ 108 ∷ 152 ∷ 196 ∷ 196 ∷ []
unfolding small of_byte chunk_end_of end_of shortest
begins_of_small = refl

-- where four chunks of 30005 bytes of data begin, over one block header
large : ChunkValue
large = record { kind = 0x72; num_records = 1; decoded_size = 30000; «data» = replicate 30005 0 }

begins_of_large : map (begin_of (signature ∷ large ∷ large ∷ large ∷ large ∷ [])) (0 ∷ 1 ∷ 2 ∷ 3 ∷ 4 ∷ 5 ∷ []) ≡ 0 ∷ 64 ∷ 30109 ∷ 60154 ∷ 90223 ∷ 120268 ∷ []
unfolding large chunk_end_of end_of
begins_of_large = refl

-- how much padding is written: up to the block where a header fits before it, else up to the one behind it
padding_sizes : map padding_size_of (64 ∷ 196 ∷ 65496 ∷ 65497 ∷ 65535 ∷ 65561 ∷ 65604 ∷ [])
    ≡ 65432 ∷ 65300 ∷ 0 ∷ 65511 ∷ 65473 ∷ 65471 ∷ 65428 ∷ []
padding_sizes = refl

-- it is one chunk, and none at a block
padding_at_places : map padding_at (64 ∷ 65496 ∷ 65497 ∷ 131072 ∷ [])
    ≡ (padding 65432 ∷ []) ∷ (padding 0 ∷ []) ∷ (padding 65511 ∷ []) ∷ [] ∷ []
unfolding padding_at
padding_at_places = refl

-- and ends at these blocks
padding_ends : map (λ place. end_of_chunks place (padding_at place)) (64 ∷ 65496 ∷ 65497 ∷ 131072 ∷ []) ≡ 65536 ∷ 65536 ∷ 131072 ∷ 131072 ∷ []
unfolding padding_at chunk_end_of end_of
padding_ends = refl

-- the signature, metadata with any decoded size, and padding with any data are plain chunks without records
no_rule_but : (kind a b c : ℕ) → (kind ≡ 0x73 → (a ≡ 0) × (b ≡ 0) × (c ≡ 0)) → (kind ≡ 0x6d → b ≡ 0) → (kind ≡ 0x70 → (b ≡ 0) × (c ≡ 0)) → KeepsRule kind a b c
no_rule_but kind a b c s m p = record { signature = s; metadata = m; padding = p }

plain_signature : IsPlain signature
plain_signature = (lit≤ tt, inr (inl (refl, no_rule_but _ _ _ _ (λ _. (refl, refl, refl)) (λ _. refl) (λ _. (refl, refl)))))

plain_metadata : IsPlain (record { kind = 0x6d; num_records = 0; decoded_size = 99; «data» = replicate 5 7 })
plain_metadata = (lit≤ tt, inr (inr (inl (refl, no_rule_but _ _ _ _ (λ e. absurd (omega arith)) (λ _. refl) (λ e. absurd (omega arith))))))

plain_padding : IsPlain (record { kind = 0x70; num_records = 0; decoded_size = 0; «data» = replicate 5 7 })
plain_padding = (lit≤ tt, inr (inr (inr (refl, no_rule_but _ _ _ _ (λ e. absurd (omega arith)) (λ _. refl) (λ _. (refl, refl))))))

-- a transposed chunk, and one whose compression is not 0, are left unread
unread_transposed : IsUnread (record { kind = 0x74; num_records = 65480; decoded_size = 0; «data» = replicate 10 0 })
unread_transposed = (lit≤ tt, inl refl)

compressed : ChunkValue
compressed = record { kind = 0x72; num_records = 1; decoded_size = 1; «data» = 0x62 ∷ 0x00 ∷ [] }

unread_compressed : IsUnread compressed
unfolding compressed
unread_compressed = (lit≤ tt, inr (refl, lit< tt, λ same. omega arith))

-- numbers of which one is less are two
not_same : (a b : ℕ) → b < a → a ≡ b → ⊥
not_same a b less same = omega arith

-- a chunk of another kind is neither
other : ChunkValue
other = record { kind = 0x7a; num_records = 0; decoded_size = 0; «data» = [] }

other_is_not_plain : IsPlain other → ⊥
unfolding other
other_is_not_plain (_, inl simple) = not_same 0x7a 0x72 (lit< tt) simple.1.kind
other_is_not_plain (_, inr (inl is)) = not_same 0x7a 0x73 (lit< tt) is.0
other_is_not_plain (_, inr (inr (inl is))) = not_same 0x7a 0x6d (lit< tt) is.0
other_is_not_plain (_, inr (inr (inr is))) = not_same 0x7a 0x70 (lit< tt) is.0

other_is_not_unread : IsUnread other → ⊥
unfolding other
other_is_not_unread (_, inl transposed) = not_same 0x7a 0x74 (lit< tt) transposed
other_is_not_unread (_, inr (simple, some, compression)) = not_same 0x7a 0x72 (lit< tt) simple

-- nor is a simple chunk without data
empty : ChunkValue
empty = record { kind = 0x72; num_records = 0; decoded_size = 0; «data» = [] }

empty_is_not_plain : IsPlain empty → ⊥
unfolding empty
empty_is_not_plain (_, inl (records, simple)) =
    not_same (suc (length (simple.spelled_size ++ simple.sizes ++ concat records))) 0 (omega arith) (sym (ap length simple.«data»))
empty_is_not_plain (_, inr (inl is)) = not_same 0x73 0x72 (lit< tt) (sym is.0)
empty_is_not_plain (_, inr (inr (inl is))) = not_same 0x72 0x6d (lit< tt) is.0
empty_is_not_plain (_, inr (inr (inr is))) = not_same 0x72 0x70 (lit< tt) is.0

empty_is_not_unread : IsUnread empty → ⊥
unfolding empty
empty_is_not_unread (_, inl transposed) = not_same 0x74 0x72 (lit< tt) (sym transposed)
empty_is_not_unread (_, inr (simple, some, compression)) = not_same 1 0 (lit< tt) (let h : 0 < 0 = some in omega arith)

-- the chunk of a record holds that record, and not none
of_byte_is_simple : (b : ℕ) → IsSimple (of_byte b) ((b ∷ []) ∷ [])
unfolding of_byte shortest
of_byte_is_simple b = IsSimple-simple_chunk ((b ∷ []) ∷ []) (lit< tt, tt) (lit< tt)

record_is_held : (b : ℕ) → Holds (of_byte b) ((b ∷ []) ∷ [])
record_is_held b = inl (of_byte_is_simple b)

none_is_not_held : (b : ℕ) → Holds (of_byte b) [] → ⊥
unfolding of_byte
none_is_not_held b (inl simple) = not_same 1 0 (lit< tt) simple.num_records
none_is_not_held b (inr (none, nothing)) = none ((b ∷ []) ∷ [], of_byte_is_simple b)

-- an unread chunk holds none, though it has a record, and not that one
compressed_has_none : IsSimpleChunk compressed → ⊥
unfolding compressed
compressed_has_none (records, simple) = not_same 0x62 0 (lit< tt) (ap (λ (bytes : List ℕ). slice_index bytes 0) simple.«data»)

none_is_held : Holds compressed []
none_is_held = inr (compressed_has_none, refl)

record_is_not_held : Holds compressed ((0x61 ∷ []) ∷ []) → ⊥
record_is_not_held (inl simple) = compressed_has_none ((0x61 ∷ []) ∷ [], simple)
record_is_not_held (inr (none, nothing)) = not_same 1 0 (lit< tt) (ap length nothing)

-- so the signature holds none, and each chunk of the small file its record, which are the file's records
signature_holds_none : Holds signature []
signature_holds_none = inr (λ has. not_same 0x73 0x72 (lit< tt) has.1.kind, refl)

small_lists : HoldEach small ([] ∷ ((0x61 ∷ []) ∷ []) ∷ ((0x62 ∷ []) ∷ []) ∷ ((0x63 ∷ []) ∷ []) ∷ [])
unfolding small
small_lists = (signature_holds_none, (record_is_held 0x61, (record_is_held 0x62, (record_is_held 0x63, refl))))

small_records : AreRecordsOf small ((0x61 ∷ []) ∷ (0x62 ∷ []) ∷ (0x63 ∷ []) ∷ [])
small_records = ([] ∷ ((0x61 ∷ []) ∷ []) ∷ ((0x62 ∷ []) ∷ []) ∷ ((0x63 ∷ []) ∷ []) ∷ [], small_lists, refl)

-- the totals of that file, and of one with a compressed chunk behind the signature
totals_of_small : totals_of small ≡ record { chunks = 4; records = 3; bytes = 196; unread = 0 }
unfolding small of_byte chunk_end_of end_of shortest
totals_of_small = refl

totals_of_compressed : totals_of (signature ∷ record { kind = 0x72; num_records = 9; decoded_size = 1; «data» = 0x62 ∷ 0 ∷ [] } ∷ []) ≡
    record { chunks = 2; records = 0; bytes = 106; unread = 1 }
unfolding chunk_end_of end_of
totals_of_compressed = refl

-- the records `a` and `bc` in one chunk, and `d` in the next, with their positions
placed_of_two : placed_from 64 (simple_chunk ((0x61 ∷ []) ∷ (0x62 ∷ 0x63 ∷ []) ∷ []) ∷ simple_chunk ((0x64 ∷ []) ∷ []) ∷ [])
    (((0x61 ∷ []) ∷ (0x62 ∷ 0x63 ∷ []) ∷ []) ∷ ((0x64 ∷ []) ∷ []) ∷ []) ≡
    (64, 0x61 ∷ []) ∷ (65, 0x62 ∷ 0x63 ∷ []) ∷ (111, 0x64 ∷ []) ∷ []
unfolding chunk_end_of end_of shortest
placed_of_two = refl
