-- Values counted by hand, computed from the definitions. The hashes are those of an independent program.
use Rattle.std.specs.List.{concat}
use Rattle.std.proofs.Common.{◌≡◌, ℕ, suc, sym, ◌∙◌, ◌+◌, ◌*◌, ◌%◌, ◌<◌, ◌≤◌, List, [], ◌∷◌, ◌++◌, length, replicate, slice_index, lit<, refl, ap, subst, append-nil, length-append, arith}
use Rattle.highway_hash.specs.HighwayHash.{hash_of, finished, after_remainder, after_packets, finishing_round, updated, mixed, multiplied, zipped, reset, lanes_of, remainder_packet}
use Rattle.highway_hash.specs.Riegeli.{with_hash}
use Rattle.varint_wire.specs.Varint.{Spells, SpellsEach, shortest}
use Rattle.varint_wire.proofs.Spellings.{Spells-small}
use Rattle.varint_wire.proofs.Values.{longer_spelling_of_1}
use Rattle.chunk_header.specs.Chunks.{ChunkValue, IsChunk, IsRightChunkHeader, header_fields, header_bytes, chunk_bytes}
use Rattle.chunk_header.specs.SimpleChunks.{IsSimple, simple_data, simple_chunk}

-- a header of no data and no records, with the hash of no data
empty_header : (kind : ℕ) → List ℕ
empty_header kind =
    0x91 ∷ 0xba ∷ 0xc2 ∷ 0x3c ∷ 0x92 ∷ 0x87 ∷ 0xe1 ∷ 0xa9
    ∷ 0 ∷ 0 ∷ 0 ∷ 0 ∷ 0 ∷ 0 ∷ 0 ∷ 0
    ∷ 0xe1 ∷ 0x9f ∷ 0x13 ∷ 0xc0 ∷ 0xe9 ∷ 0xb1 ∷ 0xc3 ∷ 0x72
    ∷ kind ∷ 0 ∷ 0 ∷ 0 ∷ 0 ∷ 0 ∷ 0 ∷ 0
    ∷ 0 ∷ 0 ∷ 0 ∷ 0 ∷ 0 ∷ 0 ∷ 0 ∷ 0 ∷ []

-- the header of the signature chunk
signature_header : header_bytes (record { kind = 0x73; num_records = 0; decoded_size = 0; «data» = [] }) ≡ empty_header 0x73
unfolding empty_header hash_of finished after_remainder after_packets finishing_round updated mixed multiplied zipped reset lanes_of remainder_packet
signature_header = refl

-- it is right, and with another kind it isn't
signature_is_right : IsRightChunkHeader (empty_header 0x73)
unfolding empty_header hash_of finished after_remainder after_packets finishing_round updated mixed multiplied zipped reset lanes_of remainder_packet
signature_is_right = (refl, refl)

changed_kind_is_not_right : IsRightChunkHeader (empty_header 0x72) → ⊥
unfolding empty_header hash_of finished after_remainder after_packets finishing_round updated mixed multiplied zipped reset lanes_of remainder_packet
changed_kind_is_not_right is = omega (arith, ap (λ xs. slice_index xs 0) is.1)

-- the hash of nothing, and nothing behind it, is no header
hash_alone_is_not_right : IsRightChunkHeader (with_hash []) → ⊥
hash_alone_is_not_right is = omega (arith, is.0)

-- each field in its place, the lowest byte first: 7 bytes hold the number of records
fields_in_place : header_fields 0x0102030405060708 0x1112131415161718 0x72 0x21222324252627 0x3132333435363738 ≡
    0x08 ∷ 0x07 ∷ 0x06 ∷ 0x05 ∷ 0x04 ∷ 0x03 ∷ 0x02 ∷ 0x01
    ∷ 0x18 ∷ 0x17 ∷ 0x16 ∷ 0x15 ∷ 0x14 ∷ 0x13 ∷ 0x12 ∷ 0x11
    ∷ 0x72 ∷ 0x27 ∷ 0x26 ∷ 0x25 ∷ 0x24 ∷ 0x23 ∷ 0x22 ∷ 0x21
    ∷ 0x38 ∷ 0x37 ∷ 0x36 ∷ 0x35 ∷ 0x34 ∷ 0x33 ∷ 0x32 ∷ 0x31 ∷ []
fields_in_place = refl

-- the records `a`, `bc` and an empty one: header, then data
chunk_bytes_of_three : chunk_bytes (simple_chunk ((0x61 ∷ []) ∷ (0x62 ∷ 0x63 ∷ []) ∷ [] ∷ [])) ≡
    0x18 ∷ 0x09 ∷ 0xa8 ∷ 0x0e ∷ 0x07 ∷ 0xa2 ∷ 0x61 ∷ 0x2f
    ∷ 0x08 ∷ 0 ∷ 0 ∷ 0 ∷ 0 ∷ 0 ∷ 0 ∷ 0
    ∷ 0xc5 ∷ 0x3d ∷ 0x74 ∷ 0x41 ∷ 0x6c ∷ 0xa3 ∷ 0x86 ∷ 0x87
    ∷ 0x72 ∷ 0x03 ∷ 0 ∷ 0 ∷ 0 ∷ 0 ∷ 0 ∷ 0
    ∷ 0x03 ∷ 0 ∷ 0 ∷ 0 ∷ 0 ∷ 0 ∷ 0 ∷ 0
    ∷ 0x00 ∷ 0x03 ∷ 0x01 ∷ 0x02 ∷ 0x00 ∷ 0x61 ∷ 0x62 ∷ 0x63 ∷ []
unfolding hash_of finished after_remainder after_packets finishing_round updated mixed multiplied zipped reset lanes_of remainder_packet shortest
chunk_bytes_of_three = refl

-- the records `a` and `b`
data_of_two : simple_data ((0x61 ∷ []) ∷ (0x62 ∷ []) ∷ []) ≡ 0x00 ∷ 0x02 ∷ 0x01 ∷ 0x01 ∷ 0x61 ∷ 0x62 ∷ []
unfolding shortest
data_of_two = refl

-- a record of the bytes 00 and ff, and an empty one
data_with_an_empty_record : simple_data ((0x00 ∷ 0xff ∷ []) ∷ [] ∷ []) ≡ 0x00 ∷ 0x02 ∷ 0x02 ∷ 0x00 ∷ 0x00 ∷ 0xff ∷ []
unfolding shortest
data_with_an_empty_record = refl

-- no record: no byte of sizes
data_of_none : simple_data [] ≡ 0x00 ∷ 0x00 ∷ []
unfolding shortest
data_of_none = refl

-- one record of 300 bytes: two bytes of size
data_of_a_longer_record : simple_data (replicate 300 0x61 ∷ []) ≡ 0x00 ∷ 0x02 ∷ 0xac ∷ 0x02 ∷ replicate 300 0x61
unfolding shortest
data_of_a_longer_record = refl

-- 130 empty records: 130 bytes of sizes, whose number takes two bytes
data_of_many_empty_records : simple_data (replicate 130 []) ≡ 0x00 ∷ 0x82 ∷ 0x01 ∷ replicate 130 0x00
unfolding shortest
data_of_many_empty_records = refl

-- the count and the decoded size of three records
counts_of_three : (simple_chunk ((0x61 ∷ []) ∷ (0x62 ∷ 0x63 ∷ []) ∷ [] ∷ [])).num_records ≡ 3
counts_of_three = refl

sizes_of_three : (simple_chunk ((0x61 ∷ []) ∷ (0x62 ∷ 0x63 ∷ []) ∷ [] ∷ [])).decoded_size ≡ 3
sizes_of_three = refl

-- the record `a`, where the size of the sizes has a longer spelling
simple_with_a_longer_spelling : IsSimple (record { kind = 0x72; num_records = 1; decoded_size = 1; «data» = 0x00 ∷ 0x81 ∷ 0x00 ∷ 0x01 ∷ 0x61 ∷ [] }) ((0x61 ∷ []) ∷ [])
simple_with_a_longer_spelling = record {
  kind = refl;
  num_records = refl;
  decoded_size = refl;
  spelled_size = 0x81 ∷ 0x00 ∷ [];
  sizes = 0x01 ∷ [];
  spells_size = longer_spelling_of_1;
  spells_each = (0x01 ∷ [], [], refl, Spells-small 1 (lit< tt), refl);
  «data» = refl;
}

-- the empty list of records is a chunk too
simple_of_none : IsSimple (record { kind = 0x72; num_records = 0; decoded_size = 0; «data» = 0x00 ∷ 0x00 ∷ [] }) []
simple_of_none = record {
  kind = refl;
  num_records = refl;
  decoded_size = refl;
  spelled_size = 0x00 ∷ [];
  sizes = [];
  spells_size = Spells-small 0 (lit< tt);
  spells_each = refl;
  «data» = refl;
}

-- a header can hold each field of this chunk
fields_in_range : IsChunk (record { kind = 0x73; num_records = 0; decoded_size = 0; «data» = 0x41 ∷ [] })
fields_in_range = record { kind = lit< tt; num_records = lit< tt; decoded_size = lit< tt; size = lit< tt; bytes = (lit< tt, tt) }

-- without data there is no simple chunk, nor where the first byte isn't 0
no_data_is_not_simple : (k : ChunkValue) (records : List (List ℕ)) → k.«data» ≡ [] → IsSimple k records → ⊥
no_data_is_not_simple k records none is =
    let some : 0 ≡ suc (length (is.spelled_size ++ is.sizes ++ concat records)) = ap length (sym none ∙ is.«data») in
    omega arith

compressed_is_not_simple : (k : ChunkValue) (records : List (List ℕ)) → slice_index k.«data» 0 ≡ 0x62 → IsSimple k records → ⊥
compressed_is_not_simple k records first is =
    let zero_first : slice_index k.«data» 0 ≡ 0 = ap (λ xs. slice_index xs 0) is.«data» in
    omega arith

only_size : (value : ℕ) (k_data spelled_size sizes r : List ℕ) → SpellsEach (value ∷ []) sizes → k_data ≡ 0 ∷ spelled_size ++ sizes ++ concat (r ∷ [])
    → Spells value sizes × (k_data ≡ 0 ∷ spelled_size ++ sizes ++ r)
only_size value k_data spelled_size sizes r (front, rest, joined, spells, none) same = (
  subst (Spells value) (sym (joined ∙ ap (λ xs. front ++ xs) none ∙ append-nil front)) spells,
  same ∙ ap (λ xs. 0 ∷ spelled_size ++ sizes ++ xs) (append-nil r),
)

-- a chunk of one record has one size, which is the record's
only_record : (k : ChunkValue) (r : List ℕ) (is : IsSimple k (r ∷ [])) → Spells (length r) is.sizes × (k.«data» ≡ 0 ∷ is.spelled_size ++ is.sizes ++ r)
only_record k r is = only_size (length r) k.«data» is.spelled_size is.sizes r is.spells_each is.«data»

-- where the one record has the size 2, one byte of values is not its bytes
other_sum : (spelled_size sizes r : List ℕ) → Spells (length sizes) spelled_size → Spells (length r) sizes → length r ≡ 1
    → 0x00 ∷ 0x01 ∷ 0x02 ∷ 0x61 ∷ [] ≡ 0 ∷ spelled_size ++ sizes ++ r → ⊥
other_sum [] sizes r first second one same = let h : 0 < 0 = first.some in omega arith
other_sum (a ∷ []) [] r first second one same = let h : 0 < 0 = second.some in omega arith
other_sum (a ∷ []) (b ∷ []) r first second one same =
    let is_two : 2 ≡ b = ap (λ xs. slice_index xs 2) same in
    let is_length : b % 128 + 128 * 0 ≡ length r = second.value_is in
    omega arith
other_sum (a ∷ []) (b ∷ c ∷ sizes) r first second one same =
    let h : 4 ≡ suc (suc (suc (suc (length (sizes ++ r))))) = ap length same in
    omega (arith, length-append {A = ℕ} sizes r)
other_sum (a ∷ b ∷ more) [] r first second one same = let h : 0 < 0 = second.some in omega arith
other_sum (a ∷ b ∷ more) (c ∷ sizes) r first second one same =
    let is_one : 1 ≡ a = ap (λ xs. slice_index xs 1) same in
    let goes_on : 128 ≤ a = (first.continued 0 (omega arith)).0 in
    omega arith

-- where one byte is left among the sizes, it is no record's size
byte_left : (spelled_size sizes r : List ℕ) → Spells (length sizes) spelled_size → Spells (length r) sizes → length r ≡ 1
    → 0x00 ∷ 0x02 ∷ 0x01 ∷ 0x00 ∷ 0x61 ∷ [] ≡ 0 ∷ spelled_size ++ sizes ++ r → ⊥
byte_left [] sizes r first second one same = let h : 0 < 0 = first.some in omega arith
byte_left (a ∷ []) [] r first second one same = let h : 0 < 0 = second.some in omega arith
byte_left (a ∷ []) (b ∷ []) r first second one same =
    let h : 5 ≡ suc (suc (suc (length r))) = ap length same in omega arith
byte_left (a ∷ []) (b ∷ c ∷ sizes) r first second one same =
    let is_one : 1 ≡ b = ap (λ xs. slice_index xs 2) same in
    let goes_on : 128 ≤ b = (second.continued 0 (omega arith)).0 in
    omega arith
byte_left (a ∷ b ∷ more) [] r first second one same = let h : 0 < 0 = second.some in omega arith
byte_left (a ∷ b ∷ more) (c ∷ sizes) r first second one same =
    let is_two : 2 ≡ a = ap (λ xs. slice_index xs 1) same in
    let goes_on : 128 ≤ a = (first.continued 0 (omega arith)).0 in
    omega arith

-- so neither chunk is simple, whichever records are tried
simple_of : List ℕ → ChunkValue
simple_of bytes = record { kind = 0x72; num_records = 1; decoded_size = 1; «data» = bytes }

other_sum_is_not_simple : (records : List (List ℕ)) → IsSimple (simple_of (0x00 ∷ 0x01 ∷ 0x02 ∷ 0x61 ∷ [])) records → ⊥
unfolding simple_of
other_sum_is_not_simple [] is = omega (arith, is.num_records)
other_sum_is_not_simple (r ∷ []) is =
    let it = only_record _ r is in
    let whole : 1 ≡ 0 + length r = is.decoded_size in
    other_sum is.spelled_size is.sizes r is.spells_size it.0 (omega arith) it.1
other_sum_is_not_simple (r ∷ s ∷ more) is = omega (arith, is.num_records)

byte_left_is_not_simple : (records : List (List ℕ)) → IsSimple (simple_of (0x00 ∷ 0x02 ∷ 0x01 ∷ 0x00 ∷ 0x61 ∷ [])) records → ⊥
unfolding simple_of
byte_left_is_not_simple [] is = omega (arith, is.num_records)
byte_left_is_not_simple (r ∷ []) is =
    let it = only_record _ r is in
    let whole : 1 ≡ 0 + length r = is.decoded_size in
    byte_left is.spelled_size is.sizes r is.spells_size it.0 (omega arith) it.1
byte_left_is_not_simple (r ∷ s ∷ more) is = omega (arith, is.num_records)
