-- Values counted by hand, computed from the definitions. The hashes are those of an independent program.
use Rattle.std.proofs.Common.{◌≡◌, ◌∙◌, ℕ, ◌+◌, ◌-◌, ◌^◌, ◌<◌, ◌≤◌, Some, None, Err, Bool, false, true, List, [], ◌∷◌, ◌++◌, length, take, set, replicate, slice_index, lit<, lit≤, refl, sym, ap, subst, inl, inr, arith}
use Rattle.std.specs.Prelude.{slice_range}
use Rattle.std.proofs.lemmas.Option.{same_Some}
use Rattle.highway_hash.specs.HighwayHash.{hash_of, finished, after_remainder, after_packets, finishing_round, updated, mixed, multiplied, zipped, reset, lanes_of, remainder_packet}
use Rattle.highway_hash.specs.Riegeli.{with_hash, riegeli_hash}
use Rattle.varint_wire.specs.Varint.{shortest}
use Rattle.block_layout.specs.BlockHeaders.{IsRightBlockHeader}
use Rattle.block_layout.proofs.BlockHeaders.{IsRightBlockHeader-block_header}
use Rattle.block_layout.specs.Layout.{block_of, room, usable_bytes, end_of, chunk_end_of}
use Rattle.chunk_header.specs.Chunks.{ChunkValue, IsRightChunkHeader, header_fields}
use Rattle.chunk_header.specs.SimpleChunks.{IsSimple, simple_chunk}
use Rattle.chunk_header.proofs.SimpleChunks.{IsSimple-simple_chunk}
use Rattle.meta_chunk.specs.Files.{signature, IsPlain, IsChainOf}
use Rattle.meta_chunk.proofs.LaidChunks.{IsLaid-laid}
use Rattle.meta_chunk.proofs.Chains.{IsChainOf-push}
use Rattle.meta_chunk.specs.Laid.{IsLaid, laid_bytes}
use Rattle.chunk_reader.specs.Places.{header_bytes_at, header_at, end_by, end_at, chunk_at}
use Rattle.chunk_reader.specs.Reasons.{HasBadContents, ContentApplies, IsWrongBlock, Applies, NoneOf, IsFirstOf, content_reasons, unpassed_reasons}
use Rattle.chunk_reader.specs.Holders.{TellsBegin, ArePlacesBetween, IsOnWay, IsHolder, IsHolderFault}
use Rattle.chunk_reader.specs.Pieces.{TellsUnread}
use Rattle.chunk_reader.specs.PositionSearches.{MayAnswerAt, AnswersAt, HasRecordsAt, SearchGives, IsSearchFault}
use Rattle.chunk_reader.specs.SearchBounds.{length_of_chunk, chunks_without_records, greatest_length_from, digit_count_of_blocks, position_bound, key_bound}
use Rattle.chunk_reader.specs.Faults.{BeginsWithSignature, HasNoFault, IsFault}
use Rattle.chunk_reader.specs.declared.reasons.Fault.{Fault}
use Rattle.chunk_reader.specs.declared.reasons.Why.TheVariants as why
use Rattle.chunk_reader.proofs.SignedFiles.{chunk_at-signature, end_at-signature, no_reason-signature, signed_length}
use Rattle.chunk_reader.proofs.LaidAt.{chunk_at-laid}
use Rattle.chunk_reader.proofs.NoReason.{no_reason}
use Rattle.chunk_reader.proofs.ChainSteps.{signature_chain}
use Rattle.chunk_reader.proofs.ReadingSteps.{fault_here, no_fault_here}

-- the 64 bytes that a file begins with
first_bytes : List ℕ
first_bytes =
    0x83 ∷ 0xaf ∷ 0x70 ∷ 0xd1 ∷ 0x0d ∷ 0x88 ∷ 0x4a ∷ 0x3f ∷ replicate 8 0
    ++ 0x40 ∷ replicate 7 0
    ++ 0x91 ∷ 0xba ∷ 0xc2 ∷ 0x3c ∷ 0x92 ∷ 0x87 ∷ 0xe1 ∷ 0xa9
    ∷ replicate 8 0
    ++ 0xe1 ∷ 0x9f ∷ 0x13 ∷ 0xc0 ∷ 0xe9 ∷ 0xb1 ∷ 0xc3 ∷ 0x72
    ∷ 0x73
    ∷ replicate 15 0

-- the 40 bytes of the header of a chunk of `a`, `bc` and an empty record, and its data
three_header : List ℕ
three_header =
    0x18 ∷ 0x09 ∷ 0xa8 ∷ 0x0e ∷ 0x07 ∷ 0xa2 ∷ 0x61 ∷ 0x2f
    ∷ 0x08 ∷ replicate 7 0
    ++ 0xc5 ∷ 0x3d ∷ 0x74 ∷ 0x41 ∷ 0x6c ∷ 0xa3 ∷ 0x86 ∷ 0x87
    ∷ 0x72 ∷ 0x03 ∷ replicate 6 0
    ++ 0x03 ∷ replicate 7 0

three_data : List ℕ
three_data = 0x00 ∷ 0x03 ∷ 0x01 ∷ 0x02 ∷ 0x00 ∷ 0x61 ∷ 0x62 ∷ 0x63 ∷ []

-- the file of these records
three : List ℕ
three = first_bytes ++ three_header ++ three_data

length_of_three : length three ≡ 112
unfolding three first_bytes three_header three_data
length_of_three = refl

-- what stands at its two places
header_of_three : header_at three 64 ≡ record { data_size = 8; data_hash = 0x8786a36c41743dc5; kind = 0x72; num_records = 3; decoded_size = 3 }
unfolding three first_bytes three_header three_data usable_bytes
header_of_three = refl

end_of_three : end_at three 64 ≡ 112
unfolding three first_bytes three_header three_data usable_bytes chunk_end_of end_of
end_of_three = refl

chunk_of_three : chunk_at three 64 ≡ record { kind = 0x72; num_records = 3; decoded_size = 3; «data» = three_data }
unfolding three first_bytes three_header three_data usable_bytes
chunk_of_three = refl

first_of_three : chunk_at three 0 ≡ signature
unfolding three first_bytes three_header three_data usable_bytes
first_of_three = refl

first_end_of_three : end_at three 0 ≡ 64
unfolding three first_bytes three_header three_data usable_bytes chunk_end_of end_of
first_end_of_three = refl

-- it begins as files do
three_begins : BeginsWithSignature three
unfolding three first_bytes three_header three_data laid_bytes room chunk_end_of end_of hash_of finished after_remainder after_packets finishing_round updated mixed multiplied zipped reset lanes_of remainder_packet
three_begins = refl

-- its header is right, and so is the hash of its data
header_of_three_is_right : IsRightChunkHeader (header_bytes_at three 64)
unfolding three first_bytes three_header three_data usable_bytes hash_of finished after_remainder after_packets finishing_round updated mixed multiplied zipped reset lanes_of remainder_packet
header_of_three_is_right = (refl, refl)

hash_of_three : riegeli_hash (chunk_at three 64).«data» ≡ (header_at three 64).data_hash
unfolding three first_bytes three_header three_data usable_bytes hash_of finished after_remainder after_packets finishing_round updated mixed multiplied zipped reset lanes_of remainder_packet
hash_of_three = refl

-- a header with a changed byte is refused, though it is found
changed_header : Applies (set three 70 0) 64 why.HeaderHash
unfolding three first_bytes three_header three_data usable_bytes hash_of finished after_remainder after_packets finishing_round updated mixed multiplied zipped reset lanes_of remainder_packet
changed_header right = omega (arith, ap (λ (xs : List ℕ). slice_index xs 6) right.1)

-- so is data with one
changed_data : Applies (set three 111 0) 64 why.DataHash
unfolding three first_bytes three_header three_data usable_bytes hash_of finished after_remainder after_packets finishing_round updated mixed multiplied zipped reset lanes_of remainder_packet
changed_data same = omega (arith, same)

-- and a block header with one: block 0 in the chunk at 0
changed_block : IsWrongBlock (set three 8 1) 0 0
unfolding three first_bytes three_header three_data usable_bytes chunk_end_of end_of hash_of finished after_remainder after_packets finishing_round updated mixed multiplied zipped reset lanes_of remainder_packet
changed_block = record {
  is_block = refl;
  from = lit≤ tt;
  below = lit< tt;
  differs = λ same. omega (arith, ap (λ (xs : List ℕ). slice_index xs 8) same);
}

-- without its last byte the file ends before the chunk does
cut_of_three : Applies (take 111 three) 64 why.Truncated
unfolding three first_bytes three_header three_data usable_bytes chunk_end_of end_of
cut_of_three = lit< tt

-- a right header with the greatest size of data, in a file that ends behind it
far_header : List ℕ
far_header = with_hash (header_fields (2 ^ 64 - 1) 0 0x72 0 0)

far : List ℕ
far = first_bytes ++ far_header

far_is_right : IsRightChunkHeader (header_bytes_at far 64)
unfolding far far_header first_bytes usable_bytes hash_of finished after_remainder after_packets finishing_round updated mixed multiplied zipped reset lanes_of remainder_packet
far_is_right = (refl, refl)

far_end : end_at far 64 ≡ 18453501947958071519
unfolding far far_header first_bytes usable_bytes chunk_end_of end_of hash_of finished after_remainder after_packets finishing_round updated mixed multiplied zipped reset lanes_of remainder_packet
far_end = refl

far_is_cut : Applies far 64 why.Truncated
unfolding far far_header first_bytes usable_bytes chunk_end_of end_of hash_of finished after_remainder after_packets finishing_round updated mixed multiplied zipped reset lanes_of remainder_packet
far_is_cut = lit< tt

-- its first 90 bytes end within the header
far_is_short : Applies (take 90 far) 64 why.Short
unfolding far far_header first_bytes end_of hash_of finished after_remainder after_packets finishing_round updated mixed multiplied zipped reset lanes_of remainder_packet
far_is_short = lit< tt

-- the end of a header of 10 bytes of data and 65480 records, which lies in the header of the next block
end_in_a_block_header : end_by 64 (record { data_size = 10; data_hash = 0; kind = 0x74; num_records = 65480; decoded_size = 0 }) ≡ 65561
unfolding chunk_end_of end_of
end_in_a_block_header = refl

-- an empty file doesn't begin as files do
empty_file : IsFault false [] (record { at = 0; why = why.NoSignature })
empty_file = inl (λ begins. omega (arith, signed_length [] begins), refl)

-- contents: a simple chunk without data, a metadata chunk with a record, a byte left among the sizes, and a compressed one
empty : ChunkValue
empty = record { kind = 0x72; num_records = 0; decoded_size = 0; «data» = [] }

no_data : HasBadContents empty
unfolding empty
no_data = inr (refl, inl refl)

counted_metadata : HasBadContents (record { kind = 0x6d; num_records = 1; decoded_size = 0; «data» = replicate 5 7 })
counted_metadata = inl (λ rule. omega (arith, rule.metadata refl))

any_metadata : HasBadContents (record { kind = 0x6d; num_records = 0; decoded_size = 99; «data» = replicate 5 7 }) → ⊥
any_metadata (inl broken) = broken (record {
  signature = λ is. absurd (omega arith);
  metadata = λ is. refl;
  padding = λ is. absurd (omega arith);
})
any_metadata (inr (simple, bad)) = absurd (omega arith)

compressed : ChunkValue
compressed = record { kind = 0x72; num_records = 1; decoded_size = 1; «data» = 0x62 ∷ 0x00 ∷ [] }

compressed_applies : (hash : ℕ) → ContentApplies hash compressed why.Compressed
unfolding compressed
compressed_applies hash = (refl, lit< tt, λ same. omega arith)

compressed_content : (hash : ℕ) → ContentApplies hash compressed why.Contents → ⊥
unfolding compressed
compressed_content hash (inl broken) = broken (record {
  signature = λ is. absurd (omega arith);
  metadata = λ is. absurd (omega arith);
  padding = λ is. absurd (omega arith);
})
compressed_content hash (inr (simple, inl none)) = omega (arith, ap length none)
compressed_content hash (inr (simple, inr (plain, none))) = omega (arith, same_Some 0x62 0 plain)

-- where the hash is wrong and the contents are too, the hash is told
hash_before_contents : (unread_ok : Bool) → IsFirstOf (ContentApplies 0 empty) (content_reasons unread_ok) why.DataHash
unfolding empty hash_of finished after_remainder after_packets finishing_round updated mixed multiplied zipped reset lanes_of remainder_packet
hash_before_contents false = inl (λ same. omega (arith, same), refl)
hash_before_contents true = inl (λ same. omega (arith, same), refl)

-- so wrong contents aren't told there where a file is verified
contents_behind_hash : ¬ TellsUnread 0 empty (Err why.Contents)
unfolding empty hash_of finished after_remainder after_packets finishing_round updated mixed multiplied zipped reset lanes_of remainder_packet
contents_behind_hash (inl told) =
    let same : why.Contents ≡ why.DataHash = told.1 in
    absurd (cc)
contents_behind_hash (inr behind) = behind.0 (λ same. omega (arith, same))

-- so the file with a changed header has that fault behind its first chunk
changed_begins : BeginsWithSignature (set three 70 0)
unfolding three first_bytes three_header three_data laid_bytes room chunk_end_of end_of hash_of finished after_remainder after_packets finishing_round updated mixed multiplied zipped reset lanes_of remainder_packet
changed_begins = refl

changed_length : length (set three 70 0) ≡ 112
unfolding three first_bytes three_header three_data
changed_length = refl

changed_not_short : ¬ Applies (set three 70 0) 64 why.Short
unfolding end_of
changed_not_short short = omega (arith, short, changed_length)

changed_fault : IsFault false (set three 70 0) (record { at = 64; why = why.HeaderHash })
changed_fault =
    fault_here false (signature ∷ []) (set three 70 0) 64 (record { at = 64; why = why.HeaderHash }) changed_begins
    (signature_chain false (set three 70 0) changed_begins)
    (omega (arith, changed_length))
    (inr (changed_not_short, inl (changed_header, refl)), refl)

-- and the file as it was has none
three_chunk : ChunkValue
three_chunk = simple_chunk ((0x61 ∷ []) ∷ (0x62 ∷ 0x63 ∷ []) ∷ [] ∷ [])

three_laid : IsLaid 64 three_chunk (slice_range three 64 112)
unfolding three first_bytes three_header three_data three_chunk laid_bytes room chunk_end_of end_of shortest hash_of finished after_remainder after_packets finishing_round updated mixed multiplied zipped reset lanes_of remainder_packet
three_laid = IsLaid-laid 64 three_chunk (record {
  kind = lit< tt;
  num_records = lit< tt;
  decoded_size = lit< tt;
  size = lit< tt;
  bytes = (lit< tt, (lit< tt, (lit< tt, (lit< tt, (lit< tt, (lit< tt, (lit< tt, (lit< tt, tt))))))));
})

three_plain : IsPlain three_chunk
unfolding three_chunk shortest
three_plain = (
  lit≤ tt,
  inl (
    (0x61 ∷ []) ∷ (0x62 ∷ 0x63 ∷ []) ∷ [] ∷ [],
    IsSimple-simple_chunk ((0x61 ∷ []) ∷ (0x62 ∷ 0x63 ∷ []) ∷ [] ∷ []) (lit< tt, (lit< tt, (lit< tt, tt))) (lit< tt),
  ),
)

three_has_no_fault : HasNoFault false three
three_has_no_fault =
    no_fault_here false (signature ∷ three_chunk ∷ []) three three_begins
    (subst (λ (n : ℕ). IsChainOf IsPlain (signature ∷ three_chunk ∷ []) three n) (sym length_of_three)
    (IsChainOf-push (signature ∷ []) three_chunk three 64 112 (signature_chain false three three_begins) refl three_plain
    (omega (arith, length_of_three)) three_laid))

-- the header of block 0 tells that a chunk begins there
front_told : TellsBegin three 0 0
unfolding three first_bytes three_header three_data hash_of finished after_remainder after_packets finishing_round updated mixed multiplied zipped reset lanes_of remainder_packet
front_told = (
  0,
  64,
  record {
    is_block = refl;
    bytes = refl;
    sane = record {
      back = lit≤ tt;
      past_itself = lit< tt;
      in_reach = lit≤ tt;
      from_boundary = inl refl;
      to_boundary = inr (lit< tt);
    };
  },
  refl,
)

-- both chunks are whole, and stand between the file's front and its end
front_whole : NoneOf (Applies three 0) unpassed_reasons
front_whole =
    let none = no_reason-signature false three three_begins in
    (none.0, (none.1.0, (none.1.1.0, tt)))

header_end_of_three : end_of 64 40 ≡ 104
unfolding end_of
header_end_of_three = refl

three_whole : NoneOf (Applies three 64) unpassed_reasons
three_whole = (
  (λ short. omega (arith, short, length_of_three, header_end_of_three)),
  ((λ wrong. wrong header_of_three_is_right), ((λ cut. omega (arith, cut, length_of_three, end_of_three)), tt)),
)

places_of_three : ArePlacesBetween three 0 112 (0 ∷ 64 ∷ [])
places_of_three = (
  refl,
  front_whole,
  subst (λ (p : ℕ). ArePlacesBetween three p 112 (64 ∷ [])) (sym first_end_of_three) (refl, three_whole, end_of_three),
)

-- a chunk holds the positions from its begin up to its end, and none holds one at the file's end
on_way : (position place : ℕ) (places : List ℕ) → position < 112 → place ≤ position → ArePlacesBetween three 0 place places
    → IsOnWay three position place
on_way position place places below before between = record {
  begin = 0;
  places = places;
  below = omega (arith, below, length_of_three);
  told = subst (λ (b : ℕ). TellsBegin three b 0) (omega (arith, below)) front_told;
  between = between;
  before = before;
}

signature_holds : (position : ℕ) → position < 64 → IsHolder three position 0
signature_holds position below = record {
  on_way = on_way position 0 [] (omega (arith, below)) (omega arith) refl;
  whole = front_whole;
  within = omega (arith, below, first_end_of_three);
}

three_holds : (position : ℕ) → 64 ≤ position → position < 112 → IsHolder three position 64
three_holds position past below = record {
  on_way = on_way position 64 (0 ∷ []) below past (refl, front_whole, first_end_of_three);
  whole = three_whole;
  within = omega (arith, below, end_of_three);
}

signature_holds_no_more : ¬ IsHolder three 64 0
signature_holds_no_more h = omega (arith, h.within, first_end_of_three)

none_holds_the_end : (place : ℕ) → ¬ IsHolder three 112 place
none_holds_the_end place h = omega (arith, h.on_way.below, length_of_three)

-- a position before the records finds the first, each of theirs its own, and one behind them nothing
no_records_in_front : (position : ℕ) → ¬ MayAnswerAt three position 0
no_records_in_front position may = omega (arith, may.0, ap (λ (k : ChunkValue). k.num_records) first_of_three)

records_of_three : (header_at three 64).num_records ≡ 3
records_of_three = ap (λ (k : ChunkValue). k.num_records) chunk_of_three

answers_before : (position : ℕ) → position < 64 → AnswersAt three position 64
answers_before position before = record {
  searched = record {
    holder = 0;
    places = 0 ∷ [];
    holds = signature_holds position before;
    between = (refl, front_whole, first_end_of_three);
    none = (no_records_in_front position, tt);
  };
  whole = three_whole;
  has = (omega (arith, records_of_three), omega (arith, records_of_three, before));
}

answers_here : (position : ℕ) → 64 ≤ position → position < 67 → AnswersAt three position 64
answers_here position past before = record {
  searched = record {
    holder = 64;
    places = [];
    holds = three_holds position past (omega (arith, before));
    between = refl;
    none = tt;
  };
  whole = three_whole;
  has = (omega (arith, records_of_three), omega (arith, records_of_three, before));
}

three_values : List (List ℕ)
three_values = (0x61 ∷ []) ∷ (0x62 ∷ 0x63 ∷ []) ∷ [] ∷ []

three_there : HasRecordsAt three 64 three_values
unfolding three_values three_chunk shortest
three_there = record {
  without_fault = no_reason false 64 three_chunk three 112 three_laid three_plain;
  holds = subst (λ (k : ChunkValue). IsSimple k three_values) (sym (chunk_at-laid 64 three_chunk three 112 three_laid))
      (IsSimple-simple_chunk three_values (lit< tt, (lit< tt, (lit< tt, tt))) (lit< tt));
}

first_is_sought : SearchGives three 0 (Some (64, 0x61 ∷ []))
unfolding three_values
first_is_sought = record {
  place = 64;
  records = three_values;
  answers = answers_before 0 (lit< tt);
  holds = three_there;
  record_there = refl;
  position_there = refl;
}

second_is_sought : SearchGives three 65 (Some (65, 0x62 ∷ 0x63 ∷ []))
unfolding three_values
second_is_sought = record {
  place = 64;
  records = three_values;
  answers = answers_here 65 (lit≤ tt) (lit< tt);
  holds = three_there;
  record_there = refl;
  position_there = refl;
}

third_is_sought : SearchGives three 66 (Some (66, []))
unfolding three_values
third_is_sought = record {
  place = 64;
  records = three_values;
  answers = answers_here 66 (lit≤ tt) (lit< tt);
  holds = three_there;
  record_there = refl;
  position_there = refl;
}

nothing_behind : SearchGives three 67 None
nothing_behind = inr (record {
  holder = 64;
  places = 64 ∷ [];
  holds = three_holds 67 (lit≤ tt) (lit< tt);
  between = (refl, three_whole, end_of_three ∙ sym length_of_three);
  none = ((λ may. omega (arith, may.1, records_of_three)), tt);
})

nothing_at_the_end : SearchGives three 112 None
nothing_at_the_end = inl (omega (arith, length_of_three))

-- with a changed header behind it the signature still holds its positions, and the search meets the fault
changed_told : TellsBegin (set three 70 0) 0 0
unfolding three first_bytes three_header three_data hash_of finished after_remainder after_packets finishing_round updated mixed multiplied zipped reset lanes_of remainder_packet
changed_told = (
  0,
  64,
  record {
    is_block = refl;
    bytes = refl;
    sane = record {
      back = lit≤ tt;
      past_itself = lit< tt;
      in_reach = lit≤ tt;
      from_boundary = inl refl;
      to_boundary = inr (lit< tt);
    };
  },
  refl,
)

changed_front_whole : NoneOf (Applies (set three 70 0) 0) unpassed_reasons
changed_front_whole =
    let none = no_reason-signature false (set three 70 0) changed_begins in
    (none.0, (none.1.0, (none.1.1.0, tt)))

changed_first_end : end_at (set three 70 0) 0 ≡ 64
changed_first_end = end_at-signature (set three 70 0) changed_begins

changed_signature_holds : IsHolder (set three 70 0) 63 0
changed_signature_holds = record {
  on_way = record {
    begin = 0;
    places = [];
    below = omega (arith, changed_length);
    told = changed_told;
    between = refl;
    before = lit≤ tt;
  };
  whole = changed_front_whole;
  within = omega (arith, changed_first_end);
}

changed_is_met_behind : IsSearchFault (set three 70 0) 63 (record { at = 64; why = why.HeaderHash })
changed_is_met_behind = inr (inl (
  record {
    holder = 0;
    places = 0 ∷ [];
    holds = changed_signature_holds;
    between = (refl, changed_front_whole, changed_first_end);
    none = (
      (λ may. omega (arith, may.0, ap (λ (k : ChunkValue). k.num_records) (chunk_at-signature (set three 70 0) changed_begins))),
      tt,
    );
  },
  omega (arith, changed_length),
  inr (changed_not_short, inl (changed_header, refl)),
))

-- no chunk holds a position at the changed header
changed_is_met_on_the_way : IsHolderFault (set three 70 0) 64 (record { at = 64; why = why.HeaderHash })
changed_is_met_on_the_way = inr (
  record {
    begin = 0;
    places = 0 ∷ [];
    below = omega (arith, changed_length);
    told = changed_told;
    between = (refl, changed_front_whole, changed_first_end);
    before = lit≤ tt;
  },
  inr (changed_not_short, inl (changed_header, refl)),
)

-- a changed header of the block is its fault, for each position
changed_block_length : length (set three 8 1) ≡ 112
unfolding three first_bytes three_header three_data
changed_block_length = refl

changed_block_is_wrong : ¬ IsRightBlockHeader (slice_range (set three 8 1) 0 24)
unfolding three first_bytes three_header three_data hash_of finished after_remainder after_packets finishing_round updated mixed multiplied zipped reset lanes_of remainder_packet
changed_block_is_wrong right = omega (arith, ap (λ (xs : List ℕ). slice_index xs 0) right.1)

fault_of_block : ℕ → Fault
fault_of_block block = record { at = block; why = why.BlockHeader }

changed_block_is_fault : (position : ℕ) → position < 112
    → IsHolderFault (set three 8 1) position (record { at = 0; why = why.BlockHeader })
unfolding fault_of_block
changed_block_is_fault position below =
    let front : block_of position ≡ 0 = omega (arith, below) in
    inl (
      omega (arith, below, changed_block_length),
      record {
        is_block = omega (arith, below);
        below = omega (arith, below, changed_block_length);
        unread = λ previous next h.
            changed_block_is_wrong (subst (λ (b : ℕ). IsRightBlockHeader (slice_range (set three 8 1) b (b + 24))) front
            (IsRightBlockHeader-block_header _ previous next h.bytes));
        is_fault = ap (λ (b : ℕ). fault_of_block b) (sym front);
      },
    )

-- what searches take of a file of the signature, a chunk and the same again
bounds_of_three :
    (length_of_chunk (signature ∷ three_chunk ∷ three_chunk ∷ []) 1 ≡ 48)
    × (length_of_chunk (signature ∷ three_chunk ∷ three_chunk ∷ []) 3 ≡ 0)
    × (chunks_without_records (signature ∷ three_chunk ∷ three_chunk ∷ []) ≡ 1)
    × (greatest_length_from 0 (signature ∷ three_chunk ∷ three_chunk ∷ []) ≡ 64)
    × (position_bound (signature ∷ three_chunk ∷ three_chunk ∷ []) 0 2 ≡ 105096)
    × (key_bound (signature ∷ three_chunk ∷ three_chunk ∷ []) ≡ 600576)
unfolding three_chunk shortest chunk_end_of end_of
bounds_of_three = (refl, refl, refl, refl, refl, refl)

blocks_have_digits : (digit_count_of_blocks 65536 ≡ 1) × (digit_count_of_blocks 65537 ≡ 2) × (digit_count_of_blocks 1000000000 ≡ 14)
blocks_have_digits = (refl, refl, refl)
