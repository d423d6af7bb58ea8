-- Values counted by hand, computed from the definitions.
use Rattle.std.proofs.Common.{◌↔◌, ◌≡◌, ◌≢◌, ◌∙◌, ℕ, zero, suc, ◌+◌, ◌<◌, ◌≤◌, Bool, true, false, Some, None, List, [], ◌∷◌, ◌++◌, length, set, replicate, slice_index, lit<, lit≤, refl, sym, ap, inl, inr, subst, arith}
use Rattle.std.specs.Prelude.{not, ◌||◌, ◌==◌, slice_get, slice_range}
use Rattle.std.proofs.lemmas.Bool.{cases_lt}
use Rattle.std.proofs.lemmas.Option.{same_Some}
use Rattle.highway_hash.specs.Riegeli.{riegeli_hash}
use Rattle.highway_hash.specs.HighwayHash.{hash_of, finished, after_remainder, after_packets, finishing_round, updated, mixed, multiplied, zipped, reset, lanes_of, remainder_packet}
use Rattle.varint_wire.specs.Varint.{shortest}
use Rattle.block_layout.specs.Layout.{IsBlock, room, usable_bytes, end_of, chunk_end_of}
use Rattle.block_layout.specs.BlockHeaders.{block_header, IsRightBlockHeader, StandsAt}
use Rattle.chunk_header.specs.Chunks.{ChunkValue, IsRightChunkHeader}
use Rattle.chunk_header.specs.SimpleChunks.{simple_chunk, IsSimple}
use Rattle.chunk_header.proofs.SimpleChunks.{IsSimple-simple_chunk}
use Rattle.meta_chunk.specs.Kinds.{IsSignature}
use Rattle.meta_chunk.specs.Files.{signature, IsWellFormedChunk, IsChainOf, IsWellFormed, begin_of, LiesIn}
use Rattle.meta_chunk.proofs.Chains.{IsChainOf-push}
use Rattle.meta_chunk.proofs.LaidChunks.{IsLaid-laid}
use Rattle.meta_chunk.specs.Laid.{IsLaid, laid_bytes}
use Rattle.chunk_reader.specs.Faults.{BeginsWithSignature}
use Rattle.chunk_reader.specs.Places.{header_bytes_at, data_at, end_at}
use Rattle.chunk_reader.specs.Reasons.{Applies, NoneOf, IsFirstOf, loading_reasons}
use Rattle.chunk_reader.proofs.Blocks.{stands_within}
use Rattle.chunk_reader.proofs.ChainSteps.{signature_chain}
use Rattle.chunk_reader.specs.declared.reasons.Why.{Why}
use Rattle.chunk_reader.specs.declared.reasons.Why.TheVariants as why
use Rattle.damage_skip.specs.Resyncs.{landing, IsResync, Contradicts}
use Rattle.damage_skip.specs.Damage.{Intact, IsNext, IsDamaged, IsIntactFrom, AreReached, DamageLeavesEach, AreLostUpToABlock}
use Rattle.damage_skip.specs.FrontPieces.{IsCutAt}
use Rattle.damage_skip.specs.Takings.{MayTakeAt, MayTakeFor}
use Rattle.damage_skip.specs.Pieces.{PieceKind, Records, SignatureOrPadding, Skipped, Piece, SkipsFor, walk_reasons, events_in, records_in}
use Rattle.damage_skip.specs.FilePieces.{ArePieces, placed_in}

-- a block met before the chunk that it interrupts leads to that chunk's begin
to_a_begin : landing 120268 64 65536 5382 24687 ≡ 60154
to_a_begin = refl

-- met from that begin, it leads to the chunk's end
to_an_end : landing 120268 60154 65536 5382 24687 ≡ 90223
to_an_end = refl

-- so does one that interrupts no chunk before it
from_a_block : landing 65604 65536 65536 0 68 ≡ 65604
from_a_block = refl

-- chunks that begin right before a block
right_before_a_block : landing 65598 65530 65536 6 62 ≡ 65598
right_before_a_block = refl

to_right_before_a_block : landing 65598 64 65536 6 62 ≡ 65530
to_right_before_a_block = refl

-- an end past the file's end is that
to_the_files_end : landing 65559 65536 65536 0 68 ≡ 65559
to_the_files_end = refl

-- a forged block header can hide a chunk: one that says a begin at the place or before leads past itself
to_a_forged_end : landing 120268 60154 65536 65536 25 ≡ 65561
to_a_forged_end = refl

-- from a place with no block header at or past it, reading goes on at the end
block_in_file : (block : ℕ) → IsBlock block → 1 ≤ block → 65536 ≤ block
block_in_file block is some = omega (arith, is)

within_a_block : (file : List ℕ) (place : ℕ) → 1 ≤ place → length file < 65560 → IsResync file place (length file)
within_a_block file place past short =
    inr (
      λ block previous next h. omega (
        arith,
        h.from,
        stands_within file block previous next h.stands,
        block_in_file block h.stands.is_block (omega (arith, h.from)),
      ),
      refl,
    )

-- the first block header of a file, alone: it is right and sane
first_header : List ℕ
first_header = block_header 0 64

first_stands : StandsAt first_header 0 0 64
unfolding first_header
first_stands = record {
  is_block = refl;
  bytes = refl;
  sane = record { back = lit≤ tt; past_itself = lit≤ tt; in_reach = lit≤ tt; from_boundary = inl refl; to_boundary = inr (lit≤ tt) };
}

-- it leads past the end of these bytes, and so to it
first_leads : IsResync first_header 0 24
unfolding first_header
first_leads = inl (0, 0, 64, record { holds = record { stands = first_stands; from = lit≤ tt }; first = λ b p n h. omega arith }, refl)

-- so these bytes are passed over, as they are too few
first_piece : (unread_ok : Bool) → ArePieces unread_ok first_header (record { begin = 0; end = 24; what = Skipped why.Short } ∷ [])
unfolding first_header end_of
first_piece unread_ok = (refl, lit≤ tt, (inl (lit≤ tt, refl), first_leads), refl)

-- it contradicts a chunk that has another end
other_end : Contradicts first_header 0 112 0 0 64
unfolding first_header
other_end = record { stands = first_stands; from = lit≤ tt; below = lit≤ tt; differs = inr (λ same. omega arith) }

-- behind it a right header of a chunk that ends at 72: the block header contradicts it, and that is told, though these bytes
-- also end before the chunk does
cut_chunk : List ℕ
cut_chunk =
    first_header
    ++ 0x18 ∷ 0x09 ∷ 0xa8 ∷ 0x0e ∷ 0x07 ∷ 0xa2 ∷ 0x61 ∷ 0x2f
    ∷ 0x08 ∷ replicate 7 0
    ++ 0xc5 ∷ 0x3d ∷ 0x74 ∷ 0x41 ∷ 0x6c ∷ 0xa3 ∷ 0x86 ∷ 0x87
    ∷ 0x72 ∷ 0x03 ∷ replicate 6 0
    ++ 0x03 ∷ replicate 7 0

cut_end : end_at cut_chunk 0 ≡ 72
unfolding cut_chunk first_header usable_bytes chunk_end_of end_of hash_of finished after_remainder after_packets finishing_round updated mixed multiplied zipped reset lanes_of remainder_packet
cut_end = refl

is_cut : SkipsFor cut_chunk 0 why.Truncated
unfolding cut_chunk first_header usable_bytes chunk_end_of end_of hash_of finished after_remainder after_packets finishing_round updated mixed multiplied zipped reset lanes_of remainder_packet
is_cut = lit< tt

header_says_another_end : Contradicts cut_chunk 0 (end_at cut_chunk 0) 0 0 64
unfolding cut_chunk first_header usable_bytes chunk_end_of end_of hash_of finished after_remainder after_packets finishing_round updated mixed multiplied zipped reset lanes_of remainder_packet
header_says_another_end = record {
  stands = record {
    is_block = refl;
    bytes = refl;
    sane = record { back = lit≤ tt; past_itself = lit≤ tt; in_reach = lit≤ tt; from_boundary = inl refl; to_boundary = inr (lit≤ tt) };
  };
  from = lit≤ tt;
  below = lit< tt;
  differs = inr (λ same. omega (arith, same));
}

contradicted_before_cut : (unread_ok : Bool) → IsFirstOf (SkipsFor cut_chunk 0) (walk_reasons unread_ok) why.Contradicted
unfolding cut_chunk first_header usable_bytes end_of hash_of finished after_remainder after_packets finishing_round updated mixed multiplied zipped reset lanes_of remainder_packet
contradicted_before_cut unread_ok =
    inr (λ short. omega (arith, short), inr (λ wrong. wrong (refl, refl), inl ((0, 0, 64, header_says_another_end), refl)))

-- an empty file has no pieces
no_pieces : (unread_ok : Bool) → ArePieces unread_ok [] []
no_pieces unread_ok = refl

-- records of pieces, with their positions
two : List ℕ → List ℕ → Piece
two a b = record { begin = 64; end = 112; what = Records (a ∷ b ∷ []) signature }

three_pieces : List ℕ → List ℕ → List Piece
three_pieces a b =
    record { begin = 0; end = 64; what = SignatureOrPadding }
    ∷ two a b
    ∷ record { begin = 112; end = 65536; what = Skipped why.DataHash }
    ∷ []

three_events : (a b : List ℕ) → events_in (three_pieces a b) ≡ two a b ∷ record { begin = 112; end = 65536; what = Skipped why.DataHash } ∷ []
unfolding three_pieces two
three_events a b = refl

records_of_three : (a b : List ℕ) → records_in (three_pieces a b) ≡ a ∷ b ∷ []
unfolding three_pieces two
records_of_three a b = refl

placed_of_three : (a b : List ℕ) → placed_in (three_pieces a b) ≡ (64, a) ∷ (65, b) ∷ []
unfolding three_pieces two
placed_of_three a b = refl

-- a file of five chunks of one record of 30000 bytes each, with block headers in the third and in the last of them
large_record : List ℕ
large_record = replicate 30000 0x61

large : ChunkValue
large = simple_chunk (large_record ∷ [])

large_is_simple : IsSimple large (large_record ∷ [])
unfolding large_record large shortest
large_is_simple = IsSimple-simple_chunk (large_record ∷ []) (lit< tt, tt) (lit< tt)

five : List ChunkValue
five = signature ∷ large ∷ large ∷ large ∷ large ∷ large ∷ []

begins :
    (begin_of five 0 ≡ 0)
    × (begin_of five 1 ≡ 64)
    × (begin_of five 2 ≡ 30109)
    × (begin_of five 3 ≡ 60154)
    × (begin_of five 4 ≡ 90223)
    × (begin_of five 5 ≡ 120268)
    × (begin_of five 6 ≡ 150337)
unfolding large_record large five chunk_end_of end_of shortest
begins = (refl, refl, refl, refl, refl, refl, refl)

in_third : LiesIn five 65536 3
unfolding five
in_third = record { number = lit< tt; begins = omega (arith, begins.3); ends = omega (arith, begins.4) }

in_last : LiesIn five 131072 5
unfolding five
in_last = record { number = lit< tt; begins = omega (arith, begins.5); ends = omega (arith, begins.6) }

-- the pieces that its damage may leave
given : (begin end : ℕ) → Piece
given begin end = record { begin = begin; end = end; what = Records (large_record ∷ []) large }

skipped : (begin end : ℕ) → Piece
skipped begin end = record { begin = begin; end = end; what = Skipped why.HeaderHash }

left_out : (begin end : ℕ) → Piece
left_out begin end = record { begin = begin; end = end; what = SignatureOrPadding }

signature_is_one : IsSignature signature
signature_is_one =
    (refl, record { signature = λ same. (refl, refl, refl); metadata = λ same. refl; padding = λ same. (refl, refl) })

-- with a changed header of its first chunk of records, and a changed block header at 65536, the next block header leads to the
-- last chunk
first_hit : Intact
first_hit = record { header = λ j. not (j == 1); «data» = λ j. true; block = λ b. not (b == 65536) }

no_other_block : (c : ℕ) → IsIntactFrom five first_hit 1 c → 131072 ≤ c
unfolding first_hit five
no_other_block c here = elim (cases_lt c 131072) [
  | inl before ↦
      let same : c ≡ 65536 = omega (arith, here.is_block, here.from, begins.1, before) in
      let changed : false ≡ true = subst (λ (b : ℕ). first_hit.block b ≡ true) same here.is_intact in
      absurd (cc)
  | inr past ↦ past
]

first_leads_on : IsNext five first_hit 1 5
unfolding first_hit five
first_leads_on = inr (
  refl,
  inl (
    131072,
    5,
    record {
      here = record { is_block = refl; from = omega (arith, begins.1); below = omega (arith, begins.6); is_intact = refl };
      first = no_other_block;
    },
    in_last,
    refl,
  ),
)

first_reached : AreReached five first_hit 0 6 (0 ∷ 1 ∷ 5 ∷ [])
unfolding first_hit five
first_reached =
    (refl, lit< tt, (1, inl (refl, refl), (refl, lit< tt, (5, first_leads_on, (refl, lit< tt, (6, inl (refl, refl), refl))))))

first_left : DamageLeavesEach false five first_hit 0 6 (left_out 0 64 ∷ skipped 64 120268 ∷ given 120268 150337 ∷ [])
unfolding first_hit left_out skipped given five
first_left = (
  signature,
  1,
  refl,
  inl (refl, refl),
  sym begins.0,
  sym begins.1,
  inl (inl signature_is_one),
  (
    large,
    5,
    refl,
    first_leads_on,
    sym begins.1,
    sym begins.5,
    refl,
    (large, 6, refl, inl (refl, refl), sym begins.5, sym begins.6, inl (large_is_simple, refl), refl),
  ),
)

-- with changed headers of two chunks, one behind the other, it has two regions, of which the block header within the second
-- tells where each ends
two_hit : Intact
two_hit = record { header = λ j. not ((j == 2) || (j == 3)); «data» = λ j. true; block = λ b. true }

two_lead_on : IsNext five two_hit 2 3 × IsNext five two_hit 3 4
unfolding two_hit five
two_lead_on = (
  inr (
    refl,
    inl (
      65536,
      3,
      record {
        here = record { is_block = refl; from = omega (arith, begins.2); below = omega (arith, begins.6); is_intact = refl };
        first = λ c here. omega (arith, here.is_block, here.from, begins.2);
      },
      in_third,
      refl,
    ),
  ),
  inr (
    refl,
    inl (
      65536,
      3,
      record {
        here = record { is_block = refl; from = omega (arith, begins.3); below = omega (arith, begins.6); is_intact = refl };
        first = λ c here. omega (arith, here.is_block, here.from, begins.3);
      },
      in_third,
      refl,
    ),
  ),
)

third_reached : AreReached five two_hit 3 6 (3 ∷ 4 ∷ 5 ∷ [])
unfolding two_hit five
third_reached =
    (refl, lit< tt, (4, two_lead_on.1, (refl, lit< tt, (5, inl (refl, refl), (refl, lit< tt, (6, inl (refl, refl), refl))))))

two_reached : AreReached five two_hit 0 6 (0 ∷ 1 ∷ 2 ∷ 3 ∷ 4 ∷ 5 ∷ [])
unfolding two_hit five
two_reached =
    (refl, lit< tt, (1, inl (refl, refl), (refl, lit< tt, (2, inl (refl, refl), (refl, lit< tt, (3, two_lead_on.0, third_reached))))))

third_left : DamageLeavesEach false five two_hit 3 6 (skipped 60154 90223 ∷ given 90223 120268 ∷ given 120268 150337 ∷ [])
unfolding two_hit skipped given five
third_left = (
  large,
  4,
  refl,
  two_lead_on.1,
  sym begins.3,
  sym begins.4,
  refl,
  (
    large,
    5,
    refl,
    inl (refl, refl),
    sym begins.4,
    sym begins.5,
    inl (large_is_simple, refl),
    (large, 6, refl, inl (refl, refl), sym begins.5, sym begins.6, inl (large_is_simple, refl), refl),
  ),
)

two_left : DamageLeavesEach false five two_hit 0 6
    (left_out 0 64 ∷ given 64 30109 ∷ skipped 30109 60154 ∷ skipped 60154 90223 ∷ given 90223 120268 ∷ given 120268 150337 ∷ [])
unfolding two_hit left_out skipped given five
two_left = (
  signature,
  1,
  refl,
  inl (refl, refl),
  sym begins.0,
  sym begins.1,
  inl (inl signature_is_one),
  (
    large,
    2,
    refl,
    inl (refl, refl),
    sym begins.1,
    sym begins.2,
    inl (large_is_simple, refl),
    (large, 3, refl, two_lead_on.0, sym begins.2, sym begins.3, refl, third_left),
  ),
)

-- with a changed header of a chunk, and both block headers behind it changed, all is lost from there on
blocks_hit : Intact
blocks_hit = record { header = λ j. not (j == 2); «data» = λ j. true; block = λ b. not ((b == 65536) || (b == 131072)) }

no_block : (c : ℕ) → ¬ IsIntactFrom five blocks_hit 2 c
unfolding blocks_hit five
no_block c here = elim (cases_lt c 131072) [
  | inl before ↦
      let same : c ≡ 65536 = omega (arith, here.is_block, here.from, begins.2, before) in
      let changed : false ≡ true = subst (λ (b : ℕ). blocks_hit.block b ≡ true) same here.is_intact in
      absurd (cc)
  | inr past ↦
      let same : c ≡ 131072 = omega (arith, here.is_block, past, here.below, begins.6) in
      let changed : false ≡ true = subst (λ (b : ℕ). blocks_hit.block b ≡ true) same here.is_intact in
      absurd (cc)
]

nothing_leads_on : IsNext five blocks_hit 2 6
unfolding blocks_hit five
nothing_leads_on = inr (refl, inr (no_block, refl))

blocks_reached : AreReached five blocks_hit 0 6 (0 ∷ 1 ∷ 2 ∷ [])
unfolding blocks_hit five
blocks_reached =
    (refl, lit< tt, (1, inl (refl, refl), (refl, lit< tt, (2, inl (refl, refl), (refl, lit< tt, (6, nothing_leads_on, refl))))))

blocks_left : DamageLeavesEach false five blocks_hit 0 6 (left_out 0 64 ∷ given 64 30109 ∷ skipped 30109 150337 ∷ [])
unfolding blocks_hit left_out skipped given five
blocks_left = (
  signature,
  1,
  refl,
  inl (refl, refl),
  sym begins.0,
  sym begins.1,
  inl (inl signature_is_one),
  (
    large,
    2,
    refl,
    inl (refl, refl),
    sym begins.1,
    sym begins.2,
    inl (large_is_simple, refl),
    (large, 6, refl, nothing_leads_on, sym begins.2, sym begins.6, refl, refl),
  ),
)

-- of these the third to the fifth are lost behind the second, and end before the next intact block header
first_lost : AreLostUpToABlock five first_hit 6 (0 ∷ 1 ∷ 5 ∷ [])
unfolding first_hit five
first_lost zero before missed = absurd (missed 0 refl)
first_lost (suc zero) before missed = absurd (missed 1 refl)
first_lost (suc (suc zero)) before missed = (1, lit< tt, refl, λ b here. omega (arith, no_other_block b here, begins.3))
first_lost (suc (suc (suc zero))) before missed = (1, lit< tt, refl, λ b here. omega (arith, no_other_block b here, begins.4))
first_lost (suc (suc (suc (suc zero)))) before missed = (1, lit< tt, refl, λ b here. omega (arith, no_other_block b here, begins.5))
first_lost (suc (suc (suc (suc (suc zero))))) before missed = absurd (missed 2 refl)
first_lost (suc (suc (suc (suc (suc (suc lost)))))) before missed = absurd (omega arith)

-- a chunk that holds an intact block header is not lost so
all_but_fourth : List ℕ
all_but_fourth = 0 ∷ 1 ∷ 2 ∷ 4 ∷ 5 ∷ []

none_or_some : (n : ℕ) → None ≢ Some n
none_or_some n same = absurd (cc same)

fourth_missed : (i : ℕ) → slice_get all_but_fourth i ≢ Some 3
unfolding all_but_fourth
fourth_missed zero same = omega (arith, same_Some 0 3 same)
fourth_missed (suc zero) same = omega (arith, same_Some 1 3 same)
fourth_missed (suc (suc zero)) same = omega (arith, same_Some 2 3 same)
fourth_missed (suc (suc (suc zero))) same = omega (arith, same_Some 4 3 same)
fourth_missed (suc (suc (suc (suc zero)))) same = omega (arith, same_Some 5 3 same)
fourth_missed (suc (suc (suc (suc (suc i))))) same = none_or_some 3 same

holds_a_block : (j : ℕ) → j < 3 → two_hit.header j ≡ false → ((b : ℕ) → IsIntactFrom five two_hit j b → begin_of five 4 ≤ b) → ⊥
unfolding two_hit five
holds_a_block zero below broken ends = absurd (cc)
holds_a_block (suc zero) below broken ends = absurd (cc)
holds_a_block (suc (suc zero)) below broken ends =
    let there : begin_of five 4 ≤ 65536 =
    ends 65536 (record { is_block = refl; from = omega (arith, begins.2); below = omega (arith, begins.6); is_intact = refl }) in
    omega (arith, there, begins.4)
holds_a_block (suc (suc (suc j))) below broken ends = omega arith

fourth_not_lost : ¬ AreLostUpToABlock five two_hit 6 all_but_fourth
fourth_not_lost h =
    let there = h 3 (lit< tt) fourth_missed in
    holds_a_block there.0 there.1 there.2 there.3

-- cut within its second chunk of records, it has that region, and cut between two chunks none
cut_region : (end : ℕ) → Why → Piece
cut_region end reason = record { begin = 30109; end = end; what = Skipped reason }

cut_within : IsCutAt five 2 40000 (cut_region 40000 why.Truncated ∷ [])
unfolding cut_region five
cut_within = inr (
  lit< tt,
  omega (arith, begins.2),
  omega (arith, begins.3),
  why.Truncated,
  inr refl,
  ap (λ (b : ℕ). record { begin = b; end = 40000; what = Skipped why.Truncated } ∷ []) (sym begins.2),
)

cut_between : IsCutAt five 2 30109 []
cut_between = inl (sym begins.2, refl)

first_kind : List Piece → PieceKind
first_kind [] = SignatureOrPadding
first_kind (piece ∷ pieces) = piece.what

not_cut_as_damaged : ¬ IsCutAt five 2 40000 (cut_region 40000 why.HeaderHash ∷ [])
unfolding cut_region first_kind
not_cut_as_damaged (inl (at, none)) = cc
not_cut_as_damaged (inr (inside, after, before, reason, inl short, is)) =
    let kind : Skipped why.HeaderHash ≡ Skipped why.Short = ap first_kind is ∙ ap Skipped short in
    absurd (cc)
not_cut_as_damaged (inr (inside, after, before, reason, inr truncated, is)) =
    let kind : Skipped why.HeaderHash ≡ Skipped why.Truncated = ap first_kind is ∙ ap Skipped truncated in
    absurd (cc)

first_end : List Piece → ℕ
first_end [] = 0
first_end (piece ∷ pieces) = piece.end

not_cut_further_on : ¬ IsCutAt five 2 40000 (cut_region 60154 why.Truncated ∷ [])
unfolding cut_region first_end
not_cut_further_on (inl (at, none)) = cc
not_cut_further_on (inr (inside, after, before, reason, which, is)) = omega (arith, ap first_end is)

-- a file of the signature alone
signed : List ℕ
signed =
    0x83 ∷ 0xaf ∷ 0x70 ∷ 0xd1 ∷ 0x0d ∷ 0x88 ∷ 0x4a ∷ 0x3f ∷ replicate 8 0
    ++ 0x40 ∷ replicate 7 0
    ++ 0x91 ∷ 0xba ∷ 0xc2 ∷ 0x3c ∷ 0x92 ∷ 0x87 ∷ 0xe1 ∷ 0xa9
    ∷ replicate 8 0
    ++ 0xe1 ∷ 0x9f ∷ 0x13 ∷ 0xc0 ∷ 0xe9 ∷ 0xb1 ∷ 0xc3 ∷ 0x72
    ∷ 0x73
    ∷ replicate 15 0

-- and of a chunk of `a`, `bc` and an empty record behind it
three : List ℕ
three =
    signed
    ++ 0x18 ∷ 0x09 ∷ 0xa8 ∷ 0x0e ∷ 0x07 ∷ 0xa2 ∷ 0x61 ∷ 0x2f
    ∷ 0x08 ∷ replicate 7 0
    ++ 0xc5 ∷ 0x3d ∷ 0x74 ∷ 0x41 ∷ 0x6c ∷ 0xa3 ∷ 0x86 ∷ 0x87
    ∷ 0x72 ∷ 0x03 ∷ replicate 6 0
    ++ 0x03 ∷ replicate 7 0
    ++ 0x00 ∷ 0x03 ∷ 0x01 ∷ 0x02 ∷ 0x00 ∷ 0x61 ∷ 0x62 ∷ 0x63 ∷ []

three_chunk : ChunkValue
three_chunk = simple_chunk ((0x61 ∷ []) ∷ (0x62 ∷ 0x63 ∷ []) ∷ [] ∷ [])

two_chunks : List ChunkValue
two_chunks = signature ∷ three_chunk ∷ []

length_of_three : length three ≡ 112
unfolding three signed
length_of_three = refl

begin_of_three : begin_of two_chunks 1 ≡ 64
unfolding two_chunks three_chunk chunk_end_of end_of
begin_of_three = refl

three_begins : BeginsWithSignature three
unfolding three signed laid_bytes room chunk_end_of end_of hash_of finished after_remainder after_packets finishing_round updated mixed multiplied zipped reset lanes_of remainder_packet
three_begins = refl

three_laid : IsLaid 64 three_chunk (slice_range three 64 112)
unfolding three signed three_chunk laid_bytes room chunk_end_of end_of shortest hash_of finished after_remainder after_packets finishing_round updated mixed multiplied zipped reset lanes_of remainder_packet
three_laid = IsLaid-laid 64 three_chunk (record {
  kind = lit< tt;
  num_records = lit< tt;
  decoded_size = lit< tt;
  size = lit< tt;
  bytes = (lit< tt, (lit< tt, (lit< tt, (lit< tt, (lit< tt, (lit< tt, (lit< tt, (lit< tt, tt))))))));
})

three_is_well_formed_chunk : IsWellFormedChunk three_chunk
unfolding three_chunk shortest
three_is_well_formed_chunk = inl (
  lit≤ tt,
  inl (
    (0x61 ∷ []) ∷ (0x62 ∷ 0x63 ∷ []) ∷ [] ∷ [],
    IsSimple-simple_chunk ((0x61 ∷ []) ∷ (0x62 ∷ 0x63 ∷ []) ∷ [] ∷ []) (lit< tt, (lit< tt, (lit< tt, tt))) (lit< tt),
  ),
)

three_is_well_formed : IsWellFormed two_chunks three
unfolding two_chunks
three_is_well_formed = (
  (λ same. cc),
  subst (λ (n : ℕ). IsChainOf IsWellFormedChunk (signature ∷ three_chunk ∷ []) three n) (sym length_of_three)
      (IsChainOf-push (signature ∷ []) three_chunk three 64 112
      (signature_chain true three three_begins) refl three_is_well_formed_chunk
      (omega (arith, length_of_three)) three_laid),
)

-- what is intact is the same, and what isn't differs and shows that
IsToldBy : Bool → (Same Right : Type 0) → Type 0
IsToldBy true Same Right = Same
IsToldBy false Same Right = (¬ Same) × (¬ Right)

intact_same : (told : Bool) (Same Right : Type 0) → IsToldBy told Same Right → (told ≡ true) ↔ Same
unfolding IsToldBy
intact_same true Same Right h = ((λ is. h), (λ same. refl))
intact_same false Same Right h = ((λ is. absurd (cc)), (λ same. absurd (h.0 same)))

changed_shows : (told : Bool) (Same Right : Type 0) → IsToldBy told Same Right → told ≡ false → ¬ Right
unfolding IsToldBy
changed_shows true Same Right h changed = absurd (cc)
changed_shows false Same Right h changed = h.1

-- the same file with bytes changed
record IsChanged (damaged : List ℕ) (intact : Intact) : Type 0 where
  same_length : length damaged ≡ 112
  first_header : IsToldBy (intact.header 0) (header_bytes_at damaged 0 ≡ header_bytes_at three 0) (IsRightChunkHeader (header_bytes_at damaged 0))
  second_header : IsToldBy (intact.header 1) (header_bytes_at damaged 64 ≡ header_bytes_at three 64) (IsRightChunkHeader (header_bytes_at damaged 64))
  first_data : IsToldBy (intact.«data» 0) (data_at damaged 0 0 ≡ []) (riegeli_hash (data_at damaged 0 0) ≡ riegeli_hash [])
  second_data : IsToldBy (intact.«data» 1) (data_at damaged 64 8 ≡ three_chunk.«data») (riegeli_hash (data_at damaged 64 8) ≡ riegeli_hash three_chunk.«data»)
  first_block : IsToldBy (intact.block 0) (slice_range damaged 0 24 ≡ slice_range three 0 24) (IsRightBlockHeader (slice_range damaged 0 24))

-- is a damaged file
module _ (damaged : List ℕ) (intact : Intact) (h : IsChanged damaged intact) where
  header_told : (j : ℕ) → j < 2 → IsToldBy (intact.header j) (header_bytes_at damaged (begin_of two_chunks j) ≡ header_bytes_at three (begin_of two_chunks j))
      (IsRightChunkHeader (header_bytes_at damaged (begin_of two_chunks j)))
  header_told zero below = h.first_header
  header_told (suc zero) below =
      subst (λ (b : ℕ). IsToldBy (intact.header 1) (header_bytes_at damaged b ≡ header_bytes_at three b) (IsRightChunkHeader (header_bytes_at damaged b)))
      (sym begin_of_three) h.second_header
  header_told (suc (suc j)) below = absurd (omega (arith, below))

  data_told : (j : ℕ) (k : ChunkValue) → slice_get two_chunks j ≡ Some k
      → IsToldBy (intact.«data» j) (data_at damaged (begin_of two_chunks j) (length k.«data») ≡ k.«data»)
      (riegeli_hash (data_at damaged (begin_of two_chunks j) (length k.«data»)) ≡ riegeli_hash k.«data»)
  unfolding two_chunks three_chunk shortest
  data_told zero k at =
      subst (λ (c : ChunkValue). IsToldBy (intact.«data» 0) (data_at damaged 0 (length c.«data») ≡ c.«data») (riegeli_hash (data_at damaged 0 (length c.«data»)) ≡ riegeli_hash c.«data»))
      (same_Some signature k at) h.first_data
  data_told (suc zero) k at =
      subst (λ (c : ChunkValue). IsToldBy (intact.«data» 1) (data_at damaged (begin_of two_chunks 1) (length c.«data») ≡ c.«data») (riegeli_hash (data_at damaged (begin_of two_chunks 1) (length c.«data»)) ≡ riegeli_hash c.«data»))
      (same_Some three_chunk k at)
      (subst (λ (b : ℕ). IsToldBy (intact.«data» 1) (data_at damaged b (length three_chunk.«data») ≡ three_chunk.«data») (riegeli_hash (data_at damaged b (length three_chunk.«data»)) ≡ riegeli_hash three_chunk.«data»))
      (sym begin_of_three) h.second_data)
  data_told (suc (suc j)) k at =
      let nothing : None ≡ Some k = at in
      absurd (cc)

  block_told : (b : ℕ) → IsBlock b → b < length three
      → IsToldBy (intact.block b) (slice_range damaged b (b + 24) ≡ slice_range three b (b + 24)) (IsRightBlockHeader (slice_range damaged b (b + 24)))
  block_told b is below =
      let front : 0 ≡ b = omega (arith, is, below, length_of_three) in
      subst (λ (c : ℕ). IsToldBy (intact.block c) (slice_range damaged c (c + 24) ≡ slice_range three c (c + 24)) (IsRightBlockHeader (slice_range damaged c (c + 24))))
      front h.first_block

  changed_is_damaged : IsDamaged two_chunks three damaged intact
  unfolding two_chunks
  changed_is_damaged = record {
    well_formed = three_is_well_formed;
    same_length = h.same_length ∙ sym length_of_three;
    header = λ j below. intact_same (intact.header j) _ _ (header_told j below);
    «data» = λ j k at. intact_same (intact.«data» j) _ _ (data_told j k at);
    block = λ b is below. intact_same (intact.block b) _ _ (block_told b is below);
    header_shows = λ j below changed. changed_shows (intact.header j) _ _ (header_told j below) changed;
    data_shows = λ j k at whole changed. changed_shows (intact.«data» j) _ _ (data_told j k at) changed;
    block_shows = λ b is below changed. changed_shows (intact.block b) _ _ (block_told b is below) changed;
  }

-- all but the header of a chunk, its data, or a block header
all_but : (header «data» block : ℕ) → Intact
all_but header «data» block = record { header = λ j. not (j == header); «data» = λ j. not (j == «data»); block = λ b. not (b == block) }

-- with a changed byte in the signature's header
signature_changed : IsDamaged two_chunks three (set three 24 0) (all_but 0 9 9)
unfolding IsToldBy all_but three signed three_chunk shortest usable_bytes hash_of finished after_remainder after_packets finishing_round updated mixed multiplied zipped reset lanes_of remainder_packet
signature_changed = changed_is_damaged (set three 24 0) (all_but 0 9 9) its_bytes where
  its_bytes : IsChanged (set three 24 0) (all_but 0 9 9)
  its_bytes = record {
    same_length = refl;
    first_header = (
      (λ same. omega (arith, ap (λ (xs : List ℕ). slice_index xs 0) same)),
      λ right. omega (arith, ap (λ (xs : List ℕ). slice_index xs 0) right.1),
    );
    second_header = refl;
    first_data = refl;
    second_data = refl;
    first_block = refl;
  }

-- in the header of the chunk of records
header_changed : IsDamaged two_chunks three (set three 70 0) (all_but 1 9 9)
unfolding IsToldBy all_but three signed three_chunk shortest usable_bytes hash_of finished after_remainder after_packets finishing_round updated mixed multiplied zipped reset lanes_of remainder_packet
header_changed = changed_is_damaged (set three 70 0) (all_but 1 9 9) its_bytes where
  its_bytes : IsChanged (set three 70 0) (all_but 1 9 9)
  its_bytes = record {
    same_length = refl;
    first_header = refl;
    second_header = (
      (λ same. omega (arith, ap (λ (xs : List ℕ). slice_index xs 6) same)),
      λ right. omega (arith, ap (λ (xs : List ℕ). slice_index xs 6) right.1),
    );
    first_data = refl;
    second_data = refl;
    first_block = refl;
  }

-- in its data
data_changed : IsDamaged two_chunks three (set three 111 0) (all_but 9 1 9)
unfolding IsToldBy all_but three signed three_chunk shortest usable_bytes hash_of finished after_remainder after_packets finishing_round updated mixed multiplied zipped reset lanes_of remainder_packet
data_changed = changed_is_damaged (set three 111 0) (all_but 9 1 9) its_bytes where
  its_bytes : IsChanged (set three 111 0) (all_but 9 1 9)
  its_bytes = record {
    same_length = refl;
    first_header = refl;
    second_header = refl;
    first_data = refl;
    second_data = (
      (λ same. omega (arith, ap (λ (xs : List ℕ). slice_index xs 7) same)),
      λ same. omega (arith, same),
    );
    first_block = refl;
  }

-- in the block header
block_changed : IsDamaged two_chunks three (set three 8 1) (all_but 9 9 0)
unfolding IsToldBy all_but three signed three_chunk shortest usable_bytes hash_of finished after_remainder after_packets finishing_round updated mixed multiplied zipped reset lanes_of remainder_packet
block_changed = changed_is_damaged (set three 8 1) (all_but 9 9 0) its_bytes where
  its_bytes : IsChanged (set three 8 1) (all_but 9 9 0)
  its_bytes = record {
    same_length = refl;
    first_header = refl;
    second_header = refl;
    first_data = refl;
    second_data = refl;
    first_block = (
      (λ same. omega (arith, ap (λ (xs : List ℕ). slice_index xs 8) same)),
      λ right. omega (arith, ap (λ (xs : List ℕ). slice_index xs 0) right.1),
    );
  }

-- and not with all intact
header_not_intact : ¬ IsDamaged two_chunks three (set three 70 0) (all_but 9 9 9)
unfolding two_chunks three signed all_but usable_bytes
header_not_intact d =
    let same : header_bytes_at (set three 70 0) 64 ≡ header_bytes_at three 64 =
    subst (λ (b : ℕ). header_bytes_at (set three 70 0) b ≡ header_bytes_at three b) begin_of_three ((d.header 1 (lit< tt)).0 refl) in
    omega (arith, ap (λ (xs : List ℕ). slice_index xs 6) same)

-- no more is taken for its chunk than it has
signed_end : end_at signed 0 ≡ 64
unfolding signed usable_bytes chunk_end_of end_of
signed_end = refl

signed_loads : NoneOf (Applies signed 0) loading_reasons
unfolding signed usable_bytes chunk_end_of end_of hash_of finished after_remainder after_packets finishing_round updated mixed multiplied zipped reset lanes_of remainder_packet
signed_loads = (λ short. omega (arith, short), (λ wrong. wrong (refl, refl), (λ cut. omega (arith, cut), (λ large. omega (arith, large), tt))))

takes_signature : MayTakeAt signed 0 64
takes_signature = inr (inr (signed_loads, omega (arith, signed_end)))

takes_no_more : ¬ MayTakeAt signed 0 65
takes_no_more (inl (unread, looks)) = unread (signed_loads.0, (signed_loads.1.0, tt))
takes_no_more (inr (inl (right, unloaded, looks))) = unloaded signed_loads
takes_no_more (inr (inr (loads, within))) = omega (arith, within, signed_end)

-- where no chunk header can be read, no more than the file has from there, and none behind the first block header that stands
first_looks : ¬ MayTakeAt first_header 0 49
unfolding first_header end_of
first_looks (inl (unread, looks)) = omega (arith, looks.first 0 0 64 (record { stands = first_stands; from = lit≤ tt }), looks.few)
first_looks (inr (inl (right, unloaded, looks))) = right.0 (lit< tt)
first_looks (inr (inr (loads, within))) = loads.0 (lit< tt)

-- and at the file's end none
end_takes : ¬ MayTakeAt first_header 24 1
unfolding first_header end_of
end_takes (inl (unread, looks)) = omega (arith, looks.within, looks.few)
end_takes (inr (inl (right, unloaded, looks))) = right.0 (lit< tt)
end_takes (inr (inr (loads, within))) = loads.0 (lit< tt)

-- nor of a chunk that ends behind the file, behind the first that contradicts it
cut_looks : ¬ MayTakeAt cut_chunk 0 65
unfolding cut_chunk first_header usable_bytes end_of hash_of finished after_remainder after_packets finishing_round updated mixed multiplied zipped reset lanes_of remainder_packet
cut_looks (inl (unread, looks)) = unread (λ short. omega (arith, short), (λ wrong. wrong (refl, refl), tt))
cut_looks (inr (inl (right, unloaded, looks))) = omega (arith, looks.first 0 0 64 header_says_another_end, looks.few)
cut_looks (inr (inr (loads, within))) = loads.1.1.0 is_cut

-- with its data the chunk can be loaded: while a walk stands there no more may be taken than it has, and once it is passed for that
-- block header, none of its data
whole_chunk : List ℕ
whole_chunk = cut_chunk ++ replicate 8 0

whole_end : end_at whole_chunk 0 ≡ 72
unfolding whole_chunk cut_chunk first_header usable_bytes chunk_end_of end_of hash_of finished after_remainder after_packets finishing_round updated mixed multiplied zipped reset lanes_of remainder_packet
whole_end = refl

whole_loads : NoneOf (Applies whole_chunk 0) loading_reasons
unfolding whole_chunk cut_chunk first_header usable_bytes chunk_end_of end_of hash_of finished after_remainder after_packets finishing_round updated mixed multiplied zipped reset lanes_of remainder_packet
whole_loads = (λ short. omega (arith, short), (λ wrong. wrong (refl, refl), (λ cut. omega (arith, cut), (λ large. omega (arith, large), tt))))

whole_says_another_end : Contradicts whole_chunk 0 (end_at whole_chunk 0) 0 0 64
unfolding whole_chunk cut_chunk first_header usable_bytes chunk_end_of end_of hash_of finished after_remainder after_packets finishing_round updated mixed multiplied zipped reset lanes_of remainder_packet
whole_says_another_end = record {
  stands = record {
    is_block = refl;
    bytes = refl;
    sane = record { back = lit≤ tt; past_itself = lit≤ tt; in_reach = lit≤ tt; from_boundary = inl refl; to_boundary = inr (lit≤ tt) };
  };
  from = lit≤ tt;
  below = lit< tt;
  differs = inr (λ same. omega (arith, same));
}

whole_takes : MayTakeAt whole_chunk 0 72 × (¬ MayTakeFor whole_chunk 0 65)
unfolding end_of
whole_takes = (
  inr (inr (whole_loads, omega (arith, whole_end))),
  λ may. omega (arith, may.1 whole_loads 0 0 64 whole_says_another_end),
)
