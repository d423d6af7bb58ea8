-- Values counted by hand, computed from the definitions. The hashes are those of an independent program.
use Rattle.std.proofs.Common.{◌≡◌, ℕ, false, true, None, List, [], ◌∷◌, ◌++◌, replicate, slice_range, lit<, lit≤, refl, inl, inr, arith}
use Rattle.highway_hash.specs.HighwayHash.{hash_of, finished, after_remainder, after_packets, finishing_round, updated, mixed, multiplied, zipped, reset, lanes_of, remainder_packet}
use Rattle.varint_wire.specs.Varint.{shortest}
use Rattle.block_layout.specs.Layout.{room, end_of, chunk_end_of}
use Rattle.meta_chunk.specs.Laid.{laid_bytes}
use Rattle.meta_chunk.specs.Files.{signature, laid_each}
use Rattle.meta_chunk.specs.PaddingSizes.{padding_at}
use Rattle.chunk_reader.specs.Faults.{BeginsWithSignature}
use Rattle.chunk_reader.specs.declared.reasons.Why.TheVariants as why
use Rattle.chunk_reader.proofs.SignedFiles.{IsPlain-signature, IsLaid-signature}
use Rattle.record_group.specs.Groups.{groups, file_of}
use Rattle.record_group.specs.declared.pad.Pad.TheVariants.{No, Both}
use Rattle.record_writer.specs.declared.options.WriteOptions.{WriteOptions}
use Rattle.record_append.specs.AppendAnswers.{MayBeKeptTo, Tells, totals_at}
use Rattle.record_append.specs.Grown.{IsKeptTo, RefusesFor, grown}

-- a chunk for each record, and padding on both sides
plain : WriteOptions
plain = record { size = 1; workers = 1; every = None; pad = No }

padded : WriteOptions
padded = record { size = 1; workers = 1; every = None; pad = Both }

-- the record `c`: its chunk has 44 bytes
letter : List ℕ
letter = 0x63 ∷ []

-- behind 196 bytes its chunk goes to 240
totals_behind : totals_at plain 196 (letter ∷ []) ≡ record { chunks = 1; records = 1; bytes = 44; unread = 0 }
unfolding letter plain groups laid_each laid_bytes chunk_end_of end_of room shortest
totals_behind = refl

-- 39 bytes before a block it takes the 24 bytes of the block header too
totals_over_a_block : totals_at plain 65497 (letter ∷ []) ≡ record { chunks = 1; records = 1; bytes = 68; unread = 0 }
unfolding letter plain groups laid_each laid_bytes chunk_end_of end_of room shortest
totals_over_a_block = refl

-- from the front the signature goes before it, also where there are no records; elsewhere no record is no byte
totals_from_the_front : totals_at plain 0 (letter ∷ []) ≡ record { chunks = 2; records = 1; bytes = 108; unread = 0 }
unfolding letter plain groups laid_each laid_bytes chunk_end_of end_of room shortest
totals_from_the_front = refl

totals_of_none : totals_at plain 196 [] ≡ record { chunks = 0; records = 0; bytes = 0; unread = 0 }
unfolding plain groups laid_each
totals_of_none = refl

-- padding from 196 to 65536, the chunk up to 65604, and padding to 131072
totals_padded : totals_at padded 196 (letter ∷ []) ≡ record { chunks = 3; records = 1; bytes = 130876; unread = 0 }
unfolding letter padded groups padding_at laid_each laid_bytes chunk_end_of end_of room shortest
totals_padded = refl

-- the file of a signature alone
signed : List ℕ
signed =
    0x83 ∷ 0xaf ∷ 0x70 ∷ 0xd1 ∷ 0x0d ∷ 0x88 ∷ 0x4a ∷ 0x3f ∷ replicate 8 0
    ++ 0x40 ∷ replicate 7 0
    ++ 0x91 ∷ 0xba ∷ 0xc2 ∷ 0x3c ∷ 0x92 ∷ 0x87 ∷ 0xe1 ∷ 0xa9
    ∷ replicate 8 0
    ++ 0xe1 ∷ 0x9f ∷ 0x13 ∷ 0xc0 ∷ 0xe9 ∷ 0xb1 ∷ 0xc3 ∷ 0x72
    ∷ 0x73
    ∷ replicate 15 0

-- an empty file grows to it where there are no records
of_nothing : grown plain [] 0 [] ≡ signed
unfolding plain signed groups file_of laid_each laid_bytes chunk_end_of end_of room hash_of finished after_remainder after_packets finishing_round updated mixed multiplied zipped reset lanes_of remainder_packet shortest
of_nothing = refl

-- and of it and three bytes of a chunk that was cut off these are dropped, and the chunk of `c` goes behind
behind_the_signature : grown plain (signed ++ 0x90 ∷ 0xcd ∷ 0xe5 ∷ []) 64 (letter ∷ []) ≡
    signed
    ++ 0x90 ∷ 0xcd ∷ 0xe5 ∷ 0x89 ∷ 0x8d ∷ 0xa0 ∷ 0x4d ∷ 0xef ∷ 0x04 ∷ replicate 7 0
    ++ 0x96 ∷ 0xa6 ∷ 0x91 ∷ 0x97 ∷ 0x47 ∷ 0x79 ∷ 0x62 ∷ 0x2b
    ∷ 0x72 ∷ 0x01
    ∷ replicate 6 0
    ++ 0x01 ∷ replicate 8 0
    ++ 0x01 ∷ 0x01 ∷ 0x63 ∷ []
unfolding letter plain signed groups laid_each laid_bytes chunk_end_of end_of room hash_of finished after_remainder after_packets finishing_round updated mixed multiplied zipped reset lanes_of remainder_packet shortest
behind_the_signature = refl

-- an empty file is kept up to 0, and that of a signature whole
nothing_kept : IsKeptTo [] 0
nothing_kept = (
  [],
  record {
    chain = record { signed = tt; each = tt; within = lit≤ tt; laid = refl };
    greatest = λ others other chain. chain.within;
  },
)

signed_begins : BeginsWithSignature signed
unfolding signed laid_bytes room chunk_end_of end_of hash_of finished after_remainder after_packets finishing_round updated mixed multiplied zipped reset lanes_of remainder_packet
signed_begins = refl

kept_whole : IsKeptTo signed 64
unfolding signed
kept_whole = (
  signature ∷ [],
  record {
    chain = record {
      signed = refl;
      each = (inl IsPlain-signature, tt);
      within = lit≤ tt;
      laid = (slice_range signed 0 64, [], refl, IsLaid-signature signed signed_begins, refl);
    };
    greatest = λ others other chain. chain.within;
  },
)

-- what is told: of 196 bytes that are kept whole, and of 180 that end within a chunk which began at 152
tells_whole : Tells plain (replicate 196 7) (letter ∷ []) (record { kept = 196; dropped = 0; records = 1; bytes = 240 })
unfolding letter plain groups laid_each laid_bytes chunk_end_of end_of room shortest
tells_whole = record { dropped = refl; records = refl; bytes = refl }

tells_cut : Tells plain (replicate 180 7) (letter ∷ []) (record { kept = 152; dropped = 28; records = 1; bytes = 196 })
unfolding letter plain groups laid_each laid_bytes chunk_end_of end_of room shortest
tells_cut = record { dropped = refl; records = refl; bytes = refl }

-- a file may be kept up to its end at 196 or at a block, and up to no place within a signature or a block header; up to its front
-- where it is empty alone
whole : MayBeKeptTo 196 196
whole = record { within = lit≤ tt; boundary = λ some. lit< tt; signed = λ some. lit≤ tt }

up_to_a_block : MayBeKeptTo 65600 65536
up_to_a_block = record { within = lit≤ tt; boundary = λ some. absurd (omega (arith, some)); signed = λ some. lit≤ tt }

not_within_the_signature : ¬ MayBeKeptTo 196 63
not_within_the_signature kept = omega (arith, kept.signed (lit< tt))

not_to_the_front : ¬ MayBeKeptTo 196 0
not_to_the_front kept = omega (arith, kept.signed (lit< tt))

empty_to_the_front : MayBeKeptTo 0 0
empty_to_the_front = record { within = lit≤ tt; boundary = λ some. absurd (omega (arith, some)); signed = λ some. absurd (omega (arith, some)) }

not_within_a_block_header : ¬ MayBeKeptTo 65600 65560
not_within_a_block_header kept = omega (arith, kept.boundary (lit< tt))

-- a file that has no signature is refused whatever may be cut off, one with another header only where nothing may be, and one
-- that ends within a chunk not at all
no_signature : RefusesFor true why.NoSignature
no_signature = inl refl

wrong_header : RefusesFor false why.HeaderHash
wrong_header = inr (refl, (λ same. cc), λ same. cc)

wrong_header_cut : ¬ RefusesFor true why.HeaderHash
wrong_header_cut (inl same) = cc
wrong_header_cut (inr (same, other, more)) = cc

short : ¬ RefusesFor false why.Short
short (inl same) = cc
short (inr (same, other, more)) = other refl

truncated : ¬ RefusesFor false why.Truncated
truncated (inl same) = cc
truncated (inr (same, other, more)) = more refl
