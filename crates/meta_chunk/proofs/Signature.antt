-- The bytes that a file begins with.
use Rattle.std.proofs.Common.{◌≡◌, ◌∙◌, List, ◌∷◌, ◌++◌, refl, ap}
use Rattle.std.specs.Prelude.{ℕ, replicate}
use Rattle.highway_hash.specs.HighwayHash.{hash_of, finished, after_remainder, after_packets, finishing_round, updated, mixed, multiplied, zipped, reset, lanes_of, remainder_packet}
use Rattle.block_layout.specs.Layout.{room, end_of, chunk_end_of}
use Rattle.block_layout.specs.BlockHeaders.{block_header}
use Rattle.chunk_header.specs.Chunks.{chunk_bytes}
use Rattle.meta_chunk.specs.Laid.{laid, laid_bytes}
use Rattle.meta_chunk.specs.Files.{signature}

-- the block header that a file begins with: no chunk before it, and the signature's end 64 bytes on
abbrev first_header : List ℕ
first_header = 0x83 ∷ 0xaf ∷ 0x70 ∷ 0xd1 ∷ 0x0d ∷ 0x88 ∷ 0x4a ∷ 0x3f ∷ replicate 8 0 ++ 0x40 ∷ replicate 7 0

-- the header of the signature, which has no data
abbrev pub signature_header : List ℕ
signature_header =
    0x91 ∷ 0xba ∷ 0xc2 ∷ 0x3c ∷ 0x92 ∷ 0x87 ∷ 0xe1 ∷ 0xa9
    ∷ replicate 8 0
    ++ 0xe1 ∷ 0x9f ∷ 0x13 ∷ 0xc0 ∷ 0xe9 ∷ 0xb1 ∷ 0xc3 ∷ 0x72
    ∷ 0x73
    ∷ replicate 15 0

-- the first block header as bytes
pub first_block_header : block_header 0 64 ≡ first_header
unfolding hash_of finished after_remainder after_packets finishing_round updated mixed multiplied zipped reset lanes_of remainder_packet
first_block_header = refl

-- the signature's bytes
chunk_bytes-signature : chunk_bytes signature ≡ signature_header
unfolding hash_of finished after_remainder after_packets finishing_round updated mixed multiplied zipped reset lanes_of remainder_packet
chunk_bytes-signature = refl

-- the signature stands behind the first block header
laid-signature_parts : laid 0 signature ≡ block_header 0 64 ++ chunk_bytes signature
unfolding laid_bytes room end_of chunk_end_of
laid-signature_parts = refl

-- the 64 bytes that a file begins with
pub laid-signature : laid 0 signature ≡ first_header ++ signature_header
laid-signature =
    laid-signature_parts
    ∙ ap (λ (b : List ℕ). b ++ chunk_bytes signature) first_block_header
    ∙ ap (λ (b : List ℕ). first_header ++ b) chunk_bytes-signature
