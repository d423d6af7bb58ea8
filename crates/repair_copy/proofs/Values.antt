-- Values counted by hand, computed from the definitions.
use Rattle.std.proofs.Common.{◌≡◌, ◌∙◌, ℕ, true, false, List, [], ◌∷◌, length, replicate, map, refl}
use Rattle.std.proofs.lemmas.List.{append-nil}
use Rattle.varint_wire.specs.Varint.{shortest}
use Rattle.block_layout.specs.Layout.{end_of, chunk_end_of}
use Rattle.chunk_header.specs.Chunks.{ChunkValue}
use Rattle.chunk_header.specs.SimpleChunks.{simple_chunk}
use Rattle.meta_chunk.specs.Files.{signature, signature_bytes, begin_of, laid_each}
use Rattle.meta_chunk.specs.PaddingSizes.{padding}
use Rattle.meta_chunk.proofs.Begins.{end-zero_padding}
use Rattle.chunk_reader.specs.declared.reasons.Why.TheVariants as why
use Rattle.damage_skip.specs.Pieces.{Records, SignatureOrPadding, Skipped, Piece}
use Rattle.repair_copy.specs.RepairPuts.{chunks_in}
use Rattle.repair_copy.specs.RelaidFiles.{relaid}
use Rattle.repair_copy.specs.CopiedChunks.{copied}

-- an empty file is repaired to the signature
none_relaid : relaid [] ≡ signature_bytes
unfolding laid_each
none_relaid = append-nil signature_bytes

-- and so are two signatures, one behind the other
signatures : List Piece
signatures = record { begin = 0; end = 64; what = SignatureOrPadding } ∷ record { begin = 64; end = 104; what = SignatureOrPadding } ∷ []

signatures_relaid : relaid signatures ≡ signature_bytes
unfolding laid_each signatures
signatures_relaid = append-nil signature_bytes

-- a chunk of 30005 bytes of data
large : ChunkValue
large = record { kind = 0x72; num_records = 1; decoded_size = 30000; «data» = replicate 30005 0 }

-- the pieces of a file of four of these, where the header of the first has changed
behind_two : List (List ℕ) → List Piece
behind_two records =
    record { begin = 0; end = 64; what = SignatureOrPadding }
    ∷ record { begin = 64; end = 60154; what = Skipped why.HeaderHash }
    ∷ record { begin = 60154; end = 90223; what = Records records large }
    ∷ record { begin = 90223; end = 120268; what = Records records large }
    ∷ []

-- the last two are laid where the first two were
chunks_behind_two : (records : List (List ℕ)) → chunks_in (behind_two records) ≡ large ∷ large ∷ []
unfolding behind_two
chunks_behind_two records = refl

begins_behind_two : (records : List (List ℕ)) → map (begin_of (signature ∷ chunks_in (behind_two records))) (0 ∷ 1 ∷ 2 ∷ 3 ∷ []) ≡ 0 ∷ 64 ∷ 30109 ∷ 60154 ∷ []
unfolding behind_two large chunk_end_of end_of
begins_behind_two records = refl

end_behind_two : (records : List (List ℕ)) → begin_of (signature ∷ chunks_in (behind_two records)) 3 ≡ 60154
unfolding behind_two large chunk_end_of end_of
end_behind_two records = refl

length_behind_two : (records : List (List ℕ)) → length (relaid (behind_two records)) ≡ 60154
unfolding behind_two
length_behind_two records = end-zero_padding (signature ∷ chunks_in (behind_two records)) ∙ end_behind_two records

-- where the data of the second alone has changed, the file is as long as that of three
around_one : List (List ℕ) → List Piece
around_one records =
    record { begin = 0; end = 64; what = SignatureOrPadding }
    ∷ record { begin = 64; end = 30109; what = Records records large }
    ∷ record { begin = 30109; end = 60154; what = Skipped why.DataHash }
    ∷ record { begin = 60154; end = 90223; what = Records records large }
    ∷ record { begin = 90223; end = 120268; what = Records records large }
    ∷ []

end_around_one : (records : List (List ℕ)) → begin_of (signature ∷ chunks_in (around_one records)) 4 ≡ 90223
unfolding around_one large chunk_end_of end_of
end_around_one records = refl

length_around_one : (records : List (List ℕ)) → length (relaid (around_one records)) ≡ 90223
unfolding around_one
length_around_one records = end-zero_padding (signature ∷ chunks_in (around_one records)) ∙ end_around_one records

-- the file of one record with padding on both sides is repaired to 108 bytes
of_a : ChunkValue
of_a = simple_chunk ((0x61 ∷ []) ∷ [])

padded : List Piece
padded =
    record { begin = 0; end = 64; what = SignatureOrPadding }
    ∷ record { begin = 64; end = 65536; what = SignatureOrPadding }
    ∷ record { begin = 65536; end = 65604; what = Records ((0x61 ∷ []) ∷ []) of_a }
    ∷ record { begin = 65604; end = 131072; what = SignatureOrPadding }
    ∷ []

end_of_padded : begin_of (signature ∷ chunks_in padded) 2 ≡ 108
unfolding padded of_a chunk_end_of end_of shortest
end_of_padded = refl

length_of_padded : length (relaid padded) ≡ 108
unfolding padded
length_of_padded = end-zero_padding (signature ∷ chunks_in padded) ∙ end_of_padded

-- of chunks of each kind, those that are copied
metadata : ChunkValue
metadata = record { kind = 0x6d; num_records = 0; decoded_size = 99; «data» = replicate 5 7 }

transposed : ChunkValue
transposed = record { kind = 0x74; num_records = 65480; decoded_size = 0; «data» = replicate 10 0 }

compressed : ChunkValue
compressed = record { kind = 0x72; num_records = 1; decoded_size = 1; «data» = 0x62 ∷ 0x00 ∷ [] }

each_kind : List ChunkValue
each_kind = signature ∷ metadata ∷ padding 5 ∷ of_a ∷ signature ∷ transposed ∷ compressed ∷ []

copied_of_each : copied true each_kind ≡ metadata ∷ of_a ∷ transposed ∷ compressed ∷ []
unfolding each_kind metadata transposed compressed of_a
copied_of_each = refl

copied_and_read : copied false each_kind ≡ metadata ∷ of_a ∷ []
unfolding each_kind metadata transposed compressed of_a
copied_and_read = refl
