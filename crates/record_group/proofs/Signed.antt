-- The signature before the chunks of records.
use Rattle.std.proofs.Common.{◌≡◌, ◌∙◌, ℕ, ◌+◌, Option, List, ◌++◌, length, refl, ap, length-append, arith}
use Rattle.block_layout.specs.Layout.{end_of, chunk_end_of}
use Rattle.meta_chunk.specs.Laid.{end_of_chunk}
use Rattle.meta_chunk.specs.Files.{signature, signature_bytes, laid_each}
use Rattle.meta_chunk.proofs.OneBlock.{length-laid}
use Rattle.record_group.specs.declared.pad.Pad.{Pad}
use Rattle.record_group.specs.Groups.{record_chunks, file_of}

-- the signature ends at 64
pub end_of_chunk-signature : end_of_chunk 0 signature ≡ 64
unfolding end_of chunk_end_of
end_of_chunk-signature = refl

-- it has as many bytes with the block header before it
pub length-signature_bytes : length signature_bytes ≡ end_of_chunk 0 signature
length-signature_bytes = omega (arith, length-laid 0 signature)

-- the file of records is the signature and the chunks of records behind it
pub file_of-signed : (records : List (List ℕ)) (size : ℕ) (every : Option ℕ) (pad : Pad)
    → file_of records size every pad ≡ signature_bytes ++ laid_each (end_of_chunk 0 signature) (record_chunks (end_of_chunk 0 signature) records size every pad)
unfolding file_of laid_each
file_of-signed records size every pad = refl

-- and has as many bytes
pub length-file_of-signed : (records : List (List ℕ)) (size : ℕ) (every : Option ℕ) (pad : Pad)
    → length (file_of records size every pad) ≡ end_of_chunk 0 signature + length (laid_each (end_of_chunk 0 signature) (record_chunks (end_of_chunk 0 signature) records size every pad))
length-file_of-signed records size every pad =
    ap length (file_of-signed records size every pad)
    ∙ length-append signature_bytes (laid_each (end_of_chunk 0 signature) (record_chunks (end_of_chunk 0 signature) records size every pad))
    ∙ omega (arith, length-signature_bytes)
