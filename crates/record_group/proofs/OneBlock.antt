-- The file of records where it has one block.
use Rattle.std.proofs.Common.{◌≡◌, ◌∙◌, ℕ, ◌+◌, ◌<◌, ◌≤◌, Option, None, List, [], ◌∷◌, ◌++◌, length, ap, append-nil, arith}
use Rattle.std.specs.Prelude.{map}
use Rattle.chunk_header.specs.Chunks.{chunk_bytes}
use Rattle.chunk_header.specs.SimpleChunks.{simple_data, simple_chunk}
use Rattle.chunk_header.proofs.Lengths.{length-chunk_bytes}
use Rattle.chunk_header.proofs.SimpleChunks.{length-sizes_of, length-simple_data}
use Rattle.meta_chunk.specs.Laid.{laid}
use Rattle.meta_chunk.specs.Files.{signature_bytes, laid_each}
use Rattle.meta_chunk.proofs.OneBlock.{laid-one_block}
use Rattle.record_group.specs.declared.pad.Pad.TheVariants.{No}
use Rattle.record_group.specs.Groups.{groups, record_chunks, file_of}
use Rattle.record_group.proofs.OneChunk.{groups-one, cost_of-bound}
use Rattle.record_group.proofs.Signed.{end_of_chunk-signature, file_of-signed}

-- the file of no records is the signature
pub file_of-none : (size : ℕ) (every : Option ℕ) → file_of [] size every No ≡ signature_bytes
unfolding groups laid_each
file_of-none size every = file_of-signed [] size every No ∙ append-nil signature_bytes

-- the file of records in one group is the signature and the simple chunk of them, laid behind it
file_of-one_group : (records : List (List ℕ)) (size : ℕ) (every : Option ℕ) → groups records size every ≡ records ∷ []
    → file_of records size every No ≡ signature_bytes ++ laid 64 (simple_chunk records)
unfolding laid_each
file_of-one_group records size every e =
    file_of-signed records size every No
    ∙ ap (λ (place : ℕ). signature_bytes ++ laid_each place (record_chunks place records size every No)) end_of_chunk-signature
    ∙ ap (λ (gs : List (List (List ℕ))). signature_bytes ++ laid_each 64 (map simple_chunk gs ++ [])) e
    ∙ ap (λ (bytes : List ℕ). signature_bytes ++ bytes) (append-nil (laid 64 (simple_chunk records)))

-- the file of records whose data fits is the signature and the simple chunk's bytes
pub file_of-one_block : (records : List (List ℕ)) → 0 < length records → length (simple_data records) ≤ 65432
    → file_of records 1048576 None No ≡ signature_bytes ++ chunk_bytes (simple_chunk records)
file_of-one_block records some fits =
    let own : length (chunk_bytes (simple_chunk records)) ≡ 40 + length (simple_data records) = length-chunk_bytes (simple_chunk records) in
    file_of-one_group records 1048576 None (groups-one records 1048576 (cost_of-bound records fits) some)
    ∙ ap (λ (bytes : List ℕ). signature_bytes ++ bytes)
    (laid-one_block (simple_chunk records) (omega arith) (omega (arith, length-simple_data records, length-sizes_of records)))
