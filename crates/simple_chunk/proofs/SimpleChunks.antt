-- The simple chunk of records, as it is made.
use Rattle.std.proofs.Common.{◌≡◌, ◌∙◌, ℕ, ◌^◌, ◌≤◌, List, ◌++◌, length, refl, ap, subst, arith}
use Rattle.std.specs.List.{concat}
use Rattle.chunk_header.specs.Chunks.{ChunkValue}
use Rattle.chunk_header.specs.Kinds.{simple_kind}
use Rattle.chunk_header.specs.SimpleChunks.{IsSimple, simple_data, simple_chunk}
use Rattle.chunk_header.specs.Views.{IsHeaderOf}
use Rattle.chunk_header.specs.declared.Header.{Header}
use Rattle.chunk_header.proofs.SimpleChunks.{IsSimple-simple_chunk, length-sizes_of, sum-map-length}
use Rattle.simple_chunk.specs.Costs.{cost_of}
use Rattle.simple_chunk.specs.Sizes.{data_front}
use Rattle.simple_chunk.proofs.CostLemmas.{cost_of-is, lengths-le-concat}

-- the data is what stands before the records, and the records joined
simple_data-parts : (records : List (List ℕ)) (front values : List ℕ) → front ≡ data_front records → values ≡ concat records
    → front ++ values ≡ simple_data records
simple_data-parts records front values made joined =
    ap (λ (bytes : List ℕ). bytes ++ values) made ∙ ap (λ (bytes : List ℕ). data_front records ++ bytes) joined

-- a chunk of this data and these counts is the simple chunk
pub simple_chunk-made : (records : List (List ℕ)) (bytes : List ℕ) (count size : ℕ) (k : ChunkValue)
    → k ≡ record { kind = simple_kind; num_records = count; decoded_size = size; «data» = bytes }
    → count ≡ length records → size ≡ length (concat records) → bytes ≡ simple_data records
    → k ≡ simple_chunk records
simple_chunk-made records bytes count size k is counted sized made =
    rw (is, counted, sized, ← sum-map-length records, made) refl

-- a header of data in these two parts and of these counts is that of the simple chunk
pub IsHeaderOf-simple_chunk : (records : List (List ℕ)) (h : Header) (count size : ℕ) (front values : List ℕ)
    → IsHeaderOf h (record { kind = simple_kind; num_records = count; decoded_size = size; «data» = front ++ values })
    → count ≡ length records → size ≡ length (concat records) → front ≡ data_front records → values ≡ concat records
    → IsHeaderOf h (simple_chunk records)
IsHeaderOf-simple_chunk records h count size front values is counted sized made joined =
    subst (λ (k : ChunkValue). IsHeaderOf h k)
    (simple_chunk-made records (front ++ values) count size _ refl counted sized (simple_data-parts records front values made joined))
    is

-- the simple chunk of records of such a cost holds them
pub IsSimple-cost : (records : List (List ℕ)) → cost_of records ≤ 2 ^ 25 → IsSimple (simple_chunk records) records
IsSimple-cost records few =
    IsSimple-simple_chunk records
    (lengths-le-concat records (2 ^ 64) (omega (arith, cost_of-is records)))
    (omega (arith, cost_of-is records, length-sizes_of records))
