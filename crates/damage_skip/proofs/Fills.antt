-- Reading the data of a chunk.
use Rattle.std.proofs.Common.{◌≡◌, ℕ, ◌≤◌, Bool, Option, Some, None, IfSome, IsSomeAnd, List, subst, sym}
use Rattle.chunk_header.specs.declared.Header.{Header}
use Rattle.chunk_header.specs.declared.Chunk.{Chunk}
use Rattle.chunk_reader.specs.Places.{data_at}
use Rattle.damage_skip.specs.Steps.{LeadsTo, IsLoadIn}
use Rattle.damage_skip.specs.declared.chunk_loads.Loaded.TheVariants as load

-- a chunk that ends within the told size
pub told_within : (told : Option ℕ) (size end : ℕ) → told ≡ Some size → end ≤ size → IsSomeAnd told (λ whole. end ≤ whole)
told_within told size end same within = subst (λ (o : Option ℕ). IsSomeAnd o (λ whole. end ≤ whole)) (sym same) within

-- a whole chunk, of which no block within tells otherwise
pub loaded_whole : (bytes : Option (List ℕ)) (begin end : ℕ) (header : Header) (chunk : Chunk) (right : Bool)
    → IfSome bytes (λ file. chunk.bytes ≡ data_at file begin header.data_size)
    → IfSome bytes (λ file. LeadsTo file begin end begin end None)
    → IfSome bytes (λ file. IsLoadIn file begin end header (load.Whole chunk right))
loaded_whole None begin end header chunk right given blocks = tt
loaded_whole (Some file) begin end header chunk right given blocks = (given, blocks)
