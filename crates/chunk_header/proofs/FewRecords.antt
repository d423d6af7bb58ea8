-- A chunk has no more records than bytes of data.
use Rattle.std.proofs.Common.{◌≡◌, ℕ, ◌+◌, ◌≤◌, List, [], ◌∷◌, ◌++◌, length, length-append, refl, ap, arith}
use Rattle.std.specs.Prelude.{map, sum}
use Rattle.std.specs.List.{concat}
use Rattle.varint_wire.specs.Varint.{SpellsEach}
use Rattle.chunk_header.specs.Chunks.{ChunkValue}
use Rattle.chunk_header.specs.SimpleChunks.{IsSimple}
use Rattle.chunk_header.proofs.SimpleChunks.{sum-map-length}

-- each spelling has a byte or more
length-SpellsEach : (values bytes : List ℕ) → SpellsEach values bytes → length values ≤ length bytes
length-SpellsEach [] bytes h = omega arith
length-SpellsEach (v ∷ vs) bytes (front, rest, whole, spells, each) =
    omega (arith, ap length whole, length-append front rest, spells.some, length-SpellsEach vs rest each)

-- as many records as sizes
length-sizes : (records : List (List ℕ)) → length (map length records) ≡ length records
length-sizes [] = refl
length-sizes (r ∷ rs) = omega (arith, length-sizes rs)

whole : (k : ChunkValue) (records : List (List ℕ)) (h : IsSimple k records)
    → length k.«data» ≡ 1 + length h.spelled_size + length h.sizes + length (concat records)
whole k records h =
    omega (
      arith,
      ap length h.«data»,
      length-append (0 ∷ h.spelled_size ++ h.sizes) (concat records),
      length-append (0 ∷ h.spelled_size) h.sizes,
    )

pub few_records : (k : ChunkValue) (records : List (List ℕ)) → IsSimple k records → length records ≤ length k.«data»
few_records k records h =
    omega (arith, whole k records h, length-SpellsEach (map length records) h.sizes h.spells_each, length-sizes records)

pub few_bytes : (k : ChunkValue) (records : List (List ℕ)) → IsSimple k records → sum (map length records) ≤ length k.«data»
few_bytes k records h = omega (arith, whole k records h, sum-map-length records)
