-- The simple chunk of records with shortest spellings: its sizes, and that it holds those records.
use Rattle.std.proofs.Common.{◌≡◌, ℕ, ◌+◌, ◌*◌, ◌^◌, ◌<◌, ◌≤◌, List, [], ◌∷◌, ◌++◌, length, refl, arith}
use Rattle.std.specs.Prelude.{map, sum}
use Rattle.std.specs.List.{AllByRecursion, concat}
use Rattle.std.proofs.lemmas.List.{length-append}
use Rattle.std.proofs.lemmas.List.Sums.{sum_by-cons}
use Rattle.varint_wire.specs.Varint.{SpellsEach, shortest}
use Rattle.varint_wire.proofs.Spellings.{Spells-shortest, length-shortest, shortest-lt}
use Rattle.record_values.specs.Bytes.{AreBytes}
use Rattle.chunk_header.specs.SimpleChunks.{IsSimple, sizes_of, simple_data, simple_chunk}
use Rattle.record_values.proofs.ByteLists.{AreBytes-append, AreBytes-from_get_or}

-- the sizes take from 1 to 10 bytes for each record
pub length-sizes_of : (records : List (List ℕ)) → (length records ≤ length (sizes_of records)) × (length (sizes_of records) ≤ 10 * length records)
length-sizes_of [] = (omega arith, omega arith)
length-sizes_of (record_bytes ∷ records) =
    let more : length (sizes_of (record_bytes ∷ records)) ≡ length (shortest (length record_bytes)) + length (sizes_of records) =
    length-append (shortest (length record_bytes)) (sizes_of records) in (
      omega (arith, length-sizes_of records, length-shortest (length record_bytes)),
      omega (arith, length-sizes_of records, length-shortest (length record_bytes)),
    )

-- how many bytes the data has
pub length-simple_data : (records : List (List ℕ))
    → length (simple_data records) ≡ 1 + length (shortest (length (sizes_of records))) + length (sizes_of records) + length (concat records)
length-simple_data records = simp length-append (omega arith)

-- the decoded size is how many bytes the records have together
pub sum-map-length : (records : List (List ℕ)) → sum (map length records) ≡ length (concat records)
sum-map-length [] = refl
sum-map-length (record_bytes ∷ records) =
    omega (arith, sum-map-length records, sum_by-cons (λ (n : ℕ). n) (length record_bytes) (map length records), length-append record_bytes (concat records))

-- the sizes are spellings of the records' lengths
pub SpellsEach-sizes_of : (records : List (List ℕ)) → AllByRecursion (λ record_bytes. length record_bytes < 2 ^ 64) records
    → SpellsEach (map length records) (sizes_of records)
SpellsEach-sizes_of [] h = refl
SpellsEach-sizes_of (record_bytes ∷ records) h =
    (shortest (length record_bytes), sizes_of records, refl, Spells-shortest (length record_bytes) h.0, SpellsEach-sizes_of records h.1)

-- the chunk holds the records
pub IsSimple-simple_chunk : (records : List (List ℕ))
    → AllByRecursion (λ record_bytes. length record_bytes < 2 ^ 64) records → length (sizes_of records) < 2 ^ 64
    → IsSimple (simple_chunk records) records
IsSimple-simple_chunk records short few = record {
  kind = refl;
  num_records = refl;
  decoded_size = refl;
  spelled_size = shortest (length (sizes_of records));
  sizes = sizes_of records;
  spells_size = Spells-shortest (length (sizes_of records)) few;
  spells_each = SpellsEach-sizes_of records short;
  «data» = refl;
}

-- spellings are bytes
AreBytes-shortest : (v : ℕ) → v < 2 ^ 64 → AreBytes (shortest v)
AreBytes-shortest v h = AreBytes-from_get_or (shortest v) (shortest-lt v h)

AreBytes-sizes_of : (records : List (List ℕ)) → AllByRecursion (λ record_bytes. length record_bytes < 2 ^ 64) records → AreBytes (sizes_of records)
AreBytes-sizes_of [] h = tt
AreBytes-sizes_of (record_bytes ∷ records) h =
    AreBytes-append (shortest (length record_bytes)) (sizes_of records) (AreBytes-shortest (length record_bytes) h.0) (AreBytes-sizes_of records h.1)

-- joined records of bytes are bytes
pub AreBytes-concat : (records : List (List ℕ)) → AllByRecursion AreBytes records → AreBytes (concat records)
AreBytes-concat [] h = tt
AreBytes-concat (record_bytes ∷ records) h = AreBytes-append record_bytes (concat records) h.0 (AreBytes-concat records h.1)

-- so the data is bytes where the records are
pub AreBytes-simple_data : (records : List (List ℕ)) → AllByRecursion AreBytes records
    → AllByRecursion (λ record_bytes. length record_bytes < 2 ^ 64) records → length (sizes_of records) < 2 ^ 64
    → AreBytes (simple_data records)
AreBytes-simple_data records each short few = (
  omega arith,
  AreBytes-append
      (shortest (length (sizes_of records)) ++ sizes_of records)
      (concat records)
      (AreBytes-append (shortest (length (sizes_of records))) (sizes_of records) (AreBytes-shortest (length (sizes_of records)) few) (AreBytes-sizes_of records short))
      (AreBytes-concat records each),
)
