-- The positions of records: they rise, each below the end of its chunk.
use Rattle.std.proofs.Common.{◌≡◌, ◌∙◌, ℕ, zero, suc, ◌+◌, ◌<◌, ◌≤◌, List, [], ◌∷◌, ◌++◌, length, get_or, refl, sym, ap, subst, inl, inr, add-one, arith}
use Rattle.std.specs.Prelude.{map}
use Rattle.std.specs.List.{AllByRecursion, flat_map, enumerate_from}
use Rattle.std.specs.List.Sorted.{IsStrictlyIncreasing}
use Rattle.std.proofs.lemmas.List.{map-append}
use Rattle.block_layout.proofs.ChunkEnds.{chunk_end_of_past_records}
use Rattle.chunk_header.specs.Chunks.{ChunkValue}
use Rattle.meta_chunk.specs.Laid.{end_of_chunk}
use Rattle.meta_chunk.specs.Files.{Holds, HoldEach, AreRecordsOf, end_of_chunks, placed_from, ArePlaced}
use Rattle.meta_chunk.proofs.LaidChunks.{end_of_chunk_after}
use Rattle.meta_chunk.proofs.Held.{HoldEach-one}

-- numbers that rise from one on and stay below another
abbrev Rises : ℕ → ℕ → List ℕ → Type 0
Rises low high [] = low ≤ high
Rises low high (x ∷ xs) = (low ≤ x) × Rises (x + 1) high xs

-- they do so from a lesser one on
Rises-lower : (low from high : ℕ) (xs : List ℕ) → low ≤ from → Rises from high xs → Rises low high xs
Rises-lower low from high [] less h = omega arith
Rises-lower low from high (x ∷ xs) less h = (omega arith, h.1)

-- each is below the limit
Rises-below : (low high : ℕ) (xs : List ℕ) → Rises low high xs → AllByRecursion (λ x. x < high) xs × (low ≤ high)
Rises-below low high [] h = (tt, h)
Rises-below low high (x ∷ xs) h =
    let rest = Rises-below (x + 1) high xs h.1 in
    let below : x + 1 ≤ high = rest.1 in
    ((omega arith, rest.0), omega arith)

-- and below the next
Rises-next : (low high : ℕ) (xs : List ℕ) (i : ℕ) → Rises low high xs → suc i < length xs → get_or xs i 0 < get_or xs (suc i) 0
Rises-next low high [] i h within = absurd (omega arith)
Rises-next low high (x ∷ []) i h within = absurd (omega arith)
Rises-next low high (x ∷ y ∷ xs) zero h within = omega (arith, h.1.0)
Rises-next low high (x ∷ y ∷ xs) (suc i) h within = Rises-next (x + 1) high (y ∷ xs) i h.1 (omega arith)

increasing : (low high : ℕ) (xs : List ℕ) → Rises low high xs → IsStrictlyIncreasing xs
increasing low high xs h i within =
    subst (λ (n : ℕ). get_or xs i 0 < get_or xs n 0) (sym (add-one i)) (Rises-next low high xs i h (omega arith))

-- a chunk reaches past the positions of its records
Holds-fits : (place : ℕ) (k : ChunkValue) (records : List (List ℕ)) → Holds k records → place + length records ≤ end_of_chunk place k
Holds-fits place k records (inl simple) =
    omega (arith, simple.num_records, chunk_end_of_past_records place (40 + length k.«data») k.num_records)
Holds-fits place k records (inr (none, nothing)) = omega (arith, ap length nothing, end_of_chunk_after place k)

-- so positions rise within a chunk and on to the next
Rises-enumerate : (place middle high : ℕ) (records : List (List ℕ)) (rest : List (ℕ × List ℕ)) → place + length records ≤ middle
    → Rises middle high (map (λ p. p.0) rest) → Rises place high (map (λ p. p.0) (enumerate_from place records ++ rest))
Rises-enumerate place middle high [] rest fits h = Rises-lower place middle high (map (λ p. p.0) rest) (omega arith) h
Rises-enumerate place middle high (r ∷ records) rest fits h =
    (omega arith, Rises-enumerate (place + 1) middle high records rest (omega arith) h)

Rises-placed : (place : ℕ) (ks : List ChunkValue) (lists : List (List (List ℕ))) → HoldEach ks lists
    → Rises place (end_of_chunks place ks) (map (λ p. p.0) (placed_from place ks lists))
Rises-placed place [] lists h = omega arith
Rises-placed place (k ∷ ks) [] h = elim h [ ]
Rises-placed place (k ∷ ks) (records ∷ lists) h =
    Rises-enumerate place (end_of_chunk place k) (end_of_chunks (end_of_chunk place k) ks) records
    (placed_from (end_of_chunk place k) ks lists) (Holds-fits place k records h.0)
    (Rises-placed (end_of_chunk place k) ks lists h.1)

-- the records with their positions are the records
records_of-enumerate : (place : ℕ) (records : List (List ℕ)) → map (λ p. p.1) (enumerate_from place records) ≡ records
records_of-enumerate place [] = refl
records_of-enumerate place (r ∷ records) = ap (λ (xs : List (List ℕ)). r ∷ xs) (records_of-enumerate (place + 1) records)

records_of-placed : (place : ℕ) (ks : List ChunkValue) (lists : List (List (List ℕ))) → HoldEach ks lists
    → map (λ p. p.1) (placed_from place ks lists) ≡ flat_map (λ held. held) lists
records_of-placed place [] lists h = ap (flat_map (λ (held : List (List ℕ)). held)) (sym h)
records_of-placed place (k ∷ ks) [] h = elim h [ ]
records_of-placed place (k ∷ ks) (records ∷ lists) h =
    let rest : List (ℕ × List ℕ) = placed_from (end_of_chunk place k) ks lists in
    map-append (λ (p : ℕ × List ℕ). p.1) (enumerate_from place records) rest
    ∙ ap (λ (xs : List (List ℕ)). xs ++ map (λ (p : ℕ × List ℕ). p.1) rest) (records_of-enumerate place records)
    ∙ ap (λ (xs : List (List ℕ)). records ++ xs) (records_of-placed (end_of_chunk place k) ks lists h.1)

pub AreRecordsOf-placed : (ks : List ChunkValue) (placed : List (ℕ × List ℕ)) → ArePlaced ks placed → AreRecordsOf ks (map (λ p. p.1) placed)
AreRecordsOf-placed ks placed (lists, h, same) =
    (lists, h, ap (map (λ (p : ℕ × List ℕ). p.1)) same ∙ records_of-placed 0 ks lists h)

-- there is one list of them
pub ArePlaced-one : (ks : List ChunkValue) (a b : List (ℕ × List ℕ)) → ArePlaced ks a → ArePlaced ks b → a ≡ b
ArePlaced-one ks a b (lists, h, same) (others, g, also) = same ∙ ap (placed_from 0 ks) (HoldEach-one ks lists others h g) ∙ sym also

-- and the positions rise, all below the chunks' end
pub ArePlaced-rise : (ks : List ChunkValue) (placed : List (ℕ × List ℕ)) → ArePlaced ks placed → IsStrictlyIncreasing (map (λ p. p.0) placed)
ArePlaced-rise ks placed (lists, h, same) =
    subst (λ (xs : List (ℕ × List ℕ)). IsStrictlyIncreasing (map (λ p. p.0) xs)) (sym same)
    (increasing 0 (end_of_chunks 0 ks) (map (λ p. p.0) (placed_from 0 ks lists)) (Rises-placed 0 ks lists h))

pub ArePlaced-below : (ks : List ChunkValue) (placed : List (ℕ × List ℕ)) → ArePlaced ks placed
    → AllByRecursion (λ p. p < end_of_chunks 0 ks) (map (λ p. p.0) placed)
ArePlaced-below ks placed (lists, h, same) =
    subst (λ (xs : List (ℕ × List ℕ)). AllByRecursion (λ p. p < end_of_chunks 0 ks) (map (λ p. p.0) xs)) (sym same)
    (Rises-below 0 (end_of_chunks 0 ks) (map (λ p. p.0) (placed_from 0 ks lists)) (Rises-placed 0 ks lists h)).0
