-- Inside. The parts of a file between cuts, and which records each has. Own.
use Rattle.std.specs.Prelude.{◌≡◌, ℕ, zero, suc, ◌-◌, ◌*◌, ◌/◌, ◌<◌, ◌≤◌, ◌&&◌, nat_lt, nat_le, filter, map, List, [], ◌∷◌, length}
use Rattle.std.specs.List.{range_with_len}
use Rattle.chunk_header.specs.Chunks.{ChunkValue}
use Rattle.meta_chunk.specs.Files.{IsReadable, ArePlaced}

-- cuts rise or stay equal from a place on, and none passes the size
abbrev pub RiseUpTo : (size from : ℕ) → List ℕ → Type 0
RiseUpTo size from [] = from ≤ size
RiseUpTo size from (cut ∷ cuts) = (from ≤ cut) × RiseUpTo size cut cuts

-- where a file of so many bytes is cut into parts that are alike, up to a byte
abbrev pub even_cuts : (size parts : ℕ) → List ℕ
even_cuts size parts = map (λ i. i * size / parts) (range_with_len 1 (parts - 1))

-- of records with their positions, those whose positions lie from one place up to another, in order
abbrev pub records_between : (from to : ℕ) → List (ℕ × List ℕ) → List (List ℕ)
records_between from to placed = map (λ p. p.1) (filter (λ p. nat_le from p.0 && nat_lt p.0 to) placed)

-- the parts of a file of so many bytes from a place on: up to the first cut, from each cut up to the next, and from the last
-- one up to the file's end
abbrev pub ranges_from : (size from : ℕ) → List ℕ → List (ℕ × List ℕ) → List (List (List ℕ))
ranges_from size from [] placed = records_between from size placed ∷ []
ranges_from size from (cut ∷ cuts) placed = records_between from cut placed ∷ ranges_from size cut cuts placed

-- the parts of a whole file
abbrev pub ranges : (size : ℕ) → List ℕ → List (ℕ × List ℕ) → List (List (List ℕ))
ranges size cuts placed = ranges_from size 0 cuts placed

-- of the parts from a place on, the one of this number, which counts from 0, has the position
abbrev pub LiesInPart : (size from : ℕ) → List ℕ → (position number : ℕ) → Type 0
LiesInPart size from [] position number = (number ≡ 0) × (from ≤ position) × (position < size)
LiesInPart size from (cut ∷ cuts) position zero = (from ≤ position) × (position < cut)
LiesInPart size from (cut ∷ cuts) position (suc number) = LiesInPart size cut cuts position number

-- the file has no fault, and these are its parts between the cuts
pub record AreRangesOf (file cuts : List ℕ) (parts : List (List (List ℕ))) : Type 0 where
  pub chunks : List ChunkValue
  pub placed : List (ℕ × List ℕ)
  pub is_file : IsReadable chunks file
  pub are_placed : ArePlaced chunks placed
  pub are_ranges : parts ≡ ranges (length file) cuts placed
