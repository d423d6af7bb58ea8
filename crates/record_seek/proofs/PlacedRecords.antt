-- The records of chunks among those of the file, by their numbers.
use Rattle.std.proofs.Common.{◌≡◌, ◌∙◌, ℕ, zero, suc, ◌+◌, ◌<◌, ◌≤◌, Some, List, [], ◌∷◌, ◌++◌, length, take, refl, sym, ap, subst, inl, inr, add-one, arith}
use Rattle.std.specs.Prelude.{slice_get}
use Rattle.std.specs.List.{AllByRecursion, enumerate_from}
use Rattle.std.proofs.lemmas.List.{length-append}
use Rattle.std.proofs.lemmas.Option.{same_Some}
use Rattle.chunk_header.specs.Chunks.{ChunkValue}
use Rattle.chunk_header.specs.SimpleChunks.{IsSimple}
use Rattle.chunk_header.proofs.OneList.{records_are_one}
use Rattle.meta_chunk.specs.Files.{IsPlain, IsWellFormed, HoldEach, begin_of, end_of_chunks, placed_from}
use Rattle.meta_chunk.specs.Laid.{end_of_chunk}
use Rattle.meta_chunk.proofs.Held.{Holds-counted}
use Rattle.chunk_reader.specs.Places.{chunk_at}
use Rattle.chunk_reader.specs.PositionSearches.{HasRecordsAt}
use Rattle.chunk_reader.proofs.HeadersTell.{laid_at, stands_below}
use Rattle.chunk_reader.proofs.LaidAt.{chunk_at-laid}

-- what stands in a list stands in one that begins or ends with it
stands-left : {X : Type 0} (xs ys : List X) (i : ℕ) (x : X) → slice_get xs i ≡ Some x → slice_get (xs ++ ys) i ≡ Some x
stands-left [] ys i x stands = absurd (cc)
stands-left (y ∷ xs) ys zero x stands = stands
stands-left (y ∷ xs) ys (suc i) x stands = stands-left xs ys i x stands

stands-right : {X : Type 0} (xs ys : List X) (i : ℕ) (x : X) → slice_get ys i ≡ Some x → slice_get (xs ++ ys) (length xs + i) ≡ Some x
stands-right {X} [] ys i x stands =
    let index : i ≡ length {A = X} [] + i = omega arith in
    subst (λ (n : ℕ). slice_get ys n ≡ Some x) index stands
stands-right (y ∷ xs) ys i x stands =
    let index : suc (length xs + i) ≡ length (y ∷ xs) + i = omega arith in
    subst (λ (n : ℕ). slice_get (y ∷ xs ++ ys) n ≡ Some x) index (stands-right xs ys i x stands)

-- the records of a chunk with their positions
stands-enumerate : (place : ℕ) (records : List (List ℕ)) (n : ℕ) (r : List ℕ) → slice_get records n ≡ Some r
    → slice_get (enumerate_from place records) n ≡ Some (place + n, r)
stands-enumerate place [] n r stands = absurd (cc)
stands-enumerate place (x ∷ records) zero r stands =
    let first : place ≡ place + 0 = omega arith in
    ap (λ (y : List ℕ). Some (place, y)) (same_Some x r stands) ∙ ap (λ (p : ℕ). Some (p, r)) first
stands-enumerate place (x ∷ records) (suc n) r stands =
    let next : place + 1 + n ≡ place + suc n = omega arith in
    stands-enumerate (place + 1) records n r stands ∙ ap (λ (p : ℕ). Some (p, r)) next

length-enumerate : (place : ℕ) (records : List (List ℕ)) → length (enumerate_from place records) ≡ length records
length-enumerate place [] = refl
length-enumerate place (r ∷ records) = ap suc (length-enumerate (place + 1) records)

-- how many records are held before the chunk of this number
abbrev pub records_before : List (List (List ℕ)) → ℕ → ℕ
records_before [] j = 0
records_before (records ∷ lists) zero = 0
records_before (records ∷ lists) (suc j) = length records + records_before lists j

pub none_before_first : (lists : List (List (List ℕ))) → records_before lists 0 ≡ 0
none_before_first [] = refl
none_before_first (records ∷ lists) = refl

-- a record of a chunk stands among those of the file
pub placed-stands : (place : ℕ) (ks : List ChunkValue) (lists : List (List (List ℕ))) (j : ℕ) (k : ChunkValue) (records : List (List ℕ)) (n : ℕ) (r : List ℕ)
    → HoldEach ks lists → slice_get ks j ≡ Some k → IsSimple k records → slice_get records n ≡ Some r
    → slice_get (placed_from place ks lists) (records_before lists j + n) ≡ Some (end_of_chunks place (take j ks) + n, r)
placed-stands place [] lists j k records n r each at simple stands = absurd (cc)
placed-stands place (x ∷ ks) [] j k records n r each at simple stands = elim each [ ]
placed-stands place (x ∷ ks) (held ∷ lists) zero k records n r (inl there, rest) at simple stands =
    let same : held ≡ records = records_are_one x held records there (subst (λ (c : ChunkValue). IsSimple c records) (sym (same_Some x k at)) simple) in
    let stands' : slice_get held n ≡ Some r = subst (λ (rs : List (List ℕ)). slice_get rs n ≡ Some r) (sym same) stands in
    let here : List (ℕ × List ℕ) = enumerate_from place held in
    let behind : List (ℕ × List ℕ) = placed_from (end_of_chunk place x) ks lists in
    let index : n ≡ 0 + n = omega arith in
    subst (λ (i : ℕ). slice_get (here ++ behind) i ≡ Some (place + n, r)) index
    (stands-left here behind n (place + n, r) (stands-enumerate place held n r stands'))
placed-stands place (x ∷ ks) (held ∷ lists) zero k records n r (inr (never, none), rest) at simple stands =
    absurd (never (records, subst (λ (c : ChunkValue). IsSimple c records) (sym (same_Some x k at)) simple))
placed-stands place (x ∷ ks) (held ∷ lists) (suc j) k records n r each at simple stands =
    let here : List (ℕ × List ℕ) = enumerate_from place held in
    let behind : List (ℕ × List ℕ) = placed_from (end_of_chunk place x) ks lists in
    let index : length here + (records_before lists j + n) ≡ length held + records_before lists j + n = omega (arith, length-enumerate place held) in
    subst (λ (i : ℕ). slice_get (here ++ behind) i ≡ Some (end_of_chunks place (take (suc j) (x ∷ ks)) + n, r)) index
    (stands-right here behind (records_before lists j + n) _ (placed-stands (end_of_chunk place x) ks lists j k records n r each.1 at simple stands))

-- past the last chunk all are held before
pub length-placed : (place : ℕ) (ks : List ChunkValue) (lists : List (List (List ℕ))) (j : ℕ) → HoldEach ks lists → length ks ≤ j
    → length (placed_from place ks lists) ≡ records_before lists j
length-placed place [] lists j each past = sym (ap (λ (held : List (List (List ℕ))). records_before held j) each)
length-placed place (k ∷ ks) [] j each past = elim each [ ]
length-placed place (k ∷ ks) (records ∷ lists) zero each past = absurd (omega (arith, past))
length-placed place (k ∷ ks) (records ∷ lists) (suc j) each past =
    omega (
      arith,
      length-append (enumerate_from place records) (placed_from (end_of_chunk place k) ks lists),
      length-enumerate place records,
      length-placed (end_of_chunk place k) ks lists j each.1 (omega (arith, past)),
    )

-- each chunk that is read adds as many as its header says
before_next : (ks : List ChunkValue) (lists : List (List (List ℕ))) (j : ℕ) (k : ChunkValue) → AllByRecursion IsPlain ks → HoldEach ks lists
    → slice_get ks j ≡ Some k → records_before lists (suc j) ≡ records_before lists j + k.num_records
before_next [] lists j k plain each at = absurd (cc)
before_next (x ∷ ks) [] j k plain each at = elim each [ ]
before_next (x ∷ ks) (records ∷ lists) zero k plain each at =
    omega (
      arith,
      none_before_first lists,
      Holds-counted x records plain.0 each.0,
      ap (λ (c : ChunkValue). c.num_records) (same_Some x k at),
    )
before_next (x ∷ ks) (records ∷ lists) (suc j) k plain each at = omega (arith, before_next ks lists j k plain.1 each.1 at)

pub records_before_next : (ks : List ChunkValue) (lists : List (List (List ℕ))) (j : ℕ) (k : ChunkValue) → AllByRecursion IsPlain ks
    → HoldEach ks lists → slice_get ks j ≡ Some k → records_before lists (j + 1) ≡ records_before lists j + k.num_records
records_before_next ks lists j k plain each at = rw (add-one j) (before_next ks lists j k plain each at)

-- the chunk at a place holds the records that it has there
pub holds_there : (ks : List ChunkValue) (file : List ℕ) (well_formed : IsWellFormed ks file) (j place : ℕ) (records : List (List ℕ)) → place ≡ begin_of ks j → place < length file → HasRecordsAt file place records
    → (k : ChunkValue) × (slice_get ks j ≡ Some k) × IsSimple k records
holds_there ks file well_formed j place records is below holds =
    let k = stands_below ks file well_formed j (omega (arith, is, below)) in
    let same : chunk_at file place ≡ k.0 =
    ap (chunk_at file) is ∙ chunk_at-laid (begin_of ks j) k.0 file (begin_of ks (j + 1)) (laid_at ks file well_formed j k.0 k.1) in
    (k.0, k.1, subst (λ (c : ChunkValue). IsSimple c records) same holds.holds)
