-- The parts of a file have all its records, in order.
use Rattle.std.proofs.Common.{◌≡◌, ◌∙◌, ℕ, zero, suc, ◌+◌, ◌<◌, ◌≤◌, ◌&&◌, Some, Bool, true, false, nat_le, nat_lt, List, [], ◌∷◌, ◌++◌, length, map, take, filter, refl, sym, ap, subst, inl, inr, arith}
use Rattle.std.specs.Prelude.{slice_get}
use Rattle.std.specs.List.{AllByRecursion, flat_map, enumerate_from}
use Rattle.std.proofs.lemmas.Bool.{cases_lt, cases_Bool, cond-true, cond-false, and_from, and_left, and_right, lt-ltb, le-ltb, le-leb, lt-leb}
use Rattle.std.proofs.lemmas.List.{append-nil, length-take-le}
use Rattle.block_layout.proofs.ChunkEnds.{chunk_end_of_past_records}
use Rattle.chunk_header.specs.Chunks.{ChunkValue}
use Rattle.meta_chunk.specs.Laid.{end_of_chunk}
use Rattle.meta_chunk.specs.Files.{IsReadable, Holds, HoldEach, ArePlaced, end_of_chunks, placed_from}
use Rattle.meta_chunk.proofs.Placed.{ArePlaced-below, ArePlaced-one}
use Rattle.meta_chunk.proofs.Chains.{AreLaid-one}
use Rattle.meta_chunk.proofs.Joins.{end-AreLaid}
use Rattle.meta_chunk.proofs.LaidChunks.{end_of_chunk_after}
use Rattle.record_ranges.specs.Ranges.{RiseUpTo, LiesInPart, records_between, ranges, ranges_from, AreRangesOf}
use Rattle.record_ranges.proofs.Between.{position, between-past}

-- records whose positions rise from one on
abbrev Rise : ℕ → List (ℕ × List ℕ) → Type 0
Rise low [] = Unit {0}
Rise low (p ∷ placed) = (low ≤ p.0) × Rise (p.0 + 1) placed

rise_lower : (low from : ℕ) (placed : List (ℕ × List ℕ)) → low ≤ from → Rise from placed → Rise low placed
rise_lower low from [] less h = tt
rise_lower low from (p ∷ placed) less h = (omega (arith, less, h.0), h.1)

rise_all : (low : ℕ) (placed : List (ℕ × List ℕ)) → Rise low placed → AllByRecursion (λ x. low ≤ x) (map position placed)
rise_all low [] h = tt
rise_all low (p ∷ placed) h = (h.0, rise_all low placed (rise_lower low (p.0 + 1) placed (omega (arith, h.0)) h.1))

fits : (place : ℕ) (k : ChunkValue) (records : List (List ℕ)) → Holds k records → place + length records ≤ end_of_chunk place k
fits place k records (inl simple) =
    omega (arith, simple.num_records, chunk_end_of_past_records place (40 + length k.«data») k.num_records)
fits place k records (inr (none, nothing)) = omega (arith, ap length nothing, end_of_chunk_after place k)

rise_chunk : (place middle : ℕ) (records : List (List ℕ)) (rest : List (ℕ × List ℕ)) → place + length records ≤ middle → Rise middle rest
    → Rise place (enumerate_from place records ++ rest)
rise_chunk place middle [] rest within h = rise_lower place middle rest (omega (arith, within)) h
rise_chunk place middle (r ∷ records) rest within h = (omega arith, rise_chunk (place + 1) middle records rest (omega (arith, within)) h)

rise_placed : (place : ℕ) (ks : List ChunkValue) (lists : List (List (List ℕ))) → HoldEach ks lists → Rise place (placed_from place ks lists)
rise_placed place [] lists h = tt
rise_placed place (k ∷ ks) [] h = elim h [ ]
rise_placed place (k ∷ ks) (records ∷ lists) h =
    rise_chunk place (end_of_chunk place k) records (placed_from (end_of_chunk place k) ks lists) (fits place k records h.0)
    (rise_placed (end_of_chunk place k) ks lists h.1)

abbrev bytes : ℕ × List ℕ → List ℕ
bytes p = p.1

abbrev lies : (from to : ℕ) → ℕ × List ℕ → Bool
lies from to p = nat_le from p.0 && nat_lt p.0 to

taken_in : (from to : ℕ) (p : ℕ × List ℕ) (placed : List (ℕ × List ℕ)) → lies from to p ≡ true
    → records_between from to (p ∷ placed) ≡ p.1 ∷ records_between from to placed
taken_in from to p placed is = ap (map bytes) (cond-true (lies from to p) (p ∷ filter (lies from to) placed) (filter (lies from to) placed) is)

left : (from to : ℕ) (p : ℕ × List ℕ) (placed : List (ℕ × List ℕ)) → lies from to p ≡ false
    → records_between from to (p ∷ placed) ≡ records_between from to placed
left from to p placed is = ap (map bytes) (cond-false (lies from to p) (p ∷ filter (lies from to) placed) (filter (lies from to) placed) is)

inside : (from to : ℕ) (p : ℕ × List ℕ) → from ≤ p.0 → p.0 < to → lies from to p ≡ true
inside from to p low high = and_from (nat_le from p.0) (nat_lt p.0 to) (le-leb from p.0 low) (lt-ltb p.0 to high)

before : (from to : ℕ) (p : ℕ × List ℕ) → p.0 < from → lies from to p ≡ false
before from to p low = and_left (nat_le from p.0) (nat_lt p.0 to) (lt-leb from p.0 low)

behind : (from to : ℕ) (p : ℕ × List ℕ) → to ≤ p.0 → lies from to p ≡ false
behind from to p high = and_right (nat_le from p.0) (nat_lt p.0 to) (le-ltb p.0 to high)

-- where all lie behind a place, what lies before it makes no difference
other_from : (a b c : ℕ) (placed : List (ℕ × List ℕ)) → a ≤ b → AllByRecursion (λ x. b ≤ x) (map position placed)
    → records_between b c placed ≡ records_between a c placed
other_from a b c [] less h = refl
other_from a b c (p ∷ placed) less h = elim (cases_lt p.0 c) [
  | inl low ↦
      taken_in b c p placed (inside b c p h.0 low)
      ∙ ap (λ (xs : List (List ℕ)). p.1 ∷ xs) (other_from a b c placed less h.1)
      ∙ sym (taken_in a c p placed (inside a c p (omega (arith, less, h.0)) low))
  | inr high ↦ left b c p placed (behind b c p high) ∙ other_from a b c placed less h.1 ∙ sym (left a c p placed (behind a c p high))
]

-- up to a place, and from there on
two_parts : (a b c low : ℕ) (placed : List (ℕ × List ℕ)) → a ≤ b → b ≤ c → Rise low placed
    → records_between a b placed ++ records_between b c placed ≡ records_between a c placed
two_parts a b c low [] less more h = refl
two_parts a b c low (p ∷ placed) less more h =
    let rest = two_parts a b c (p.0 + 1) placed less more h.1 in
    elim (cases_lt p.0 b) [
      | inl under ↦
          ap (λ (xs : List (List ℕ)). records_between a b (p ∷ placed) ++ xs) (left b c p placed (before b c p under))
          ∙ elim (cases_lt p.0 a) [
            | inl out ↦
                ap (λ (xs : List (List ℕ)). xs ++ records_between b c placed) (left a b p placed (before a b p out))
                ∙ rest ∙ sym (left a c p placed (before a c p out))
            | inr in_a ↦
                ap (λ (xs : List (List ℕ)). xs ++ records_between b c placed) (taken_in a b p placed (inside a b p in_a under))
                ∙ ap (λ (xs : List (List ℕ)). p.1 ∷ xs) rest
                ∙ sym (taken_in a c p placed (inside a c p in_a (omega (arith, under, more))))
          ]
      | inr over ↦
          let all : AllByRecursion (λ x. b ≤ x) (map position (p ∷ placed)) =
          (over, rise_all b placed (rise_lower b (p.0 + 1) placed (omega (arith, over)) h.1)) in
          ap (λ (xs : List (List ℕ)). xs ++ records_between b c (p ∷ placed)) (between-past a b (p ∷ placed) all)
          ∙ other_from a b c (p ∷ placed) less all
    ]

-- so it is with all parts from a place on
rise_size : (size from : ℕ) (cuts : List ℕ) → RiseUpTo size from cuts → from ≤ size
rise_size size from [] h = h
rise_size size from (cut ∷ cuts) h = omega (arith, h.0, rise_size size cut cuts h.1)

parts_from : (size from low : ℕ) (cuts : List ℕ) (placed : List (ℕ × List ℕ)) → RiseUpTo size from cuts → Rise low placed
    → flat_map (λ part. part) (ranges_from size from cuts placed) ≡ records_between from size placed
parts_from size from low [] placed h rise = append-nil (records_between from size placed)
parts_from size from low (cut ∷ cuts) placed h rise =
    ap (λ (xs : List (List ℕ)). records_between from cut placed ++ xs) (parts_from size cut low cuts placed h.1 rise)
    ∙ two_parts from cut size low placed h.0 (rise_size size cut cuts h.1) rise

whole_part : (size : ℕ) (placed : List (ℕ × List ℕ)) → AllByRecursion (λ x. x < size) (map position placed)
    → records_between 0 size placed ≡ map bytes placed
whole_part size [] h = refl
whole_part size (p ∷ placed) h =
    taken_in 0 size p placed (inside 0 size p (omega arith) h.0) ∙ ap (λ (xs : List (List ℕ)). p.1 ∷ xs) (whole_part size placed h.1)

-- the chunks of a file end where it does
end_of_file : (ks : List ChunkValue) (file : List ℕ) → IsReadable ks file → end_of_chunks 0 ks ≡ length file
end_of_file ks file is =
    omega (arith, end-AreLaid 0 ks (take (length file) file) is.1.laid, length-take-le (length file) file (omega arith))

-- and with those of a file
pub all_records : (ks : List ChunkValue) (file cuts : List ℕ) (placed : List (ℕ × List ℕ)) → IsReadable ks file → ArePlaced ks placed
    → RiseUpTo (length file) 0 cuts → flat_map (λ part. part) (ranges (length file) cuts placed) ≡ map (λ p. p.1) placed
all_records ks file cuts placed is (lists, held, are) rise =
    let end : end_of_chunks 0 ks ≡ length file = end_of_file ks file is in
    let risen : Rise 0 placed = subst (Rise 0) (sym are) (rise_placed 0 ks lists held) in
    let below = subst (λ (p : ℕ). AllByRecursion (λ x. x < p) (map position placed)) end (ArePlaced-below ks placed (lists, held, are)) in
    parts_from (length file) 0 0 cuts placed rise risen ∙ whole_part (length file) placed below

-- there is one part more than cuts
pub count_parts : (size from : ℕ) (cuts : List ℕ) (placed : List (ℕ × List ℕ)) → length (ranges_from size from cuts placed) ≡ length cuts + 1
count_parts size from [] placed = refl
count_parts size from (cut ∷ cuts) placed = ap suc (count_parts size cut cuts placed) ∙ omega arith

-- and a file has its parts in one way
pub one_parting : (file cuts : List ℕ) (a b : List (List (List ℕ))) → AreRangesOf file cuts a → AreRangesOf file cuts b → a ≡ b
one_parting file cuts a b h g =
    let same : h.chunks ≡ g.chunks = AreLaid-one h.chunks g.chunks file (length file) (omega arith) h.is_file.1.laid g.is_file.1.laid in
    let placed : h.placed ≡ g.placed =
    ArePlaced-one g.chunks h.placed g.placed (subst (λ (ks : List ChunkValue). ArePlaced ks h.placed) same h.are_placed) g.are_placed in
    h.are_ranges ∙ ap (ranges (length file) cuts) placed ∙ sym g.are_ranges

-- each position lies in a part
pub some_part : (size from place : ℕ) (cuts : List ℕ) → from ≤ place → place < size → (number : ℕ) × LiesInPart size from cuts place number
some_part size from place [] low high = (0, (refl, low, high))
some_part size from place (cut ∷ cuts) low high = elim (cases_lt place cut) [
  | inl before_it ↦ (0, (low, before_it))
  | inr past_it ↦ let rest = some_part size cut place cuts past_it high in (suc rest.0, rest.1)
]

-- of the parts from a place on, none has a lesser position
lies_from : (size from place number : ℕ) (cuts : List ℕ) → RiseUpTo size from cuts → LiesInPart size from cuts place number → from ≤ place
lies_from size from place number [] rise h = h.1
lies_from size from place zero (cut ∷ cuts) rise h = h.0
lies_from size from place (suc number) (cut ∷ cuts) rise h =
    omega (arith, rise.0, lies_from size cut place number cuts rise.1 h)

-- and in one alone
pub one_part : (size from place a b : ℕ) (cuts : List ℕ) → RiseUpTo size from cuts → LiesInPart size from cuts place a
    → LiesInPart size from cuts place b → a ≡ b
one_part size from place a b [] rise h g = h.0 ∙ sym g.0
one_part size from place zero zero (cut ∷ cuts) rise h g = refl
one_part size from place zero (suc b) (cut ∷ cuts) rise h g = absurd (omega (arith, h.1, lies_from size cut place b cuts rise.1 g))
one_part size from place (suc a) zero (cut ∷ cuts) rise h g = absurd (omega (arith, g.1, lies_from size cut place a cuts rise.1 h))
one_part size from place (suc a) (suc b) (cut ∷ cuts) rise h g = ap suc (one_part size cut place a b cuts rise.1 h g)

-- a record is among those between two places where its position lies there
stands_between : (from to i place : ℕ) (r : List ℕ) (placed : List (ℕ × List ℕ)) → slice_get placed i ≡ Some (place, r) → from ≤ place → place < to
    → (j : ℕ) × (slice_get (records_between from to placed) j ≡ Some r)
stands_between from to i place r [] at low high = absurd (cc)
stands_between from to zero place r (q ∷ placed) at low high =
    let same : q ≡ (place, r) = cc in
    let there : q.0 ≡ place = ap (λ (p : ℕ × List ℕ). p.0) same in (
      0,
      ap (λ (xs : List (List ℕ)). slice_get xs 0) (taken_in from to q placed (inside from to q (omega (arith, there, low)) (omega (arith, there, high))))
          ∙ ap (λ (p : ℕ × List ℕ). Some p.1) same,
    )
stands_between from to (suc i) place r (q ∷ placed) at low high =
    let (j, there) = stands_between from to i place r placed at low high in
    elim (cases_Bool (lies from to q)) [
      | inl taken ↦ (suc j, ap (λ (xs : List (List ℕ)). slice_get xs (suc j)) (taken_in from to q placed taken) ∙ there)
      | inr out ↦ (j, ap (λ (xs : List (List ℕ)). slice_get xs j) (left from to q placed out) ∙ there)
    ]

pub in_its_part : (size from number i place : ℕ) (r : List ℕ) (cuts : List ℕ) (placed : List (ℕ × List ℕ)) → slice_get placed i ≡ Some (place, r)
    → LiesInPart size from cuts place number
    → (part : List (List ℕ)) × (slice_get (ranges_from size from cuts placed) number ≡ Some part) × ((j : ℕ) × (slice_get part j ≡ Some r))
in_its_part size from number i place r [] placed at h = (
  records_between from size placed,
  ap (λ (n : ℕ). slice_get (records_between from size placed ∷ []) n) h.0,
  stands_between from size i place r placed at h.1 h.2,
)
in_its_part size from zero i place r (cut ∷ cuts) placed at h =
    (records_between from cut placed, refl, stands_between from cut i place r placed at h.0 h.1)
in_its_part size from (suc number) i place r (cut ∷ cuts) placed at h = in_its_part size cut number i place r cuts placed at h
