-- Where the chunks of a file begin, by their numbers.
use Rattle.std.proofs.Common.{◌≡◌, ◌∙◌, ℕ, zero, suc, ◌+◌, ◌-◌, ◌<◌, ◌≤◌, List, [], ◌∷◌, ◌++◌, Some, length, take, drop, refl, sym, ap, subst, add-one, inl, inr, arith}
use Rattle.std.proofs.lemmas.Bool.{cases_lt, cases_order}
use Rattle.std.specs.Prelude.{slice_get, slice_range}
use Rattle.std.proofs.lemmas.List.{take_all, take_at, take-take, length-take-le, take-append-drop, take_more, drop_at, drop-take, drop_more}
use Rattle.std.proofs.lemmas.Option.{slice_get_cases, slice_get_within, get_or_from_slice_get}
use Rattle.block_layout.specs.Layout.{IsBoundary, usable_bytes_at}
use Rattle.block_layout.proofs.ChunkEnds.{chunk_end_of_boundary}
use Rattle.chunk_header.specs.Chunks.{ChunkValue, chunk_bytes}
use Rattle.meta_chunk.specs.Laid.{IsLaid, laid, end_of_chunk}
use Rattle.meta_chunk.specs.Files.{AreLaid, begin_of, end_of_chunks, laid_each}
use Rattle.meta_chunk.proofs.LaidChunks.{end_of_chunk_after, end-IsLaid, end-laid}
use Rattle.meta_chunk.proofs.ChunkBytes.{usable_bytes_at-IsLaid}
use Rattle.meta_chunk.proofs.Joins.{end_of_chunks-append, end_of_chunks_past, end-AreLaid, AreLaid-split, laid_each-append, end-laid_each}

-- the chunks before one, that one, and those behind it
parts_at : (ks : List ChunkValue) (j : ℕ) (k : ChunkValue) → slice_get ks j ≡ Some k
    → ks ≡ take j ks ++ k ∷ drop (j + 1) ks
parts_at ks j k at =
    let within : j < length ks = slice_get_within ks j k at in
    sym (take-append-drop j ks)
    ∙ ap (λ (rest : List ChunkValue). take j ks ++ rest) (drop_more ks j k within)
    ∙ ap (λ (x : ChunkValue). take j ks ++ x ∷ drop (j + 1) ks) (get_or_from_slice_get ks j k k at)

-- the chunks up to one
take_at_one : (ks : List ChunkValue) (j : ℕ) (k : ChunkValue) → slice_get ks j ≡ Some k → take (j + 1) ks ≡ take j ks ++ k ∷ []
take_at_one ks j k at =
    take_more ks j k (slice_get_within ks j k at)
    ∙ ap (λ (x : ChunkValue). take j ks ++ x ∷ []) (get_or_from_slice_get ks j k k at)

-- the next chunk begins where one ends
pub begin_of-next : (ks : List ChunkValue) (j : ℕ) (k : ChunkValue) → slice_get ks j ≡ Some k
    → begin_of ks (j + 1) ≡ end_of_chunk (begin_of ks j) k
begin_of-next ks j k at = ap (end_of_chunks 0) (take_at_one ks j k at) ∙ end_of_chunks-append 0 (take j ks) (k ∷ [])

-- past the last chunk it is where that one ends
pub begin_of-past : (ks : List ChunkValue) (j : ℕ) → length ks ≤ j → begin_of ks j ≡ end_of_chunks 0 ks
begin_of-past ks j past = ap (end_of_chunks 0) (take_all j ks past)

-- begins rise
pub begin_of_rises : (ks : List ChunkValue) (i j : ℕ) → i ≤ j → begin_of ks i ≤ begin_of ks j
begin_of_rises ks i j before =
    let front : List ChunkValue = take i (take j ks) in
    let back : List ChunkValue = drop i (take j ks) in
    let parts : begin_of ks j ≡ end_of_chunks (end_of_chunks 0 front) back =
    ap (end_of_chunks 0) (sym (take-append-drop i (take j ks))) ∙ end_of_chunks-append 0 front back in
    omega (arith, parts, ap (end_of_chunks 0) (take-take i j ks before), end_of_chunks_past (end_of_chunks 0 front) back)

-- by 40 bytes or more from chunk to chunk
pub begin_of_rises_by : (ks : List ChunkValue) (j : ℕ) → j < length ks → begin_of ks j + 40 ≤ begin_of ks (j + 1)
begin_of_rises_by ks j within =
    elim (slice_get_cases ks j).1 [
      | inl (k, inside, at, same) ↦ omega (arith, begin_of-next ks j k at, end_of_chunk_after (begin_of ks j) k)
      | inr (past, none) ↦ absurd (omega arith)
    ]

-- the chunk that a place lies in
holder_below : (ks : List ChunkValue) (n place : ℕ) → n ≤ length ks → place < begin_of ks n
    → (j : ℕ) × (k : ChunkValue) × (slice_get ks j ≡ Some k) × (begin_of ks j ≤ place) × (place < begin_of ks (j + 1))
holder_below ks zero place few below = absurd (omega arith)
holder_below ks (suc n) place few below =
    elim (cases_lt place (begin_of ks n)) [
      | inl before ↦ holder_below ks n place (omega arith) before
      | inr behind ↦ elim (slice_get_cases ks n).1 [
        | inl (k, inside, at, same) ↦ (
          n,
          k,
          at,
          behind,
          subst (λ (m : ℕ). place < begin_of ks m) (sym (add-one n)) below,
        )
        | inr (past, none) ↦ absurd (omega arith)
      ]
    ]

pub holder_of : (ks : List ChunkValue) (place : ℕ) → place < begin_of ks (length ks)
    → (j : ℕ) × (k : ChunkValue) × (slice_get ks j ≡ Some k) × (begin_of ks j ≤ place) × (place < begin_of ks (j + 1))
holder_of ks place below = holder_below ks (length ks) place (omega arith) below

-- it is one
pub holder_one : (ks : List ChunkValue) (i j place : ℕ) → begin_of ks i ≤ place → place < begin_of ks (i + 1)
    → begin_of ks j ≤ place → place < begin_of ks (j + 1) → i ≡ j
holder_one ks i j place low high low' high' =
    elim (cases_order i j) [
      | inl same ↦ same
      | inr (inl less) ↦ absurd (omega (arith, begin_of_rises ks (i + 1) j (omega arith)))
      | inr (inr more) ↦ absurd (omega (arith, begin_of_rises ks (j + 1) i (omega arith)))
    ]

-- each begin is a boundary
pub end_of_chunks_boundary : (place : ℕ) (ks : List ChunkValue) → IsBoundary place → IsBoundary (end_of_chunks place ks)
end_of_chunks_boundary place [] boundary = boundary
end_of_chunks_boundary place (k ∷ ks) boundary =
    end_of_chunks_boundary (end_of_chunk place k) ks (chunk_end_of_boundary place (40 + length k.«data») k.num_records)

pub begin_of_boundary : (ks : List ChunkValue) (j : ℕ) → IsBoundary (begin_of ks j)
begin_of_boundary ks j = end_of_chunks_boundary 0 (take j ks) (inl refl)

-- bytes of chunks have each of them from its begin to the next one's
IsLaid-at : (ks : List ChunkValue) (bytes : List ℕ) (j : ℕ) (k : ChunkValue) → AreLaid 0 ks bytes → slice_get ks j ≡ Some k
    → IsLaid (begin_of ks j) k (slice_range bytes (begin_of ks j) (begin_of ks (j + 1)))
IsLaid-at ks bytes j k h at =
    let begin : ℕ = begin_of ks j in
    let from = (AreLaid-split 0 (take j ks) (k ∷ drop (j + 1) ks) bytes
    (subst (λ (xs : List ChunkValue). AreLaid 0 xs bytes) (parts_at ks j k at) h)).1 in
    let size : length from.0 ≡ begin_of ks (j + 1) - begin =
    omega (arith, end-IsLaid begin k from.0 from.3, begin_of-next ks j k at) in
    let same : from.0 ≡ slice_range bytes begin (begin_of ks (j + 1)) =
    let start : begin - 0 ≡ begin = omega arith in
    sym (take_at from.0 from.1 _ size)
    ∙ ap (take (begin_of ks (j + 1) - begin)) (sym from.2 ∙ ap (λ (n : ℕ). drop n bytes) start) in
    subst (λ (xs : List ℕ). IsLaid begin k xs) same from.3

-- chunks laid up to a place of a file end there
pub begin_of-place : (ks : List ChunkValue) (file : List ℕ) (place : ℕ) → place ≤ length file → AreLaid 0 ks (take place file)
    → begin_of ks (length ks) ≡ place
begin_of-place ks file place within h =
    begin_of-past ks (length ks) (omega arith)
    ∙ sym (end-AreLaid 0 ks (take place file) h)
    ∙ omega (arith, length-take-le place file within)

-- and none of them begins past it
pub begin_of-within : (ks : List ChunkValue) (file : List ℕ) (place j : ℕ) → place ≤ length file → AreLaid 0 ks (take place file)
    → begin_of ks j ≤ place
begin_of-within ks file place j within h =
    let end : begin_of ks (length ks) ≡ place = begin_of-place ks file place within h in
    elim (cases_lt j (length ks)) [
      | inl inside ↦ omega (arith, begin_of_rises ks j (length ks) (omega arith))
      | inr past ↦ omega (arith, begin_of-past ks j past, begin_of-past ks (length ks) (omega arith))
    ]

-- a range of the front of a file is that of the file
slice_range-take : (file : List ℕ) (place begin end : ℕ) → end ≤ place
    → slice_range (take place file) begin end ≡ slice_range file begin end
slice_range-take file place begin end within =
    elim (cases_lt begin end) [
      | inl some ↦
          let cut : begin + (place - begin) ≡ place = omega arith in
          ap (λ (n : ℕ). take (end - begin) (drop begin (take n file))) (sym cut)
          ∙ ap (take (end - begin)) (drop-take begin (place - begin) file)
          ∙ take-take (end - begin) (place - begin) (drop begin file) (omega arith)
      | inr none ↦
          let empty : end - begin ≡ 0 = omega arith in
          ap (λ (n : ℕ). take n (drop begin (take place file))) empty ∙ sym (ap (λ (n : ℕ). take n (drop begin file)) empty)
    ]

-- so each of them stands in the file from its begin to the next one's
pub IsLaid-in_file : (ks : List ChunkValue) (file : List ℕ) (place j : ℕ) (k : ChunkValue)
    → place ≤ length file → AreLaid 0 ks (take place file) → slice_get ks j ≡ Some k
    → IsLaid (begin_of ks j) k (slice_range file (begin_of ks j) (begin_of ks (j + 1)))
IsLaid-in_file ks file place j k within h at =
    subst (λ (xs : List ℕ). IsLaid (begin_of ks j) k xs)
    (slice_range-take file place (begin_of ks j) (begin_of ks (j + 1)) (begin_of-within ks file place (j + 1) within h))
    (IsLaid-at ks (take place file) j k h at)

-- and so its bytes are the usable bytes at its begin
pub usable_bytes_at-begin : (ks : List ChunkValue) (file : List ℕ) (place j : ℕ) (k : ChunkValue)
    → place ≤ length file → AreLaid 0 ks (take place file) → slice_get ks j ≡ Some k
    → usable_bytes_at file (begin_of ks j) (40 + length k.«data») ≡ chunk_bytes k
usable_bytes_at-begin ks file place j k within h at =
    usable_bytes_at-IsLaid (begin_of ks j) k file (begin_of ks (j + 1)) (IsLaid-in_file ks file place j k within h at)

-- with zero padding they end where the last of them does
pub end-zero_padding : (ks : List ChunkValue) → length (laid_each 0 ks) ≡ begin_of ks (length ks)
end-zero_padding ks = omega (arith, end-laid_each 0 ks, begin_of-past ks (length ks) (omega arith))

-- and each has the bytes of its laying
pub slice_range-laid_each : (ks : List ChunkValue) (j : ℕ) (k : ChunkValue) → slice_get ks j ≡ Some k
    → slice_range (laid_each 0 ks) (begin_of ks j) (begin_of ks (j + 1)) ≡ laid (begin_of ks j) k
unfolding laid_each
slice_range-laid_each ks j k at =
    let begin : ℕ = begin_of ks j in
    let before : List ℕ = laid_each 0 (take j ks) in
    let behind : List ℕ = laid_each (end_of_chunk begin k) (drop (j + 1) ks) in
    let parts : laid_each 0 ks ≡ before ++ (laid begin k ++ behind) =
    ap (laid_each 0) (parts_at ks j k at) ∙ laid_each-append 0 (take j ks) (k ∷ drop (j + 1) ks) in
    let next : begin_of ks (j + 1) ≡ end_of_chunk begin k = begin_of-next ks j k at in
    ap (λ (xs : List ℕ). slice_range xs begin (begin_of ks (j + 1))) parts
    ∙ ap (take (begin_of ks (j + 1) - begin)) (drop_at before (laid begin k ++ behind) begin (omega (arith, end-laid_each 0 (take j ks))))
    ∙ take_at (laid begin k) behind (begin_of ks (j + 1) - begin) (omega (arith, end-laid begin k, next))
