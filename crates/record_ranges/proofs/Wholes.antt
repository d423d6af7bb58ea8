-- Parts of a file that meet make up the file, and each has its records.
use Rattle.std.proofs.Common.{◌≡◌, ◌≢◌, ◌∙◌, ℕ, ◌+◌, ◌-◌, ◌<◌, ◌≤◌, List, [], ◌∷◌, ◌++◌, length, map, take, drop, refl, sym, ap, subst, inl, inr, arith}
use Rattle.std.specs.List.{AllByRecursion, AllZip, enumerate_from}
use Rattle.std.proofs.lemmas.List.{append-nil, take-append-drop, map-append}
use Rattle.chunk_header.specs.Chunks.{ChunkValue}
use Rattle.meta_chunk.specs.Laid.{end_of_chunk}
use Rattle.meta_chunk.specs.Files.{IsReadable, AreLaid, BeginsSigned, HoldEach, end_of_chunks, placed_from}
use Rattle.meta_chunk.proofs.Held.{HoldEach-one}
use Rattle.meta_chunk.proofs.LaidChunks.{end_of_chunk_after}
use Rattle.meta_chunk.proofs.Placed.{ArePlaced-below}
use Rattle.meta_chunk.proofs.Chains.{AreLaid-front_of}
use Rattle.meta_chunk.proofs.Begins.{IsLaid-in_file}
use Rattle.chunk_reader.specs.Faults.{BeginsWithSignature}
use Rattle.chunk_reader.proofs.LaidAt.{chunk_at-laid}
use Rattle.chunk_reader.proofs.SignedFiles.{chunk_at-signature, signed_length}
use Rattle.record_ranges.specs.declared.stretches.Span.{Span}
use Rattle.record_ranges.specs.declared.stretches.Stretch.{Stretch}
use Rattle.record_ranges.specs.Ranges.{records_between}
use Rattle.record_ranges.specs.Stretches.{AreChunksBetween, AreJudgedBetween, IsStretchOf, AreReadOf, MeetUpTo}
use Rattle.record_ranges.proofs.Between.{position, between-append, between-before, between-past}
use Rattle.record_ranges.proofs.Runs.{each-append, run-append, run-none, placed-append}

-- chunks of a file and others behind them hold lists that come apart
held_apart : (ks ls : List ChunkValue) (z : List (List (List ℕ))) → HoldEach (ks ++ ls) z
    → (x y : List (List (List ℕ))) × (z ≡ x ++ y) × HoldEach ks x × HoldEach ls y
held_apart [] ls z h = ([], z, refl, refl, h)
held_apart (k ∷ ks) ls [] h = elim h [ ]
held_apart (k ∷ ks) ls (records ∷ z) h =
    let (x, y, cut, front, back) = held_apart ks ls z h.1 in
    (records ∷ x, y, ap (λ (w : List (List (List ℕ))). records ∷ w) cut, (h.0, front), back)

-- records of chunks from a place on have no lesser positions
all_from : (low place : ℕ) (records : List (List ℕ)) → low ≤ place → AllByRecursion (λ x. low ≤ x) (map position (enumerate_from place records))
all_from low place [] less = tt
all_from low place (r ∷ records) less = (less, all_from low (place + 1) records (omega (arith, less)))

from_there : (low place : ℕ) (ks : List ChunkValue) (lists : List (List (List ℕ))) → low ≤ place
    → AllByRecursion (λ x. low ≤ x) (map position (placed_from place ks lists))
from_there low place [] lists less = tt
from_there low place (k ∷ ks) [] less = tt
from_there low place (k ∷ ks) (records ∷ lists) less =
    subst (AllByRecursion (λ x. low ≤ x)) (sym (map-append position (enumerate_from place records) (placed_from (end_of_chunk place k) ks lists)))
    (each-append (λ x. low ≤ x) (map position (enumerate_from place records)) (map position (placed_from (end_of_chunk place k) ks lists))
    (all_from low place records less)
    (from_there low (end_of_chunk place k) ks lists (omega (arith, less, end_of_chunk_after place k))))

weaker : (a b : ℕ) (xs : List ℕ) → a ≤ b → AllByRecursion (λ x. x < a) xs → AllByRecursion (λ x. x < b) xs
weaker a b [] less h = tt
weaker a b (x ∷ xs) less h = (omega (arith, less, h.0), weaker a b xs less h.1)

-- at the front of a file, up to a place
from_front : (file : List ℕ) (place : ℕ) (ks : List ChunkValue) (x : List (List (List ℕ))) → AreChunksBetween file 0 place ks x → AreLaid 0 ks (take place file)
from_front file place ks x h =
    let same : place - 0 ≡ place = omega arith in
    subst (λ (n : ℕ). AreLaid 0 ks (take n file)) same h.laid

-- what lies in a part of all records of a file's chunks lies there of those of a stretch of them
module _ {K : Type 0} (kept_as : List (List ℕ) → K) (file : List ℕ) (all : List ChunkValue) (lists : List (List (List ℕ))) (whole : AreChunksBetween file 0 (length file) all lists) where
  pub part_of : (span : Span) (s : Stretch K) → AreJudgedBetween file 0 s.begin → IsStretchOf kept_as file span s
      → s.kept ≡ kept_as (records_between span.from span.to (placed_from 0 all lists))
  part_of span s (ks, x, front) h =
      let ls : List ChunkValue = h.judged.chunks in
      let y : List (List (List ℕ)) = h.judged.lists in
      let up_to = run-append file 0 s.begin s.end ks ls x y front h.judged.to_end in
      let n : ℕ = length (ks ++ ls) in
      let more : List ChunkValue = drop n all in
      let begins : ks ++ ls ≡ take n all =
      AreLaid-front_of (ks ++ ls) all file s.end (length file) (omega arith) h.within (from_front file s.end (ks ++ ls) (x ++ y) up_to)
      (from_front file (length file) all lists whole) in
      let cut : (ks ++ ls) ++ more ≡ all = ap (λ (zs : List ChunkValue). zs ++ more) begins ∙ take-append-drop n all in
      let (v, w, apart, held, held_behind) = held_apart (ks ++ ls) more lists (subst (λ (zs : List ChunkValue). HoldEach zs lists) (sym cut) whole.held) in
      let same : v ≡ x ++ y = HoldEach-one (ks ++ ls) v (x ++ y) held up_to.held in
      let split : placed_from 0 all lists ≡ (placed_from 0 ks x ++ placed_from s.begin ls y) ++ placed_from s.end more w =
      ap (λ (zs : List ChunkValue). placed_from 0 zs lists) (sym cut)
      ∙ ap (placed_from 0 ((ks ++ ls) ++ more)) (apart ∙ ap (λ (zs : List (List (List ℕ))). zs ++ w) same)
      ∙ placed-append 0 (ks ++ ls) more (x ++ y) w up_to.held
      ∙ ap (λ (ps : List (ℕ × List ℕ)). ps ++ placed_from (end_of_chunks 0 (ks ++ ls)) more w)
      (placed-append 0 ks ls x y front.held ∙ ap (λ (p : ℕ). placed_from 0 ks x ++ placed_from p ls y) front.end)
      ∙ ap (λ (p : ℕ). (placed_from 0 ks x ++ placed_from s.begin ls y) ++ placed_from p more w) up_to.end in
      let before : records_between span.from span.to (placed_from 0 ks x) ≡ [] =
      between-before span.from span.to (placed_from 0 ks x)
      (weaker s.begin span.from (map position (placed_from 0 ks x)) h.before
      (subst (λ (p : ℕ). AllByRecursion (λ q. q < p) (map position (placed_from 0 ks x))) front.end (ArePlaced-below ks (placed_from 0 ks x) (x, front.held, refl)))) in
      let behind : records_between span.from span.to (placed_from s.end more w) ≡ [] =
      between-past span.from span.to (placed_from s.end more w) (from_there span.to s.end more w h.past) in
      let B : List (ℕ × List ℕ) → List (List ℕ) = records_between span.from span.to in
      h.judged.kept
      ∙ ap kept_as (sym (append-nil (B (placed_from s.begin ls y)))
      ∙ ap (λ (xs : List (List ℕ)). B (placed_from s.begin ls y) ++ xs) (sym behind)
      ∙ ap (λ (xs : List (List ℕ)). (xs ++ B (placed_from s.begin ls y)) ++ B (placed_from s.end more w)) (sym before)
      ∙ ap (λ (xs : List (List ℕ)). xs ++ B (placed_from s.end more w)) (sym (between-append span.from span.to (placed_from 0 ks x) (placed_from s.begin ls y)))
      ∙ sym (between-append span.from span.to (placed_from 0 ks x ++ placed_from s.begin ls y) (placed_from s.end more w))
      ∙ ap B (sym split))

-- where parts meet, chunks lead from the front of the file to the begin of each, and to the end
abbrev AreReached : {K : Type 0} → (List (List ℕ) → K) → List ℕ → List Span → List (Stretch K) → Type 0
AreReached kept_as file spans parts = AllZip (λ span s. AreJudgedBetween file 0 s.begin × IsStretchOf kept_as file span s) spans parts

joins : (file : List ℕ) (a b c : ℕ) → AreJudgedBetween file a b → AreJudgedBetween file b c → AreJudgedBetween file a c
joins file a b c (ks, x, h) (ls, y, g) = (ks ++ ls, x ++ y, run-append file a b c ks ls x y h g)

reached : {K : Type 0} (kept_as : List (List ℕ) → K) (file : List ℕ) (size last end : ℕ) (spans : List Span) (parts : List (Stretch K)) → AllZip (IsStretchOf kept_as file) spans parts
    → MeetUpTo size last end parts → AreJudgedBetween file 0 last → AreJudgedBetween file 0 end
    → AreReached kept_as file spans parts × AreJudgedBetween file 0 size
reached kept_as file size last end [] [] h meet to_last to_end = (tt, subst (AreJudgedBetween file 0) meet to_end)
reached kept_as file size last end [] (s ∷ parts) h meet to_last to_end = absurd h
reached kept_as file size last end (span ∷ spans) [] h meet to_last to_end = absurd h
reached kept_as file size last end (span ∷ spans) (s ∷ parts) h meet to_last to_end =
    let to_begin : AreJudgedBetween file 0 s.begin = elim meet.0 [
      | inl is ↦ subst (AreJudgedBetween file 0) (sym is) to_last
      | inr is ↦ subst (AreJudgedBetween file 0) (sym is) to_end
    ] in
    let judged = h.0.judged in
    let rest = reached kept_as file size s.last s.end spans parts h.1 meet.1 (joins file 0 s.begin s.last to_begin judged.to_last)
    (joins file 0 s.begin s.end to_begin (judged.chunks, judged.lists, judged.to_end)) in
    (((to_begin, h.0), rest.0), rest.1)

-- so each has its records of all
each_part : {K : Type 0} (kept_as : List (List ℕ) → K) (file : List ℕ) (all : List ChunkValue) (lists : List (List (List ℕ))) (spans : List Span) (parts : List (Stretch K))
    → AreChunksBetween file 0 (length file) all lists → AreReached kept_as file spans parts
    → AllZip (λ span s. s.kept ≡ kept_as (records_between span.from span.to (placed_from 0 all lists))) spans parts
each_part kept_as file all lists [] [] whole h = tt
each_part kept_as file all lists [] (s ∷ parts) whole h = absurd h
each_part kept_as file all lists (span ∷ spans) [] whole h = absurd h
each_part kept_as file all lists (span ∷ spans) (s ∷ parts) whole h =
    (part_of kept_as file all lists whole span s h.0.0 h.0.1, each_part kept_as file all lists spans parts whole h.1)

-- chunks of a file that begins as files do begin with the signature
signed : (file : List ℕ) (all : List ChunkValue) → BeginsWithSignature file → AreLaid 0 all (take (length file) file) → BeginsSigned all
signed file [] begins laid = tt
signed file (k ∷ all) begins laid =
    sym (chunk_at-laid 0 k file (end_of_chunk 0 k) (IsLaid-in_file (k ∷ all) file (length file) 0 k (omega arith) laid refl))
    ∙ chunk_at-signature file begins

some_chunks : (file : List ℕ) (all : List ChunkValue) → BeginsWithSignature file → end_of_chunks 0 all ≡ length file → all ≢ []
some_chunks file all begins end = λ none. omega (arith, signed_length file begins, end, ap (end_of_chunks 0) none)

whole_file : (file : List ℕ) (all : List ChunkValue) (lists : List (List (List ℕ))) → BeginsWithSignature file
    → AreChunksBetween file 0 (length file) all lists → IsReadable all file
whole_file file all lists begins h =
    let laid = from_front file (length file) all lists h in (
      some_chunks file all begins h.end,
      record { signed = signed file all begins laid; each = h.each; within = omega arith; laid = laid },
    )

-- parts that meet from the front of a file, which begins as files do, to its end
pub parts_meet : {K : Type 0} (kept_as : List (List ℕ) → K) (file : List ℕ) (size : ℕ) (spans : List Span) (parts : List (Stretch K)) → size ≡ length file → BeginsWithSignature file
    → AllZip (IsStretchOf kept_as file) spans parts → MeetUpTo size 0 0 parts → AreReadOf kept_as file size spans parts
parts_meet kept_as file size spans parts is begins h meet =
    let none : AreJudgedBetween file 0 0 = ([], [], run-none file 0) in
    let all = reached kept_as file size 0 0 spans parts h meet none none in
    let (ks, lists, run) = subst (AreJudgedBetween file 0) is all.1 in
    record {
      chunks = ks;
      placed = placed_from 0 ks lists;
      is_file = whole_file file ks lists begins run;
      are_placed = (lists, run.held, refl);
      sized = is;
      each = each_part kept_as file ks lists spans parts run all.0;
    }
