-- What is answered of a file, by the parts between its cuts.
use Rattle.std.proofs.Common.{◌≡◌, ◌∙◌, ◌⊎◌, ℕ, suc, ◌+◌, ◌<◌, ◌≤◌, false, Option, Result, Some, None, Ok, Err, IfOk, IfSome, List, [], ◌∷◌, ◌++◌, Vec, Global, All, length, map, take, get_or, refl, sym, ap, subst, inl, inr, arith}
use Rattle.std.specs.List.{AllByRecursion, AllZip}
use Rattle.std.proofs.lemmas.List.{map-id, take_more}
use Rattle.std.proofs.lemmas.List.Elements.{All-from_recursion}
use Rattle.chunk_reader.specs.Faults.{BeginsWithSignature, IsFault}
use Rattle.chunk_reader.specs.declared.reasons.Fault.{Fault}
use Rattle.chunk_reader.specs.declared.reasons.ReadEnd.{ReadEnd}
use Rattle.chunk_reader.specs.declared.reasons.ReadEnd.TheVariants as read
use Rattle.chunk_reader.proofs.FileFaults.{fault_is_one, fault_or_none}
use Rattle.chunk_reader.proofs.Rooms.{IsSized}
use Rattle.record_ranges.specs.declared.stretches.Span.{Span}
use Rattle.record_ranges.specs.declared.stretches.Stretch.{Stretch}
use Rattle.record_ranges.specs.Ranges.{RiseUpTo, records_between, ranges_from, AreRangesOf}
use Rattle.record_ranges.specs.Reads.{AreReadIn, IfAllTellSame}
use Rattle.record_ranges.specs.Stretches.{IsReadFromFront, AreRangesIn, AreReadOf, LiesWithin, MeetUpTo, spans_from}
use Rattle.record_ranges.proofs.Fronts.{parts_read}
use Rattle.record_ranges.proofs.Threads.{given_in}
use Rattle.record_ranges.proofs.Wholes.{parts_meet}

-- there is one part more than cuts
pub spans-length : (size from : ℕ) (cuts : List ℕ) → length (spans_from size from cuts) ≡ length cuts + 1
spans-length size from [] = refl
spans-length size from (cut ∷ cuts) = ap suc (spans-length size cut cuts) ∙ omega arith

rise_size : (size from : ℕ) (cuts : List ℕ) → RiseUpTo size from cuts → from ≤ size
rise_size size from [] h = h
rise_size size from (cut ∷ cuts) h = omega (arith, h.0, rise_size size cut cuts h.1)

each_within : (size from : ℕ) (cuts : List ℕ) → RiseUpTo size from cuts → AllByRecursion (λ span. LiesWithin size span) (spans_from size from cuts)
each_within size from [] h = ((h, omega arith), tt)
each_within size from (cut ∷ cuts) h = ((h.0, rise_size size cut cuts h.1), each_within size cut cuts h.1)

-- and each lies in the file
pub spans-within : (size from : ℕ) (cuts : List ℕ) (spans : List Span) → spans ≡ spans_from size from cuts → RiseUpTo size from cuts
    → All (λ span. LiesWithin size span) spans
spans-within size from cuts spans is h =
    subst (λ (ps : List Span). All (λ span. LiesWithin size span) ps) (sym is)
    (All-from_recursion (λ (span : Span). LiesWithin size span) (spans_from size from cuts) (each_within size from cuts h))

-- parts that keep the records between their places keep the parts of the file
parts_are : {K : Type 0} (kept_as : List (List ℕ) → K) (size from : ℕ) (cuts : List ℕ) (placed : List (ℕ × List ℕ)) (parts : List (Stretch K))
    → AllZip (λ span s. s.kept ≡ kept_as (records_between span.from span.to placed)) (spans_from size from cuts) parts
    → map (λ s. s.kept) parts ≡ map kept_as (ranges_from size from cuts placed)
parts_are kept_as size from [] placed [] h = absurd h
parts_are {K} kept_as size from [] placed (s ∷ []) h = ap (λ (r : K). r ∷ []) h.0
parts_are kept_as size from [] placed (s ∷ t ∷ parts) h = absurd h.1
parts_are kept_as size from (cut ∷ cuts) placed [] h = absurd h
parts_are {K} kept_as size from (cut ∷ cuts) placed (s ∷ parts) h =
    ap (λ (r : K). r ∷ map (λ (t : Stretch K). t.kept) parts) h.0
    ∙ ap (λ (rs : List K). kept_as (records_between from cut placed) ∷ rs) (parts_are kept_as size cut cuts placed parts h.1)

pub ranges-read : {K : Type 0} (kept_as : List (List ℕ) → K) (file cuts : List ℕ) (size : ℕ) (spans : List Span) (parts : List (Stretch K)) → spans ≡ spans_from size 0 cuts
    → AreReadOf kept_as file size spans parts → AreRangesIn kept_as file cuts parts
ranges-read {K} kept_as file cuts size spans parts is h = record {
  ranges = ranges_from (length file) 0 cuts h.placed;
  are = record { chunks = h.chunks; placed = h.placed; is_file = h.is_file; are_placed = h.are_placed; are_ranges = refl };
  kept =
      parts_are kept_as size 0 cuts h.placed parts
      (subst (λ (ps : List Span). AllZip (λ (span : Span) (s : Stretch K). s.kept ≡ kept_as (records_between span.from span.to h.placed)) ps parts) is h.each)
      ∙ ap (λ (n : ℕ). map kept_as (ranges_from n 0 cuts h.placed)) h.sized;
}

-- where records are kept as they are, these are the parts
pub ranges-bare : (file cuts : List ℕ) (parts : List (Stretch (List (List ℕ)))) → AreRangesIn (λ records. records) file cuts parts
    → AreRangesOf file cuts (map (λ s. s.kept) parts)
ranges-bare file cuts parts h = subst (AreRangesOf file cuts) (sym (h.kept ∙ map-id h.ranges)) h.are

-- lists one longer
zip_push : {A B : Type 0} (R : A → B → Type 0) (xs : List A) (ys : List B) (x : A) (y : B) → AllZip R xs ys → R x y → AllZip R (xs ++ x ∷ []) (ys ++ y ∷ [])
zip_push R [] [] x y h r = (r, tt)
zip_push R [] (b ∷ ys) x y h r = absurd h
zip_push R (a ∷ xs) [] x y h r = absurd h
zip_push R (a ∷ xs) (b ∷ ys) x y h r = (h.0, zip_push R xs ys x y h.1 r)

-- one part more is read from the front
pub parts-more : {K : Type 0} (kept_as : List (List ℕ) → K) (bytes now : Option (List ℕ)) (spans : List Span) (i : ℕ) (span : Span) (old new : List (Stretch K)) (part : Stretch K) → now ≡ bytes
    → i < length spans → span ≡ get_or spans i span → new ≡ old ++ part ∷ []
    → IfSome bytes (λ file. AllZip (IsReadFromFront kept_as file) (take i spans) old) → IfSome now (λ file. IsReadFromFront kept_as file span part)
    → IfSome bytes (λ file. AllZip (IsReadFromFront kept_as file) (take (i + 1) spans) new)
parts-more kept_as None now spans i span old new part same below there is h g = tt
parts-more kept_as (Some file) now spans i span old new part same below there is h g =
    let here : IsReadFromFront kept_as file span part = subst (λ (b : Option (List ℕ)). IfSome b (λ f. IsReadFromFront kept_as f span part)) same g in
    let next : take (i + 1) spans ≡ take i spans ++ span ∷ [] =
    take_more spans i span below ∙ ap (λ (p : Span). take i spans ++ p ∷ []) (sym there) in
    subst (λ (ps : List Span). AllZip (IsReadFromFront kept_as file) ps new) (sym next)
    (subst (AllZip (IsReadFromFront kept_as file) (take i spans ++ span ∷ [])) (sym is) (zip_push (IsReadFromFront kept_as file) (take i spans) old span part h here))

-- what threads read, where it meets and the file begins as files do
pub read-by_threads : {K : Type 0} (kept_as : List (List ℕ) → K) (bytes : Option (List ℕ)) (size : ℕ) (spans : List Span) (answers : List (Result (Stretch K) ReadEnd)) (parts : List (Stretch K))
    → IsSized bytes (Some size) → IfSome bytes BeginsWithSignature → answers ≡ map (λ s. Ok s) parts → MeetUpTo size 0 0 parts
    → IfSome bytes (λ file. AreReadIn kept_as file spans answers → AreReadOf kept_as file size spans parts)
read-by_threads kept_as None size spans answers parts sized begins is meet = tt
read-by_threads kept_as (Some file) size spans answers parts sized begins is meet =
    λ given.
    let each = given_in kept_as file spans parts (subst (AreReadIn kept_as file spans) is given) in
    parts_meet kept_as file size spans parts sized begins each meet

-- and what one does
pub read-by_one : {K : Type 0} (kept_as : List (List ℕ) → K) (bytes : Option (List ℕ)) (size : ℕ) (spans : List Span) (answers : List (Result (Stretch K) ReadEnd))
    (result : Result (Vec (Stretch K) Global) ReadEnd) → IsSized bytes (Some size) → 0 < length spans
    → IfOk result (λ parts. IfSome bytes (λ file. AllZip (IsReadFromFront kept_as file) spans parts.items))
    → IfOk result (λ parts. IfSome bytes (λ file. AreReadIn kept_as file spans answers → AreReadOf kept_as file size spans parts.items))
read-by_one kept_as bytes size spans answers (Err end) sized some h = tt
read-by_one kept_as None size spans answers (Ok parts) sized some h = tt
read-by_one kept_as (Some file) size spans answers (Ok parts) sized some h = λ given. parts_read kept_as file size spans parts.items sized some h

-- so the fault of a file is told, or that a store or memory failed
pub fault-told : {S : Type 0} (bytes : S → Option (List ℕ)) (stores : List S) (cuts : List ℕ) (result : Result (List (List (List ℕ))) ReadEnd)
    → IfOk result (λ parts. IfAllTellSame bytes stores (λ file. AreRangesOf file cuts parts))
    → ((fault : Fault) → result ≡ Err (read.Refused fault) → IfAllTellSame bytes stores (λ file. IsFault false file fault))
    → IfAllTellSame bytes stores (λ file. (fault : Fault) → IsFault false file fault
    → (result ≡ Err (read.Refused fault)) ⊎ (result ≡ Err read.Store) ⊎ (result ≡ Err read.Memory))
fault-told bytes stores cuts (Ok parts) ok refused file same fault is =
    let h = ok file same in
    absurd (fault_or_none false file fault is (h.chunks, h.is_file))
fault-told bytes stores cuts (Err (read.Refused other)) ok refused file same fault is =
    inl (ap (λ (f : Fault). Err (read.Refused f)) (fault_is_one false file other fault (refused other refl file same) is))
fault-told bytes stores cuts (Err read.Store) ok refused file same fault is = inr (inl refl)
fault-told bytes stores cuts (Err read.Memory) ok refused file same fault is = inr (inr refl)

-- what holds of the bytes that a store shows
pub of-told : (bytes : Option (List ℕ)) (file : List ℕ) (P : List ℕ → Type 0) → bytes ≡ Some file → IfSome bytes P → P file
of-told bytes file P is h = subst (λ (b : Option (List ℕ)). IfSome b P) is h

-- so are the parts of the file that all stores show
pub ranges-answered : {S K : Type 0} (kept_as : List (List ℕ) → K) (bytes : S → Option (List ℕ)) (stores : List S) (cuts : List ℕ) (size : ℕ) (spans : List Span)
    (answers : List (Result (Stretch K) ReadEnd)) (now : Option (List ℕ)) (result : Result (Vec (Stretch K) Global) ReadEnd) → spans ≡ spans_from size 0 cuts
    → IfAllTellSame bytes stores (λ file. now ≡ Some file) → IfAllTellSame bytes stores (λ file. AreReadIn kept_as file spans answers)
    → IfOk result (λ parts. IfSome now (λ file. AreReadIn kept_as file spans answers → AreReadOf kept_as file size spans parts.items))
    → IfOk result (λ parts. IfAllTellSame bytes stores (λ file. AreRangesIn kept_as file cuts parts.items))
ranges-answered kept_as bytes stores cuts size spans answers now (Err end) is shown given h = tt
ranges-answered kept_as bytes stores cuts size spans answers now (Ok parts) is shown given h =
    λ file same.
    ranges-read kept_as file cuts size spans parts.items is
    (of-told now file (λ f. AreReadIn kept_as f spans answers → AreReadOf kept_as f size spans parts.items) (shown file same) h (given file same))
