-- Lemmas on the part of a file that is held.
use Rattle.std.proofs.Common.{◌≡◌, ℕ, ◌+◌, ◌-◌, ◌≤◌, Option, Some, None, IfSome, List, ◌++◌, length, take, drop, slice_range, sym, ap, ◌∙◌, arith}
use Rattle.std.proofs.lemmas.List.{drop-drop, drop-take, take-take, take_at}
use Rattle.record_io.proofs.Readings.{slice_range-by_length}
use Rattle.real_files.specs.AheadStores.{Part, IsPartOf}

-- a run within a run of a file
run-within : (bytes : List ℕ) (from len skip n : ℕ) → skip + n ≤ len → take n (drop skip (take len (drop from bytes))) ≡ take n (drop (from + skip) bytes)
run-within bytes from len skip n fits =
    let left = len - skip in
    let whole : len ≡ skip + left = omega arith in
    ap (λ k. take n (drop skip (take k (drop from bytes)))) whole
    ∙ ap (take n) (drop-take skip left (drop from bytes))
    ∙ take-take n left (drop skip (drop from bytes)) (omega arith)
    ∙ ap (take n) (drop-drop skip from bytes)

-- what stands at a place of a part of a file stands at that place of the file
pub part-gives : (file : Option (List ℕ)) (part : Part) (front : List ℕ) (at n : ℕ) → IsPartOf file part → part.from ≤ at
    → at + n ≤ part.from + length part.bytes → front ≡ slice_range part.bytes (at - part.from) (at - part.from + n)
    → IfSome file (λ bytes. front ≡ slice_range bytes at (at + n))
part-gives None part front at n is after within given = tt
part-gives (Some bytes) part front at n is after within given =
    let skip = at - part.from in
    let len = length part.bytes in
    let place : part.from + skip ≡ at = omega arith in
    given
    ∙ slice_range-by_length part.bytes skip n
    ∙ ap (λ xs. take n (drop skip xs)) (is ∙ slice_range-by_length bytes part.from len)
    ∙ run-within bytes part.from len skip n (omega arith)
    ∙ ap (λ p. take n (drop p bytes)) place
    ∙ sym (slice_range-by_length bytes at n)

-- what is copied from a place of the front of bytes stands at that place of the front
pub copied-from_front : (bytes copied rest : List ℕ) (count skip n : ℕ) → skip ≤ count → length copied ≡ n
    → copied ≡ take n (take (count - skip) (drop skip bytes)) → take n (copied ++ rest) ≡ slice_range (take count bytes) skip (skip + n)
copied-from_front bytes copied rest count skip n within size is =
    let whole : skip + (count - skip) ≡ count = omega arith in
    take_at copied rest n size
    ∙ is
    ∙ ap (take n) (sym (drop-take skip (count - skip) bytes) ∙ ap (λ k. drop skip (take k bytes)) whole)
    ∙ sym (slice_range-by_length (take count bytes) skip n)
