-- The lines of files, as they are made.
use Rattle.std.proofs.Common.{◌≡◌, ◌∙◌, ℕ, zero, suc, ◌+◌, ◌-◌, ◌<◌, ◌≤◌, Some, List, [], ◌∷◌, ◌++◌, length, get_or, take, sym, ap, subst, inl, inr, arith}
use Rattle.std.specs.Prelude.{slice_get, slice_index}
use Rattle.std.specs.List.{AllByRecursion, enumerate_from, flat_map, range_with_len}
use Rattle.std.proofs.lemmas.Bool.{cases_eq}
use Rattle.std.proofs.lemmas.List.{append_assoc, append-nil, take_more}
use Rattle.std.proofs.lemmas.List.Concat.{flat_map-append}
use Rattle.std.proofs.lemmas.List.FromFn.{get_or-enumerate_from, length-enumerate_from}
use Rattle.std.proofs.lemmas.Option.{get_or_from_slice_get, slice_get_within}
use Rattle.record_collect.specs.declared.span.Span.{Span}
use Rattle.record_collect.specs.Batches.{numbers_in, numbers_in_span}
use Rattle.record_collect.proofs.InTurn.{range_next}
use Rattle.number_shares.proofs.Lists.{all_back, all_front}
use Rattle.join_command.specs.CollectCommand.{file_lines, place_line}

-- the line of a file's record, by its number among all
abbrev pub line_of : ℕ → List ℕ → ℕ → List ℕ
line_of file places number = place_line file (slice_index places number)

-- what stands behind lines, with one line more
lines-push : {X : Type 0} (f : X → List ℕ) (xs : List X) (x : X) → flat_map f (xs ++ x ∷ []) ≡ flat_map f xs ++ f x
lines-push f xs x = flat_map-append f xs (x ∷ []) ∙ ap (λ (l : List ℕ). flat_map f xs ++ l) (append-nil (f x))

-- one record more
pub place-next : (file first i place : ℕ) (places before text next : List ℕ) → first ≤ i → slice_get places i ≡ Some place
    → text ≡ before ++ file_lines places (file, range_with_len first (i - first)) → next ≡ text ++ place_line file place
    → next ≡ before ++ file_lines places (file, range_with_len first (i + 1 - first))
place-next file first i place places before text next from there so_far is =
    let lines : List ℕ = file_lines places (file, range_with_len first (i - first)) in
    is
    ∙ ap (λ (t : List ℕ). t ++ place_line file place) so_far
    ∙ append_assoc before lines (place_line file place)
    ∙ ap (λ (p : ℕ). before ++ (lines ++ place_line file p)) (sym (get_or_from_slice_get places i place 0 there))
    ∙ ap (λ (t : List ℕ). before ++ t) (sym (lines-push (line_of file places) (range_with_len first (i - first)) i))
    ∙ ap (λ (ns : List ℕ). before ++ file_lines places (file, ns)) (sym (range_next first i from))

-- one file more
pub file-next : (places text next : List ℕ) (lists : List (List ℕ)) (i : ℕ) (numbers : List ℕ) → slice_get lists i ≡ Some numbers
    → text ≡ flat_map (file_lines places) (take i (enumerate_from 0 lists)) → next ≡ text ++ file_lines places (i, numbers)
    → next ≡ flat_map (file_lines places) (take (i + 1) (enumerate_from 0 lists))
file-next places text next lists i numbers there so_far is =
    let all : List (ℕ × List ℕ) = enumerate_from 0 lists in
    let within : i < length lists = slice_get_within lists i numbers there in
    let from_none : 0 + i ≡ i = omega arith in
    let numbered : get_or all i (i, numbers) ≡ (i, numbers) =
    get_or-enumerate_from 0 lists i (i, numbers) within
    ∙ ap (λ (n : ℕ). (n, get_or lists i numbers)) from_none
    ∙ ap (λ (ns : List ℕ). (i, ns)) (get_or_from_slice_get lists i numbers numbers there) in
    is
    ∙ ap (λ (t : List ℕ). t ++ file_lines places (i, numbers)) so_far
    ∙ sym (lines-push (file_lines places) (take i all) (i, numbers))
    ∙ ap (λ (p : ℕ × List ℕ). flat_map (file_lines places) (take i all ++ p ∷ [])) (sym numbered)
    ∙ ap (flat_map (file_lines places)) (sym (take_more all i (i, numbers) (omega (arith, within, length-enumerate_from 0 lists))))

-- a number of a range is below what all are below
pub in_range : (first count i most : ℕ) → first ≤ i → i < first + count → AllByRecursion (λ n. n < most) (range_with_len first count) → i < most
in_range first zero i most from to all = absurd (omega arith)
in_range first (suc count) i most from to all = elim (cases_eq first i) [
  | inl same ↦ subst (λ (n : ℕ). n < most) same all.0
  | inr other ↦ in_range (first + 1) count i most (omega arith) (omega arith) all.1
]

-- what holds of all numbers of spans holds of those of one
pub within_span : (P : ℕ → Type 0) (spans : List Span) (i : ℕ) (span : Span) → slice_get spans i ≡ Some span → AllByRecursion P (numbers_in spans) → AllByRecursion P (numbers_in_span span)
within_span P [] i span there all = absurd cc
within_span P (s ∷ spans) zero span there all =
    let same : s ≡ span = cc in
    subst (λ (t : Span). AllByRecursion P (numbers_in_span t)) same (all_front P (numbers_in_span s) (numbers_in spans) all)
within_span P (s ∷ spans) (suc i) span there all = within_span P spans i span there (all_back P (numbers_in_span s) (numbers_in spans) all)

-- one span more
pub span-next : (file : ℕ) (places before text next : List ℕ) (spans : List Span) (i : ℕ) (span : Span) → slice_get spans i ≡ Some span
    → text ≡ before ++ file_lines places (file, numbers_in (take i spans)) → next ≡ text ++ file_lines places (file, numbers_in_span span)
    → next ≡ before ++ file_lines places (file, numbers_in (take (i + 1) spans))
span-next file places before text next spans i span there so_far is =
    let lines : List ℕ = file_lines places (file, numbers_in (take i spans)) in
    let more : List ℕ = file_lines places (file, numbers_in_span span) in
    let numbers : numbers_in (take (i + 1) spans) ≡ numbers_in (take i spans) ++ numbers_in_span span =
    ap numbers_in (take_more spans i span (slice_get_within spans i span there) ∙ ap (λ (s : Span). take i spans ++ s ∷ []) (get_or_from_slice_get spans i span span there))
    ∙ flat_map-append numbers_in_span (take i spans) (span ∷ [])
    ∙ ap (λ (ns : List ℕ). numbers_in (take i spans) ++ ns) (append-nil (numbers_in_span span)) in
    is
    ∙ ap (λ (t : List ℕ). t ++ more) so_far
    ∙ append_assoc before lines more
    ∙ ap (λ (t : List ℕ). before ++ t) (sym (flat_map-append (line_of file places) (numbers_in (take i spans)) (numbers_in_span span)))
    ∙ ap (λ (ns : List ℕ). before ++ file_lines places (file, ns)) (sym numbers)
