-- Runs of a list.
use Rattle.std.proofs.Common.{◌≡◌, ◌∙◌, ℕ, zero, suc, ◌+◌, ◌-◌, ◌*◌, ◌<◌, ◌≤◌, min, List, [], ◌∷◌, ◌++◌, length, take, drop, get_or, Some, refl, sym, ap, subst, arith}
use Rattle.std.specs.Prelude.{slice_get}
use Rattle.std.specs.List.{flat_map, range_with_len}
use Rattle.std.proofs.lemmas.Nat.{row_fits, div-add-mod', mod_below}
use Rattle.std.proofs.lemmas.List.{append_assoc, drop_all, drop-drop, take-append-drop, take_more, get_or-drop, get_or-take, length-drop, length-take}
use Rattle.std.proofs.lemmas.Option.{none-some, get_or_from_slice_get, slice_get_read, slice_get_within}
use Rattle.chunk_workers.specs.Runs.{run_count, run_of}

-- a run begins within the list
pub run_within : (step n number : ℕ) → 1 ≤ step → number < run_count step n → number * step < n
run_within step n number some few =
    omega (arith, row_fits number step (run_count step n) step few (omega arith), div-add-mod' (n + (step - 1)) step)

-- the runs reach the end
pub runs_reach : (step n : ℕ) → 1 ≤ step → n ≤ run_count step n * step
runs_reach step n some =
    omega (arith, div-add-mod' (n + (step - 1)) step, mod_below (n + (step - 1)) step (omega arith))

-- one more of a run
pub run-more : {X : Type 0} (front xs : List X) (begin i : ℕ) (x : X) → begin ≤ i → slice_get xs i ≡ Some x
    → (front ++ take (i - begin) (drop begin xs)) ++ x ∷ [] ≡ front ++ take (i + 1 - begin) (drop begin xs)
run-more front xs begin i x order is =
    let n : i + 1 - begin ≡ (i - begin) + 1 = omega arith in
    let place : begin + (i - begin) ≡ i = omega arith in
    let within : i < length xs = slice_get_within xs i x is in
    let here : get_or (drop begin xs) (i - begin) x ≡ x =
    get_or-drop begin xs (i - begin) x ∙ ap (λ k. get_or xs k x) place ∙ get_or_from_slice_get xs i x x is in
    append_assoc front (take (i - begin) (drop begin xs)) (x ∷ [])
    ∙ ap (λ ys. front ++ ys)
    (sym (ap (λ k. take k (drop begin xs)) n
    ∙ take_more (drop begin xs) (i - begin) x (omega (arith, length-drop begin xs))
    ∙ ap (λ y. take (i - begin) (drop begin xs) ++ y ∷ []) here))

-- what is left from a run on is that run, and what is left behind it
pub run-next : {X : Type 0} (step : ℕ) (xs : List X) (number : ℕ) → drop (number * step) xs ≡ run_of step xs number ++ drop ((number + 1) * step) xs
run-next step xs number =
    let next : drop ((number + 1) * step) xs ≡ drop step (drop (number * step) xs) =
    ap (λ k. drop k xs) (omega arith) ∙ sym (drop-drop step (number * step) xs) in
    sym (take-append-drop step (drop (number * step) xs)) ∙ ap (λ ys. run_of step xs number ++ ys) (sym next)

-- the runs from a number on, one after another, are what is left of the list
runs_from : {X : Type 0} (step : ℕ) (xs : List X) (begin count : ℕ) → length xs ≤ (begin + count) * step
    → flat_map (run_of step xs) (range_with_len begin count) ≡ drop (begin * step) xs
runs_from step xs begin zero reach = sym (drop_all (begin * step) xs (subst (λ k. length xs ≤ k * step) (omega arith) reach))
runs_from step xs begin (suc count) reach =
    ap (λ ys. run_of step xs begin ++ ys) (runs_from step xs (begin + 1) count (subst (λ k. length xs ≤ k * step) (omega arith) reach))
    ∙ sym (run-next step xs begin)

-- all runs are the list
pub runs-all : {X : Type 0} (step : ℕ) (xs : List X) → 1 ≤ step → flat_map (run_of step xs) (range_with_len 0 (run_count step (length xs))) ≡ xs
runs-all step xs some =
    let count = run_count step (length xs) in
    let same : count ≡ 0 + count = omega arith in
    let none : 0 * step ≡ 0 = omega arith in
    runs_from step xs 0 count (subst (λ k. length xs ≤ k * step) same (runs_reach step (length xs) some)) ∙ ap (λ k. drop k xs) none

-- how many a run has
pub length-run_of : {X : Type 0} (step : ℕ) (xs : List X) (number : ℕ) → length (run_of step xs number) ≡ min step (length xs - number * step)
length-run_of step xs number =
    length-take step (drop (number * step) xs) ∙ ap (min step) (length-drop (number * step) xs)

-- one of what is left of a list
pub slice_get-drop : {X : Type 0} (xs : List X) (n j : ℕ) (x : X) → slice_get (drop n xs) j ≡ Some x → slice_get xs (n + j) ≡ Some x
slice_get-drop xs n j x is =
    let within : j < length xs - n = omega (arith, slice_get_within (drop n xs) j x is, length-drop n xs) in
    slice_get_read xs (length xs) (n + j) x refl (omega (arith, within)) (sym (get_or_from_slice_get (drop n xs) j x x is) ∙ get_or-drop n xs j x)

-- and of its front
pub slice_get-append : {X : Type 0} (xs ys : List X) (j : ℕ) (x : X) → slice_get xs j ≡ Some x → slice_get (xs ++ ys) j ≡ Some x
slice_get-append [] ys j x is = absurd (none-some x is)
slice_get-append (y ∷ xs) ys zero x is = is
slice_get-append (y ∷ xs) ys (suc j) x is = slice_get-append xs ys j x is

-- one of the list is one of its run
pub run_of-at : {X : Type 0} (step : ℕ) (xs : List X) (number j : ℕ) (x : X) → j < step → slice_get xs (number * step + j) ≡ Some x → slice_get (run_of step xs number) j ≡ Some x
run_of-at step xs number j x few is =
    let run = run_of step xs number in
    let begin = number * step in
    let within : begin + j < length xs = slice_get_within xs (begin + j) x is in
    let here : get_or run j x ≡ x =
    get_or-take step (drop begin xs) j x few ∙ get_or-drop begin xs j x ∙ get_or_from_slice_get xs (begin + j) x x is in
    slice_get_read run (length run) j x refl (omega (arith, few, within, length-run_of step xs number)) (sym here)
