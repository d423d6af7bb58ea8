-- What workers coded of runs, by rising number, stands for all groups, in their order.
use Rattle.std.proofs.Common.{◌≡◌, ◌∙◌, ℕ, zero, suc, ◌+◌, ◌-◌, ◌*◌, ◌<◌, ◌≤◌, min, List, [], ◌∷◌, ◌++◌, All, length, take, drop, map, inl, inr, refl, sym, ap, subst, arith}
use Rattle.std.specs.List.{AllByRecursion, flat_map, range_with_len}
use Rattle.std.proofs.lemmas.Bool.{cond-true, cond-false, cases_eq, eq-eqb, ne_eqb}
use Rattle.std.proofs.lemmas.List.{map-append}
use Rattle.std.proofs.Math.Dec.{eqb}
use Rattle.number_shares.specs.Once.{HasEachBelow, times}
use Rattle.number_shares.proofs.Counting.{one_if-other, times-cons}
use Rattle.number_shares.proofs.Lists.{all_append}
use Rattle.chunk_header.specs.Chunks.{ChunkValue}
use Rattle.chunk_workers.specs.Coded.{AreCoded, CodedValue}
use Rattle.chunk_workers.specs.InOrder.{all_runs, in_order, run_with, runs_in}
use Rattle.chunk_workers.specs.Runs.{RunsValue, groups_of_runs, run_count, run_of}
use Rattle.chunk_workers.proofs.CodedLists.{AreCoded-append, AreCoded-back, AreCoded-front}
use Rattle.chunk_workers.proofs.RunLists.{length-run_of, runs-all}

-- the chunks of a run
abbrev IsRun : (List (List ℕ) → ChunkValue) → ℕ → List (List (List ℕ)) → ℕ × List CodedValue → Type 0
IsRun chunk_of step groups run = AreCoded chunk_of (run_of step groups run.0) run.1

-- the runs in what one worker coded
runs_in-numbers : (step count : ℕ) (numbers : List ℕ) (chunks : List CodedValue) → map (λ (run : ℕ × List CodedValue). run.0) (runs_in step count numbers chunks) ≡ numbers
runs_in-numbers step count [] chunks = refl
runs_in-numbers step count (number ∷ numbers) chunks =
    ap (λ ns. number ∷ ns) (runs_in-numbers step count numbers (drop (min step (count - number * step)) chunks))

runs_in-coded : (chunk_of : List (List ℕ) → ChunkValue) (step : ℕ) (groups : List (List (List ℕ))) (numbers : List ℕ) (chunks : List CodedValue)
    → AreCoded chunk_of (groups_of_runs step groups numbers) chunks → AllByRecursion (IsRun chunk_of step groups) (runs_in step (length groups) numbers chunks)
runs_in-coded chunk_of step groups [] chunks are = tt
runs_in-coded chunk_of step groups (number ∷ numbers) chunks are =
    let run = run_of step groups number in
    let rest = groups_of_runs step groups numbers in
    let many : length run ≡ min step (length groups - number * step) = length-run_of step groups number in (
      subst (λ n. AreCoded chunk_of run (take n chunks)) many (AreCoded-front chunk_of run rest chunks are),
      runs_in-coded chunk_of step groups numbers (drop (min step (length groups - number * step)) chunks)
          (subst (λ n. AreCoded chunk_of rest (drop n chunks)) many (AreCoded-back chunk_of run rest chunks are)),
    )

-- and in what all coded
all_runs-numbers : (step count : ℕ) (workers : List RunsValue) → map (λ (run : ℕ × List CodedValue). run.0) (all_runs step count workers) ≡ flat_map (λ (r : RunsValue). r.numbers) workers
all_runs-numbers step count [] = refl
all_runs-numbers step count (r ∷ workers) =
    map-append (λ (run : ℕ × List CodedValue). run.0) (runs_in step count r.numbers r.chunks) (all_runs step count workers)
    ∙ ap (λ ns. ns ++ map (λ (run : ℕ × List CodedValue). run.0) (all_runs step count workers)) (runs_in-numbers step count r.numbers r.chunks)
    ∙ ap (λ ns. r.numbers ++ ns) (all_runs-numbers step count workers)

all_runs-coded : (chunk_of : List (List ℕ) → ChunkValue) (step : ℕ) (groups : List (List (List ℕ))) (workers : List RunsValue)
    → All (λ (r : RunsValue). AreCoded chunk_of (groups_of_runs step groups r.numbers) r.chunks) workers → AllByRecursion (IsRun chunk_of step groups) (all_runs step (length groups) workers)
all_runs-coded chunk_of step groups [] are = tt
all_runs-coded chunk_of step groups (r ∷ workers) are =
    all_append (IsRun chunk_of step groups) (runs_in step (length groups) r.numbers r.chunks) (all_runs step (length groups) workers)
    (runs_in-coded chunk_of step groups r.numbers r.chunks (are 0 r (omega arith)))
    (all_runs-coded chunk_of step groups workers (λ k d within. are (suc k) d (omega (arith, within))))

-- the run of a number that was drawn
run_with-drawn : (chunk_of : List (List ℕ) → ChunkValue) (step : ℕ) (groups : List (List (List ℕ))) (runs : List (ℕ × List CodedValue)) (p : ℕ)
    → AllByRecursion (IsRun chunk_of step groups) runs → 1 ≤ times p (map (λ (run : ℕ × List CodedValue). run.0) runs)
    → AreCoded chunk_of (run_of step groups p) (run_with runs p)
run_with-drawn chunk_of step groups [] p are some = absurd (omega (arith, some))
run_with-drawn chunk_of step groups (run ∷ runs) p are some =
    elim (cases_eq run.0 p) [
      | inl same ↦
          subst (AreCoded chunk_of (run_of step groups p)) (sym (cond-true (eqb run.0 p) run.1 (run_with runs p) (eq-eqb run.0 p same)))
          (subst (λ q. AreCoded chunk_of (run_of step groups q) run.1) same are.0)
      | inr other ↦
          subst (AreCoded chunk_of (run_of step groups p)) (sym (cond-false (eqb run.0 p) run.1 (run_with runs p) (ne_eqb run.0 p other)))
          (run_with-drawn chunk_of step groups runs p are.1 (omega (arith, some, times-cons p run.0 (map (λ (run : ℕ × List CodedValue). run.0) runs), one_if-other p run.0 other)))
    ]

-- what stands for each of some numbers' groups, one after another
flat_map-coded : (chunk_of : List (List ℕ) → ChunkValue) (run : ℕ → List (List (List ℕ))) (coded : ℕ → List CodedValue) (begin count : ℕ)
    → ((p : ℕ) → p < begin + count → AreCoded chunk_of (run p) (coded p))
    → AreCoded chunk_of (flat_map run (range_with_len begin count)) (flat_map coded (range_with_len begin count))
flat_map-coded chunk_of run coded begin zero each = tt
flat_map-coded chunk_of run coded begin (suc count) each =
    AreCoded-append chunk_of (run begin) (flat_map run (range_with_len (begin + 1) count)) (coded begin) (flat_map coded (range_with_len (begin + 1) count))
    (each begin (omega arith))
    (flat_map-coded chunk_of run coded (begin + 1) count (λ p within. each p (omega (arith, within))))

pub coded_in_order : (chunk_of : List (List ℕ) → ChunkValue) (step : ℕ) (groups : List (List (List ℕ))) (workers : List RunsValue) → 1 ≤ step
    → HasEachBelow (run_count step (length groups)) (flat_map (λ (r : RunsValue). r.numbers) workers)
    → All (λ (r : RunsValue). AreCoded chunk_of (groups_of_runs step groups r.numbers) r.chunks) workers
    → AreCoded chunk_of groups (in_order step (length groups) workers)
coded_in_order chunk_of step groups workers some each are =
    let count = run_count step (length groups) in
    let runs = all_runs step (length groups) workers in
    subst (λ gs. AreCoded chunk_of gs (in_order step (length groups) workers)) (runs-all step groups some)
    (flat_map-coded chunk_of (run_of step groups) (run_with runs) 0 count
    (λ p within.
    run_with-drawn chunk_of step groups runs p (all_runs-coded chunk_of step groups workers are)
    (omega (arith, each.once p (omega (arith, within)), ap (times p) (all_runs-numbers step (length groups) workers)))))
