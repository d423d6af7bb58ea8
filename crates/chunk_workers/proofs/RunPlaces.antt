-- The places of runs.
use Rattle.std.proofs.Common.{◌≡◌, ◌∙◌, ℕ, suc, ◌+◌, ◌-◌, ◌*◌, min, Some, List, [], ◌∷◌, ◌++◌, All, length, drop, map, refl, ap, subst, arith}
use Rattle.std.specs.Prelude.{slice_get}
use Rattle.std.specs.List.{AllByRecursion, flat_map}
use Rattle.std.proofs.lemmas.List.{drop-drop, map-append}
use Rattle.number_shares.proofs.Lists.{all_append}
use Rattle.chunk_header.specs.Chunks.{ChunkValue}
use Rattle.chunk_workers.specs.Coded.{AreCoded, CodedValue, IsCodedAt}
use Rattle.chunk_workers.specs.RunPlaces.{IsRunPlace, places_from, places_in, places_of}
use Rattle.chunk_workers.specs.Runs.{RunsValue, groups_of_runs, run_of}
use Rattle.chunk_workers.specs.declared.places.RunPlace.{RunPlace}
use Rattle.chunk_workers.proofs.CodedLists.{AreCoded-at, AreCoded-back}
use Rattle.chunk_workers.proofs.RunLists.{length-run_of, slice_get-append, slice_get-drop}

-- the numbers are those of the workers
places_in-numbers : (step groups worker first : ℕ) (numbers : List ℕ) → map (λ (p : ℕ × RunPlace). p.0) (places_in step groups worker first numbers) ≡ numbers
places_in-numbers step groups worker first [] = refl
places_in-numbers step groups worker first (number ∷ numbers) =
    ap (λ ns. number ∷ ns) (places_in-numbers step groups worker (first + min step (groups - number * step)) numbers)

places_from-numbers : (step groups worker : ℕ) (runs : List RunsValue) → map (λ (p : ℕ × RunPlace). p.0) (places_from step groups worker runs) ≡ flat_map (λ (r : RunsValue). r.numbers) runs
places_from-numbers step groups worker [] = refl
places_from-numbers step groups worker (r ∷ runs) =
    map-append (λ (p : ℕ × RunPlace). p.0) (places_in step groups worker 0 r.numbers) (places_from step groups (worker + 1) runs)
    ∙ ap (λ ns. ns ++ map (λ (p : ℕ × RunPlace). p.0) (places_from step groups (worker + 1) runs)) (places_in-numbers step groups worker 0 r.numbers)
    ∙ ap (λ ns. r.numbers ++ ns) (places_from-numbers step groups (worker + 1) runs)

pub places_of-numbers : (step groups : ℕ) (runs : List RunsValue) → map (λ (p : ℕ × RunPlace). p.0) (places_of step groups runs) ≡ flat_map (λ (r : RunsValue). r.numbers) runs
places_of-numbers step groups runs = places_from-numbers step groups 0 runs

-- a chunk that lies so far behind a place
placed_at : (chunk_of : List (List ℕ) → ChunkValue) (group : List (List ℕ)) (chunks : List CodedValue) (first j : ℕ)
    → IsCodedAt chunk_of group (drop first chunks) j → IsCodedAt chunk_of group chunks (first + j)
placed_at chunk_of group chunks first j is = record { coded = is.coded; at = slice_get-drop chunks first j is.coded is.at; stands = is.stands }

-- the places of one worker's runs, from a chunk on
places_in-placed : (chunk_of : List (List ℕ) → ChunkValue) (step : ℕ) (groups : List (List (List ℕ))) (workers : List RunsValue) (worker : ℕ) (r : RunsValue) (first : ℕ) (numbers : List ℕ)
    → slice_get workers worker ≡ Some r → AreCoded chunk_of (groups_of_runs step groups numbers) (drop first r.chunks)
    → AllByRecursion (λ (p : ℕ × RunPlace). IsRunPlace chunk_of step groups workers p.0 p.1) (places_in step (length groups) worker first numbers)
places_in-placed chunk_of step groups workers worker r first [] own are = tt
places_in-placed chunk_of step groups workers worker r first (number ∷ numbers) own are =
    let run = run_of step groups number in
    let rest = groups_of_runs step groups numbers in
    let many : length run ≡ min step (length groups - number * step) = length-run_of step groups number in
    let next : drop (length run) (drop first r.chunks) ≡ drop (first + min step (length groups - number * step)) r.chunks =
    drop-drop (length run) first r.chunks ∙ ap (λ k. drop k r.chunks) (omega (arith, many)) in (
      record {
        r = r;
        runs = own;
        stands = λ j group is. placed_at chunk_of group r.chunks first j
            (AreCoded-at chunk_of (run ++ rest) (drop first r.chunks) j group are (slice_get-append run rest j group is));
      },
      places_in-placed chunk_of step groups workers worker r (first + min step (length groups - number * step)) numbers own
          (subst (AreCoded chunk_of rest) next (AreCoded-back chunk_of run rest (drop first r.chunks) are)),
    )

-- and those of the runs of workers from one on
places_from-placed : (chunk_of : List (List ℕ) → ChunkValue) (step : ℕ) (groups : List (List (List ℕ))) (workers : List RunsValue) (worker : ℕ) (runs : List RunsValue)
    → ((i : ℕ) (r : RunsValue) → slice_get runs i ≡ Some r → slice_get workers (worker + i) ≡ Some r)
    → All (λ (r : RunsValue). AreCoded chunk_of (groups_of_runs step groups r.numbers) r.chunks) runs
    → AllByRecursion (λ (p : ℕ × RunPlace). IsRunPlace chunk_of step groups workers p.0 p.1) (places_from step (length groups) worker runs)
places_from-placed chunk_of step groups workers worker [] own are = tt
places_from-placed chunk_of step groups workers worker (r ∷ runs) own are =
    let here : slice_get workers worker ≡ Some r = ap (slice_get workers) (omega arith) ∙ own 0 r refl in
    all_append (λ (p : ℕ × RunPlace). IsRunPlace chunk_of step groups workers p.0 p.1) (places_in step (length groups) worker 0 r.numbers) (places_from step (length groups) (worker + 1) runs)
    (places_in-placed chunk_of step groups workers worker r 0 r.numbers here (are 0 r (omega arith)))
    (places_from-placed chunk_of step groups workers (worker + 1) runs
    (λ i x is. ap (slice_get workers) (omega arith) ∙ own (suc i) x is)
    (λ k d within. are (suc k) d (omega (arith, within))))

pub places_of-placed : (chunk_of : List (List ℕ) → ChunkValue) (step : ℕ) (groups : List (List (List ℕ))) (runs : List RunsValue)
    → All (λ (r : RunsValue). AreCoded chunk_of (groups_of_runs step groups r.numbers) r.chunks) runs
    → AllByRecursion (λ (p : ℕ × RunPlace). IsRunPlace chunk_of step groups runs p.0 p.1) (places_of step (length groups) runs)
places_of-placed chunk_of step groups runs are =
    places_from-placed chunk_of step groups runs 0 runs (λ i r is. ap (slice_get runs) (omega arith) ∙ is) are
