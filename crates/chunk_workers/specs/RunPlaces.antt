-- Inside. Where the coded chunks of each run lie. Own.
use Rattle.std.specs.Prelude.{◌≡◌, ℕ, ◌+◌, ◌-◌, ◌*◌, min, Some, List, [], ◌∷◌, ◌++◌, slice_get}
use Rattle.chunk_header.specs.Chunks.{ChunkValue}
use Rattle.chunk_workers.specs.declared.places.RunPlace.{RunPlace}
use Rattle.chunk_workers.specs.Coded.{IsCodedAt}
use Rattle.chunk_workers.specs.Runs.{RunsValue, run_of}

-- of the runs of these numbers, which lie one after another with one worker from a chunk on; there are so many groups in all
abbrev pub places_in : ℕ → ℕ → ℕ → ℕ → List ℕ → List (ℕ × RunPlace)
places_in step groups worker first [] = []
places_in step groups worker first (number ∷ numbers) =
    (number, record { worker = worker; first = first }) ∷ places_in step groups worker (first + min step (groups - number * step)) numbers

-- of the runs of workers from one on
abbrev pub places_from : ℕ → ℕ → ℕ → List RunsValue → List (ℕ × RunPlace)
places_from step groups worker [] = []
places_from step groups worker (r ∷ runs) = places_in step groups worker 0 r.numbers ++ places_from step groups (worker + 1) runs

-- each number with its run's place, worker after worker
abbrev pub places_of : ℕ → ℕ → List RunsValue → List (ℕ × RunPlace)
places_of step groups runs = places_from step groups 0 runs

-- from the place on there is a coded chunk for each group of the run of this number
pub record IsRunPlace (chunk_of : List (List ℕ) → ChunkValue) (step : ℕ) (groups : List (List (List ℕ))) (workers : List RunsValue) (number : ℕ) (place : RunPlace) : Type 0 where
  pub r : RunsValue
  pub runs : slice_get workers place.worker ≡ Some r
  pub stands : (j : ℕ) (group : List (List ℕ)) → slice_get (run_of step groups number) j ≡ Some group → IsCodedAt chunk_of group r.chunks (place.first + j)
