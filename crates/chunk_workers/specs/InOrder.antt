-- Inside. What workers coded of runs, by rising number. Own.
use Rattle.std.specs.Prelude.{ℕ, ◌-◌, ◌*◌, ◌==◌, if◌then◌else◌, min, List, [], ◌∷◌, drop, take}
use Rattle.std.specs.List.{flat_map, range_with_len}
use Rattle.chunk_workers.specs.Coded.{CodedValue}
use Rattle.chunk_workers.specs.Runs.{RunsValue, run_count}

-- of the coded chunks of one worker, one after another, those of each run whose number it drew; there are so many groups in all
abbrev pub runs_in : ℕ → ℕ → List ℕ → List CodedValue → List (ℕ × List CodedValue)
runs_in step count [] chunks = []
runs_in step count (number ∷ numbers) chunks =
    (number, take (min step (count - number * step)) chunks) ∷ runs_in step count numbers (drop (min step (count - number * step)) chunks)

-- the first that has this number
abbrev pub run_with : List (ℕ × List CodedValue) → ℕ → List CodedValue
run_with [] number = []
run_with (run ∷ runs) number = if run.0 == number then run.1 else run_with runs number

-- those of all workers, run after run
abbrev pub all_runs : ℕ → ℕ → List RunsValue → List (ℕ × List CodedValue)
all_runs step count workers = flat_map (λ r. runs_in step count r.numbers r.chunks) workers

-- and by rising number
abbrev pub in_order : ℕ → ℕ → List RunsValue → List CodedValue
in_order step count workers = flat_map (run_with (all_runs step count workers)) (range_with_len 0 (run_count step count))
