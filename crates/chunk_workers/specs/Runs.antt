-- Inside. Runs of neighbouring groups, for each of which a number is drawn. Own.
use Rattle.std.specs.Prelude.{◌≡◌, ◌≢◌, ℕ, ◌+◌, ◌-◌, ◌*◌, ◌/◌, List, [], drop, take}
use Rattle.std.specs.List.{flat_map}
use Rattle.number_shares.specs.Machine.{empty_hand}
use Rattle.chunk_header.specs.Chunks.{ChunkValue}
use Rattle.chunk_workers.specs.Coded.{AreCoded, CodedValue}
use Rattle.chunk_workers.specs.Seats.{BelongsTo, DrawsValue, SeatValue, numbers_at}

-- the run of a number: as many as a step has, or what is left
abbrev pub run_of : {X : Type 0} → ℕ → List X → ℕ → List X
run_of step xs number = take step (drop (number * step) xs)

-- how many runs there are of so many
abbrev pub run_count : ℕ → ℕ → ℕ
run_count step n = (n + (step - 1)) / step

-- the groups of the runs of these numbers, one after another
abbrev pub groups_of_runs : ℕ → List (List (List ℕ)) → List ℕ → List (List (List ℕ))
groups_of_runs step groups numbers = flat_map (run_of step groups) numbers

-- the numbers of runs, and the coded chunks of their groups, one after another
pub record RunsValue : Type 0 where
  pub numbers : List ℕ
  pub chunks : List CodedValue

abbrev pub no_runs : RunsValue
no_runs = record { numbers = []; chunks = [] }

-- a seat that has drawn nothing, and no runs
pub record CanDraw (draws : DrawsValue) (seat : SeatValue) (runs : RunsValue) : Type 0 where
  pub belongs : BelongsTo draws seat
  pub fresh : seat.hand ≡ empty_hand
  pub none : runs ≡ no_runs

-- what one seat leaves: it has ended, and the coded chunks are those of the groups of the runs that it drew
pub record IsDrawn (chunk_of : List (List ℕ) → ChunkValue) (draws : DrawsValue) (step : ℕ) (groups : List (List (List ℕ))) (seat : SeatValue) (runs : RunsValue) : Type 0 where
  pub belongs : BelongsTo draws seat
  pub ended : seat.hand.past ≢ []
  pub numbers : runs.numbers ≡ numbers_at seat.hand.mine
  pub coded : AreCoded chunk_of (groups_of_runs step groups runs.numbers) runs.chunks
