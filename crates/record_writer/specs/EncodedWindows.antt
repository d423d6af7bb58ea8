-- Inside. Windows of groups whose chunks workers encode, run by run. Own.
use Rattle.std.specs.Prelude.{◌≡◌, ℕ, ◌+◌, ◌^◌, ◌<◌, ◌≤◌, List, All, length}
use Rattle.std.specs.List.{AllByRecursion, enumerate_from, flat_map}
use Rattle.chunk_header.specs.Chunks.{ChunkValue}
use Rattle.chunk_header.specs.SimpleChunks.{simple_chunk}
use Rattle.number_shares.specs.Once.{HasEachBelow}
use Rattle.simple_chunk.specs.Costs.{cost_of}
use Rattle.chunk_workers.specs.declared.places.RunPlace.{RunPlace}
use Rattle.chunk_workers.specs.Coded.{AreCoded}
use Rattle.chunk_workers.specs.Runs.{RunsValue, groups_of_runs, run_count}
use Rattle.chunk_workers.specs.RunPlaces.{IsRunPlace}
use Rattle.ordered_writer.specs.Reorders.{Reordering, coming, count_held, room_of}

-- a coder makes the simple chunk of each list of records that costs at most 2^25
abbrev pub EncodesSimply : (List (List ℕ) → ChunkValue) → Type 0
EncodesSimply chunk_of = (records : List (List ℕ)) → cost_of records ≤ 2 ^ 25 → chunk_of records ≡ simple_chunk records

-- groups whose chunks can be encoded: some, not too many, and none too large
pub record CanBeEncoded (groups : List (List (List ℕ))) : Type 0 where
  pub some : 1 ≤ length groups
  pub few : length groups < 2 ^ 32
  pub short : All (λ group. cost_of group ≤ 2 ^ 25) groups

-- what workers made: each run of the groups was encoded once, in the order in which its worker drew
pub record AreRunsOf (step : ℕ) (groups : List (List (List ℕ))) (runs : List RunsValue) : Type 0 where
  pub each : HasEachBelow (run_count step (length groups)) (flat_map (λ r. r.numbers) runs)
  pub coded : All (λ r. AreCoded simple_chunk (groups_of_runs step groups r.numbers) r.chunks) runs

-- from one number on, the chunks of each run stand at the place that is given for it
abbrev pub ArePlaces : ℕ → List (List (List ℕ)) → List RunsValue → ℕ → List RunPlace → Type 0
ArePlaces step groups runs number places =
    AllByRecursion (λ p. IsRunPlace simple_chunk step groups runs p.0 p.1) (enumerate_from number places)

-- the places of all runs come next, by their numbers
pub record AreInOrder (step : ℕ) (groups : List (List (List ℕ))) (runs : List RunsValue) (order : Reordering RunPlace) : Type 0 where
  pub some_step : 1 ≤ step
  pub begins : order.wanted ≡ 0
  pub places : ArePlaces step groups runs 0 (coming order)
  pub all : length (coming order) ≡ run_count step (length groups)
  pub some_room : 1 ≤ room_of order
  pub in_reach : count_held order + room_of order ≤ 2 ^ 40
