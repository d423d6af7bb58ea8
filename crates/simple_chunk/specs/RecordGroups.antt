-- Inside. Groups of records that lie joined in one list. Own.
use Rattle.std.specs.Prelude.{ℕ, ◌^◌, ◌<◌, ◌≤◌, List, drop, length}
use Rattle.simple_chunk.specs.Records.{AreEnds, last_end, parts_from}

-- the groups that are closed, and the records behind them
pub record GroupsValue : Type 0 where
  pub groups : List (List (List ℕ))
  pub ungrouped : List (List ℕ)

abbrev pub value_of : List (List (List ℕ)) → List (List ℕ) → GroupsValue
value_of groups ungrouped = record { groups = groups; ungrouped = ungrouped }

-- the same of records of which groups end at these numbers
abbrev pub cut_at : List ℕ → List (List ℕ) → GroupsValue
cut_at cuts records = value_of (parts_from 0 cuts records) (drop (last_end 0 cuts) records)

-- the numbers of records at which groups end, as groups of so many records hold them: in order, and fewer than 2^32
pub record AreHeldCuts (cuts : List ℕ) (count : ℕ) : Type 0 where
  pub order : AreEnds 0 cuts (last_end 0 cuts)
  pub within : last_end 0 cuts ≤ count
  pub few : length cuts < 2 ^ 32
