-- Promise. What records cost where they are grouped into chunks. Own.
use Rattle.std.specs.Prelude.{ℕ, ◌+◌, List, length}
use Rattle.std.specs.List.{sum_by}

-- what a record costs: its length and 8
abbrev pub cost : List ℕ → ℕ
cost record_bytes = length record_bytes + 8

-- what records cost together
abbrev pub cost_of : List (List ℕ) → ℕ
cost_of records = sum_by cost records
