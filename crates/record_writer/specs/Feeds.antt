-- Promise. What a feed of records still gives. Own.
use Rattle.std.specs.Prelude.{ℕ, Option, Some, List, []}
use Rattle.record_writer.specs.declared.feed.Stop.{Stop}

-- what a feed has not given yet: records, and a stop where one ends them
pub record Rest : Type 0 where
  pub records : List (List ℕ)
  pub stop : Option Stop

-- nothing is left but a stop
abbrev pub stop_alone : Stop → Rest
stop_alone s = record { records = []; stop = Some s }
