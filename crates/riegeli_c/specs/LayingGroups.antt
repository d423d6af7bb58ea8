-- Inside. Chunks of groups that are laid as records come. Own.
use Rattle.std.specs.Prelude.{◌≡◌, ℕ, true, Option, Result, List, [], ◌∷◌, OnOk}
use Rattle.std.specs.Option.{option_to_list}
use Rattle.record_io.specs.Outside.{TakesShort}
use Rattle.record_io.specs.Calls.{OnlyCounts}
use Rattle.meta_chunk.specs.Files.{laid_each}
use Rattle.ordered_writer.specs.Writers.{Writer}
use Rattle.record_group.specs.Groups.{closes_before}
use Rattle.record_group.specs.Groupings.{Grouping, IsPush}
use Rattle.record_writer.specs.MadeFiles.{chunks_of_groups}
use Rattle.riegeli_c.specs.Laying.{AreLaidBy}

-- a call takes a record, and lays the chunk of the group that closes before it, if one does; where the sink fails, one does, and
-- the sink takes a front of its bytes and not all, and is the cause
pub record LaysPushed {M K X E : Type 0} (taken : M → Option (List ℕ)) (lent : M → K) (faults : M → ℕ) (Fails : Type 0)
    (result : Result X E) (old new : Grouping) (record_bytes : List ℕ) (from to : Writer) (before after : M) : Type 0 where
  pub whole : OnOk result ((given : Option (List (List ℕ))) × IsPush old record_bytes given new
      × AreLaidBy (taken before) (taken after) from to (chunks_of_groups (option_to_list given)))
  pub closes : Fails → closes_before old.size old.every old.group record_bytes ≡ true
  pub short : Fails → TakesShort (taken before) (taken after) (laid_each from.position (chunks_of_groups (old.group ∷ [])))
  pub counts : OnlyCounts lent faults Fails before after
