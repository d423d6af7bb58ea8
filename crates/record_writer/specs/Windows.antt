-- Inside. What is taken of a feed before it is put. Own.
use Rattle.std.specs.Prelude.{◌≡◌, ◌≢◌, ℕ, ◌<◌, ◌≤◌, Bool, true, false, Option, Some, None, Result, Ok, Err, List, [], ◌∷◌, ◌++◌, IfSome}
use Rattle.record_io.specs.Calls.{OnlyCounts}
use Rattle.meta_chunk.specs.Files.{end_of_chunks}
use Rattle.record_group.specs.Groups.{groups}
use Rattle.record_group.specs.Groupings.{Grouping, groups_from}
use Rattle.record_writer.specs.declared.cut_off.CutOff.{CutOff}
use Rattle.record_writer.specs.declared.cut_off.CutOff.TheVariants.{Input, Made}
use Rattle.record_writer.specs.declared.group_taker.FeedPart.{FeedPart}
use Rattle.record_writer.specs.declared.group_taker.FeedPart.TheVariants.{Window, All}
use Rattle.record_writer.specs.declared.options.WriteOptions.{WriteOptions}
use Rattle.record_writer.specs.Feeds.{Rest}
use Rattle.record_writer.specs.FeedSteps.{nothing_left}
use Rattle.record_writer.specs.MadeFiles.{AreGiven, chunks_of_groups, reach_of}

-- the groups of a window, and whether their chunks are encoded
pub record WindowValue : Type 0 where
  pub groups : List (List (List ℕ))
  pub encoded : Bool

-- a grouping whose open group has one more record
abbrev pub with_record : Grouping → List ℕ → Grouping
with_record grouping record_bytes = record grouping { group = grouping.group ++ record_bytes ∷ [] }

-- what is open once a part of a feed is taken: behind a window also the record that was pulled last
abbrev pub open_after : Result FeedPart CutOff → Grouping → List ℕ → Grouping
open_after (Ok Window) grouping record_bytes = with_record grouping record_bytes
open_after (Ok (All stop)) grouping record_bytes = grouping
open_after (Err cut) grouping record_bytes = grouping

-- groups are a front of those of a feed's records behind an open group, where it shows the records
abbrev pub AreFront : Option Rest → Grouping → List (List (List ℕ)) → Type 0
AreFront before old given =
    IfSome before (λ rest. (more : List (List (List ℕ))) × (groups_from old rest.records ≡ given ++ more))

-- groups that were taken of a feed: those that were given; or all groups, where this stop follows the records, or none; or
-- a front of all groups, where the work was cut off
abbrev pub AreTaken : Result FeedPart CutOff → Option Rest → Option Rest → Grouping → Grouping → List (List (List ℕ)) → Type 0
AreTaken (Ok Window) before after old new given = AreGiven before after old new given
AreTaken (Ok (All stop)) before after old new given =
    IfSome before (λ rest. (rest.stop ≡ stop) × (groups_from old rest.records ≡ given))
AreTaken (Err cut) before after old new given = AreFront before old given

-- what a feed leaves from which groups were taken: it may be asked for more behind a window, and has less left then; their chunks
-- and those still to come reach no further than before; at its end nothing is left; it only counts its
-- faults; and what is put to doesn't cut it off
pub record TakesGroups {L N : Type 0} (rest : L → Option Rest) (bound : L → ℕ) (going : L → Bool) (origin : L → N) (faults : L → ℕ)
    (before after : L) (old new : Grouping) (given : List (List (List ℕ))) (taken : Result FeedPart CutOff) : Type 0 where
  pub given_of : AreTaken taken (rest before) (rest after) old new given
  pub may_go_on : taken ≡ Ok Window → going after ≡ true
  pub lowers : taken ≡ Ok Window → bound after < bound before
  pub in_reach : (place : ℕ) → reach_of (end_of_chunks place (chunks_of_groups given)) new (bound after) ≤ reach_of place old (bound before)
  pub drained : taken ≡ Ok (All None) → IfSome (rest before) (λ _. rest after ≡ Some nothing_left)
  pub counts : OnlyCounts origin faults (taken ≡ Err Input) before after
  pub no_sink : taken ≢ Err Made

-- what takes groups has taken no record, and will give those of these options
pub record HasTakenNone (taker : Grouping) (options : WriteOptions) : Type 0 where
  pub no_record : taker.group ≡ []
  pub all : (records : List (List ℕ)) → groups_from taker records ≡ groups records options.size options.every

-- the chunks of a window can be put: they are encoded, unless it has no group
abbrev pub IsReady : WindowValue → Type 0
IsReady window = window.encoded ≡ false → window.groups ≡ []

-- the chunks of a window's groups are encoded, and the groups stay
pub record IsEncoded (before after : WindowValue) : Type 0 where
  pub ready : IsReady after
  pub same : after.groups ≡ before.groups

-- no window has a group, that to be put next, that to be encoded and that to be filled, so the one to be encoded can be put
pub record HaveNoGroup (next taken free : WindowValue) : Type 0 where
  pub next_empty : next.groups ≡ []
  pub taken_empty : taken.groups ≡ []
  pub free_empty : free.groups ≡ []

-- the window to be put next can be put, and the one to be filled next has no group
pub record StandInOrder (next free : WindowValue) : Type 0 where
  pub ready : IsReady next
  pub empty : free.groups ≡ []
