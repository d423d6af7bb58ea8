-- Inside. How the work of a command that walks a record file ends, and what it has said then. Own.
use Rattle.std.specs.Prelude.{◌≡◌, ℕ, Bool, false, Option, None, Result, Ok, Err, List, []}
use Rattle.std.specs.List.{AllByRecursion}
use Rattle.std.specs.Fn.{Shared, FnReturnsAt}
use denote.Ref.{Bor}
use lib.Chars.{codes}
use Rattle.record_io.specs.Outside.{Takes, TakesShort}
use Rattle.damage_skip.specs.Bounds.{may_skip, MaySkip}
use Rattle.damage_skip.specs.Regions.{region_text, skipped_text}
use Rattle.damage_skip.specs.Policies.{IsRegion}
use Rattle.recover_command.specs.WalkAnswers.{walk_status}
use Rattle.damage_skip.specs.declared.regions.Region.{Region}
use Rattle.command_frame.specs.declared.ending.Ending.{Ending}
use Rattle.command_frame.specs.declared.status.Status.{Status}
use Rattle.command_frame.specs.Endings.{Endings}
use Rattle.record_io.specs.declared.cut.Cut.TheVariants as cut
use Rattle.command_frame.specs.declared.ending.Ending.TheVariants as end
use Rattle.command_frame.specs.declared.status.Status.TheVariants as status

-- where a walk is done nothing more is said, and of a region that may not be skipped its line
abbrev pub walk_ends : Endings Status Region
walk_ends = record { done = λ ended. ended; text = region_text (codes "stopped"); status = λ _. status.Stopped }

-- a test answers whether a region may be skipped
abbrev pub IsBound : {F : Type 0} → Shared F (Bor Region × Unit {0}) Bool → F → Option ℕ → Type 0
IsBound g f most = (region : Region) (allowed : Bool) → IsRegion region → FnReturnsAt g f region allowed → allowed ≡ may_skip most region

-- what was said of a walk, also where the file doesn't show its bytes: the lines of regions that may be skipped
pub record HasToldOf (most : Option ℕ) (notes notes_then : Option (List ℕ)) (skipped : List Region) : Type 0 where
  pub may : AllByRecursion (MaySkip most) skipped
  pub says : Takes notes notes_then (skipped_text skipped)

abbrev pub TellsOf : Option ℕ → Result Status (Ending Region) → (notes notes_then : Option (List ℕ)) → Type 0
TellsOf most (Ok ended) notes notes_then = (skipped : List Region) × HasToldOf most notes notes_then skipped × (ended ≡ walk_status skipped None)
TellsOf most (Err end.Limit) notes notes_then = Takes notes notes_then []
TellsOf most (Err (end.At region)) notes notes_then =
    (skipped : List Region) × HasToldOf most notes notes_then skipped × (may_skip most region ≡ false)
TellsOf most (Err (end.Cut cut.Notes)) notes notes_then =
    (skipped : List Region) × AllByRecursion (MaySkip most) skipped × TakesShort notes notes_then (skipped_text skipped)
TellsOf most (Err (end.Cut cut)) notes notes_then = (skipped : List Region) × HasToldOf most notes notes_then skipped
