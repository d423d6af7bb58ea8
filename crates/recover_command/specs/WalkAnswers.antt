-- Promise. What the commands that walk a record file past its damage take and say of it, and end with. Own.
use Rattle.std.specs.Prelude.{◌≡◌, ℕ, ◌-◌, ◌⊎◌, Bool, false, Option, Some, None, IfSome, List, [], ◌∷◌}
use Rattle.std.specs.List.{AllByRecursion}
use Rattle.damage_skip.specs.Bounds.{may_skip, MaySkip}
use Rattle.damage_skip.specs.Regions.{skipped_text, walk_text}
use Rattle.damage_skip.specs.Takings.{IsTakenByWalk}
use Rattle.damage_skip.specs.declared.regions.Region.{Region}
use Rattle.command_frame.specs.declared.status.Status.{Status}
use Rattle.command_frame.specs.FileAnswers.{IsInReach, IsTooLong, limit_text}
use Rattle.command_frame.specs.declared.status.Status.TheVariants as status

-- the status by the regions that a walk skipped, and the one at which it stopped, if it did
abbrev pub walk_status : List Region → Option Region → Status
walk_status skipped (Some region) = status.Stopped
walk_status [] None = status.Ok
walk_status (region ∷ skipped) None = status.Skipped

-- how many bytes of the file may be handed out, by its bytes: those that a walk past regions that may be skipped takes
abbrev pub MayTakeWalk : Bool → Option ℕ → (files : List (List ℕ)) → (before after : List ℕ) → Type 0
MayTakeWalk unread_ok most (file ∷ []) (before ∷ []) (after ∷ []) =
    IsTakenByWalk unread_ok (MaySkip most) file (after - before)
MayTakeWalk unread_ok most files before after = ⊥

-- what a walk may say before its end, whatever the file holds
abbrev pub MaySayWalk : Option ℕ → List ℕ → Type 0
MaySayWalk most text = (skipped : List Region) × AllByRecursion (MaySkip most) skipped × (text ≡ skipped_text skipped)

-- how the walk of a file of such a size may end, whatever the file holds: at its end or at a region that may not be skipped,
-- behind some that may, or as the file is too long
abbrev pub MayEndWalk : Option ℕ → List ℕ → Status → List ℕ → Type 0
MayEndWalk most sizes ended text =
    (IsInReach sizes
    × (skipped : List Region) × (stopped : Option Region)
    × AllByRecursion (MaySkip most) skipped × IfSome stopped (λ region. may_skip most region ≡ false)
    × (ended ≡ walk_status skipped stopped) × (text ≡ walk_text skipped stopped))
    ⊎ (IsTooLong sizes × (ended ≡ status.Limit) × (text ≡ limit_text))
