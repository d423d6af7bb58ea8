-- Files that are asked their sizes, and whose records are then gathered and put into one.
use Rattle.std.proofs.Common.{◌≡◌, ℕ, Option, Result, Err, List, refl, sym, subst, inl, inr}
use Rattle.record_io.specs.declared.cut.Cut.{Cut}
use Rattle.record_collect.specs.Ends.{IsGatheredOf}
use Rattle.record_collect.specs.Gatherings.{AreGatheredOf, GatheredValue}
use Rattle.record_collect.specs.declared.gathering.GatherEnd.{GatherEnd}
use Rattle.command_frame.specs.declared.ending.Ending.{Ending}
use Rattle.command_frame.specs.Endings.{ArePast, HaveTold, IsAllowedEndOfMany}
use Rattle.join_command.specs.CollectCommand.{collect_meaning}
use Rattle.join_command.specs.CollectingEnds.{AreEachInReach, PutsGathered, TakeCollected, end_of_gather}
use Rattle.join_command.specs.declared.stops.Uncollected.{Uncollected}
use Rattle.record_collect.specs.declared.gathering.GatherEnd.TheVariants as gather
use Rattle.record_io.specs.declared.cut.Cut.TheVariants as cut
use Rattle.command_frame.specs.declared.ending.Ending.TheVariants as end

-- what gathering took where it ended early
pub took-ended : (X : Type 0) (e : GatherEnd) (why : Ending Uncollected) (made out : Option (List ℕ)) (all : List (List ℕ)) → why ≡ end_of_gather e
    → IsGatheredOf (Err e) all → TakeCollected {X = X} (Err why) all made made out out
took-ended X e why made out all is gathered =
    subst (λ (w : Ending Uncollected). TakeCollected {X = X} (Err w) all made made out out) (sym is) (by_end e gathered) where
      by_end : (e : GatherEnd) → IsGatheredOf (Err e) all → TakeCollected {X = X} (Err (end_of_gather e)) all made made out out
      by_end (gather.Refused index fault) first = (first, refl, refl)
      by_end gather.TooMuch much = (much, refl, refl)
      by_end gather.Store h = (refl, refl)
      by_end gather.Memory h = inl (refl, refl)

pub sized-ended : (X : Type 0) (e : GatherEnd) (why : Ending Uncollected) (told : List (Option ℕ)) → why ≡ end_of_gather e
    → HaveTold told AreEachInReach → IsAllowedEndOfMany {X = X} collect_meaning (ArePast AreEachInReach) (λ _. AreEachInReach) (Err why) told
sized-ended X e why told is sized =
    subst (λ (w : Ending Uncollected). IsAllowedEndOfMany {X = X} collect_meaning (ArePast AreEachInReach) (λ _. AreEachInReach) (Err w) told) (sym is) (by_end e) where
      by_end : (e : GatherEnd) → IsAllowedEndOfMany {X = X} collect_meaning (ArePast AreEachInReach) (λ _. AreEachInReach) (Err (end_of_gather e)) told
      by_end (gather.Refused index fault) = sized
      by_end gather.TooMuch = sized
      by_end gather.Store = refl
      by_end gather.Memory = (refl, sized)

-- a file failed only where gathering says it
pub file-failed : (X : Type 0) (e : GatherEnd) (why : Ending Uncollected) → why ≡ end_of_gather e
    → ◌≡◌ {A = Result X (Ending Uncollected)} (Err why) (Err (end.Cut cut.File)) → e ≡ gather.Store
file-failed X (gather.Refused index fault) why is failed = cc
file-failed X gather.TooMuch why is failed = cc
file-failed X gather.Store why is failed = refl
file-failed X gather.Memory why is failed = cc

-- how the work ends where putting was cut off so
module _ (X Y : Type 0) (value : GatheredValue) (made made_then out out_then : Option (List ℕ)) where
  pub took-cut : (why : Cut) (all : List (List ℕ)) → PutsGathered {X = X} (Err why) value made made_then out out_then → AreGatheredOf all value
      → TakeCollected {X = Y} (Err (end.Cut why)) all made made_then out out_then
  took-cut cut.Input all (never, unprinted) gathered = absurd never
  took-cut cut.File all (never, unprinted) gathered = absurd never
  took-cut cut.Made all put gathered = (value, gathered, put)
  took-cut cut.Grown all (never, unprinted) gathered = absurd never
  took-cut cut.Out all put gathered = (value, gathered, put)
  took-cut cut.Notes all (never, unprinted) gathered = absurd never
  took-cut cut.Memory all put gathered = inr (value, gathered, put)

  pub sized-cut : (why : Cut) (told : List (Option ℕ)) → PutsGathered {X = X} (Err why) value made made_then out out_then → HaveTold told AreEachInReach
      → IsAllowedEndOfMany {X = Y} {W = Uncollected} collect_meaning (ArePast AreEachInReach) (λ _. AreEachInReach) (Err (end.Cut why)) told
  sized-cut cut.Input told (never, unprinted) sized = absurd never
  sized-cut cut.File told (never, unprinted) sized = absurd never
  sized-cut cut.Made told put sized = (refl, sized)
  sized-cut cut.Grown told (never, unprinted) sized = absurd never
  sized-cut cut.Out told put sized = (refl, sized)
  sized-cut cut.Notes told (never, unprinted) sized = absurd never
  sized-cut cut.Memory told put sized = (refl, sized)

  -- and no file failed
  pub file-cut : {A : Type 0} (why : Cut) → PutsGathered {X = X} (Err why) value made made_then out out_then
      → ◌≡◌ {A = Result Y (Ending Uncollected)} (Err (end.Cut why)) (Err (end.Cut cut.File)) → A
  file-cut why put failed =
      let is : why ≡ cut.File = cc failed in
      absurd (subst (λ (w : Cut). PutsGathered {X = X} (Err w) value made made_then out out_then) is put).0
