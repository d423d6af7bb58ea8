-- Files that are joined, by how that ended.
use Rattle.std.proofs.Common.{◌≡◌, ◌∙◌, ℕ, ◌+◌, ◌*◌, ◌≤◌, Option, Some, Result, Err, List, length, map, refl, sym, ap, subst, inr, arith}
use Rattle.std.specs.Prelude.{slice_get}
use Rattle.record_values.specs.declared.file_totals.Totals.{Totals}
use Rattle.record_join.specs.Joins.{TakesJoined}
use Rattle.record_join.specs.declared.joins.JoinEnd.{JoinEnd}
use Rattle.command_frame.specs.declared.ending.Ending.{Ending}
use Rattle.command_frame.specs.Endings.{ArePast, HaveTold, IsAllowedEndOfMany}
use Rattle.command_frame.proofs.ManyFiles.{shown_at}
use Rattle.join_command.specs.JoinCommand.{AreTogetherInReach, MayJoin, join_meaning}
use Rattle.join_command.specs.JoiningEnds.{TakeJoined, end_of_join}
use Rattle.join_command.specs.declared.refusals.Refusal.{Refusal}
use Rattle.record_join.specs.declared.joins.JoinEnd.TheVariants as join
use Rattle.record_io.specs.declared.cut.Cut.TheVariants as cut
use Rattle.command_frame.specs.declared.ending.Ending.TheVariants as end

-- what each of them handed out
pub may_join : {S : Type 0} (handed : S → ℕ) (sizes : List ℕ) (before after : List S)
    → ((place : ℕ) (a b : S) (size : ℕ) → slice_get before place ≡ Some a → slice_get after place ≡ Some b → slice_get sizes place ≡ Some size
    → handed b ≤ handed a + 2 * size)
    → MayJoin sizes (map handed before) (map handed after)
may_join handed sizes before after each = λ place x y size was is sized.
    let a = shown_at handed before place x was in
    let b = shown_at handed after place y is in
    omega (arith, each place a.0 b.0 size a.1 b.1 sized, a.2, b.2)

-- how joining ended, where it ended before it was done
pub took-ended : (X : Type 0) (e : JoinEnd) (why : Ending Refusal) (made made_then out : Option (List ℕ)) (all : List (List ℕ))
    → why ≡ end_of_join e → AreTogetherInReach (map length all) → TakesJoined (Err e) all made made_then
    → TakeJoined {X = X} (Err why) all made made_then out out
took-ended X e why made made_then out all is reach took =
    subst (λ (w : Ending Refusal). TakeJoined {X = X} (Err w) all made made_then out out) (sym is) (by_end e took) where
      by_end : (e : JoinEnd) → TakesJoined (Err e) all made made_then → TakeJoined {X = X} (Err (end_of_join e)) all made made_then out out
      by_end (join.Refused index fault) took = (took, refl)
      by_end join.Store front = (inr (reach, front), refl)
      by_end join.Made short = (short, refl)

-- and what the files told then
pub sized-ended : (X : Type 0) (e : JoinEnd) (why : Ending Refusal) (told : List (Option ℕ)) → why ≡ end_of_join e
    → HaveTold told AreTogetherInReach → IsAllowedEndOfMany {X = X} join_meaning (ArePast AreTogetherInReach) (λ _. AreTogetherInReach) (Err why) told
sized-ended X e why told is sized =
    subst (λ (w : Ending Refusal). IsAllowedEndOfMany {X = X} join_meaning (ArePast AreTogetherInReach) (λ _. AreTogetherInReach) (Err w) told) (sym is) (by_end e) where
      by_end : (e : JoinEnd) → IsAllowedEndOfMany {X = X} join_meaning (ArePast AreTogetherInReach) (λ _. AreTogetherInReach) (Err (end_of_join e)) told
      by_end (join.Refused index fault) = sized
      by_end join.Store = refl
      by_end join.Made = (refl, sized)

-- a file failed where the stores are said to have
pub file-failed : (X : Type 0) {A : Type 0} (result : Result Totals JoinEnd) (e : JoinEnd) (why : Ending Refusal) → result ≡ Err e → why ≡ end_of_join e
    → (result ≡ Err join.Store → A) → ◌≡◌ {A = Result X (Ending Refusal)} (Err why) (Err (end.Cut cut.File)) → A
file-failed X {A} result e why ended is then failed = by_end e ended is where
  by_end : (e : JoinEnd) → result ≡ Err e → why ≡ end_of_join e → A
  by_end (join.Refused index fault) ended is = absurd (cc (sym failed ∙ ap Err is))
  by_end join.Store ended is = then ended
  by_end join.Made ended is = absurd (cc (sym failed ∙ ap Err is))
