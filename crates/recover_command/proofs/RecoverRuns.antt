-- `show` walks one file past its damage, and its ends are those that it may have.
use Rattle.std.proofs.Common.{◌≡◌, ℕ, Option, Result, Ok, Err, List, [], ◌∷◌, length, refl, sym, ap, subst, arith, IsSomeAnd}
use Rattle.std.specs.Result.{IsErr, IsErrAnd}
use Rattle.record_io.specs.Puts.{Taken}
use Rattle.damage_skip.proofs.BoundedWalks.{MaySkipEach}
use Rattle.damage_skip.specs.Regions.{regions_in}
use Rattle.damage_skip.specs.Walks.{piece_of, event_text}
use Rattle.damage_skip.proofs.RegionsIn.{skipped_text-event}
use Rattle.recover_command.proofs.RecoverSteps.{by_stream}
use Rattle.recover_command.specs.RecoverProgress.{end_of_walk, event_lines, PrintsEvent}
use Rattle.damage_skip.specs.declared.events.Event.{Event}
use Rattle.damage_skip.specs.declared.events.WalkEnd.{WalkEnd}
use Rattle.damage_skip.specs.declared.regions.Region.{Region}
use Rattle.recover_command.specs.declared.recover_words.RecoverWords.{RecoverWords}
use Rattle.command_frame.specs.declared.ending.Ending.{Ending}
use Rattle.command_frame.specs.declared.status.Status.{Status}
use Rattle.command_frame.specs.Endings.{IsAllowedEnd}
use Rattle.command_frame.specs.FileAnswers.{IsInReach}
use Rattle.recover_command.specs.RecoverCommand.{IsRecovered, IsRecoveredSoFar, recover_meaning}
use Rattle.command_frame.proofs.FileRuns.{reads_file}
use Rattle.recover_command.proofs.WalkRuns.{IsWalking}
use Rattle.damage_skip.specs.declared.events.WalkEnd.TheVariants as walk

pub recover_walks : (words : RecoverWords) → IsWalking (recover_meaning words) (IsRecovered words) (IsRecoveredSoFar words) words.most
recover_walks words = record {
  one = reads_file (IsRecovered words) (IsRecoveredSoFar words) _ _ _ _ _ refl refl refl refl;
  may_end = λ sizes ended text may. may;
  may_say = λ text may. may;
}

-- an event fails by a sink that takes what is printed or told
pub step-allowed : (X : Type 0) (words : RecoverWords) (b c : Taken) (held held_then : List ℕ) (e : Event) (failed : Ending Region)
    (result : Result Status (Ending Region)) (told : Option ℕ) → IsErr result → IsErrAnd result (λ made. made ≡ failed)
    → MaySkipEach words.most (piece_of e ∷ []) → PrintsEvent {X = X} (Err failed) (event_lines words e) (event_text e) b c held held_then
    → IsSomeAnd told (λ size. IsInReach (size ∷ []))
    → IsAllowedEnd (recover_meaning words) result told
step-allowed X words b c held held_then e failed (Ok x) told err is passed gives reach = absurd (cc err)
step-allowed X words b c held held_then e failed (Err made) told err is passed gives reach =
    subst (λ (x : Ending Region). IsAllowedEnd {X = Status} (recover_meaning words) (Err x) told) (sym is)
    (by_stream X (λ x. IsAllowedEnd {X = Status} (recover_meaning words) (Err x) told) failed (event_lines words e) (event_text e) b c held held_then gives
    (λ _. (refl, reach))
    (λ gave.
    ((event_text e, (regions_in (piece_of e ∷ []), passed, sym (skipped_text-event [] e)), λ none. omega (arith, gave.1, ap length none)), reach)))

-- or by the walk
pub walk-allowed : (words : RecoverWords) (e : WalkEnd) (why : Ending Region) (told : Option ℕ) → why ≡ end_of_walk e
    → IsSomeAnd told (λ size. IsInReach (size ∷ [])) → IsAllowedEnd {X = Status} (recover_meaning words) (Err why) told
walk-allowed words e why told is reach =
    subst (λ (x : Ending Region). IsAllowedEnd {X = Status} (recover_meaning words) (Err x) told) (sym is) (by_end e) where
      by_end : (e : WalkEnd) → IsAllowedEnd {X = Status} (recover_meaning words) (Err (end_of_walk e)) told
      by_end (walk.Stopped region) = reach
      by_end walk.Store = refl
      by_end walk.Memory = (refl, reach)
