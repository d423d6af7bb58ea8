-- How a run of a command ends that walks a file past its damage, by how its walk ended.
use Rattle.std.proofs.Common.{◌≡◌, ◌≢◌, ℕ, ◌≤◌, false, Option, Some, None, Result, Ok, Err, List, [], ◌∷◌, length, refl, sym, subst, inl, inr, IfSome}
use Rattle.std.specs.List.{AllByRecursion}
use Rattle.std.specs.Result.{IsErr, IsErrAnd}
use Rattle.std.proofs.lemmas.List.{append-nil}
use Rattle.record_io.specs.Outside.{Rose, Takes, TakesShort}
use Rattle.record_io.specs.Puts.{Put, Taken, taken_by}
use Rattle.record_io.specs.Seen.{SeenStream, SeenFile}
use Rattle.record_io.proofs.Calls.{Takes-nothing, TakesShort-some}
use Rattle.damage_skip.specs.declared.regions.Region.{Region}
use Rattle.command_frame.specs.declared.ending.Ending.{Ending}
use Rattle.command_frame.specs.declared.sizes.SizeEnd.{SizeEnd}
use Rattle.command_frame.specs.declared.status.Status.{Status}
use Rattle.command_frame.specs.Answers.{Answer}
use Rattle.command_frame.specs.Endings.{end_of_size, IsAllowedEnd, CutsReadingOff, HasPutAtEnd, SaysEnd}
use Rattle.command_frame.specs.FileSizes.{IsUnsized}
use Rattle.damage_skip.specs.Bounds.{may_skip, MaySkip}
use Rattle.damage_skip.specs.Regions.{skipped_text, walk_text}
use Rattle.recover_command.specs.WalkAnswers.{walk_status, MaySayWalk, MayEndWalk}
use Rattle.command_frame.specs.Meanings.{Meaning}
use Rattle.command_frame.specs.Runs.{Runs}
use Rattle.command_frame.specs.RunObjects.{Seen, seen, HadNoSinkFault}
use Rattle.command_frame.specs.PutSoFar.{HasPutSoFar}
use Rattle.recover_command.specs.WalkingEnds.{walk_ends, TellsOf}
use Rattle.command_frame.proofs.FileEnds.{EndsBy, EndsWhole, HasSaid, MayEndInReach, runs-file}
use Rattle.command_frame.proofs.FileRuns.{ReadsFile}
use Rattle.command_frame.proofs.RunEnds.{Keeps}
use Rattle.record_io.specs.declared.cut.Cut.TheVariants as cut
use Rattle.command_frame.specs.declared.ending.Ending.TheVariants as end
use Rattle.command_frame.specs.declared.sizes.SizeEnd.TheVariants as size
use Rattle.command_frame.specs.declared.status.Status.TheVariants as status

-- what holds of a command that walks one file past its damage, of which P are the answers
pub record IsWalking (m : Meaning) (P : List ℕ → Answer → Type 0) (Q : (before after : ℕ) → List ℕ → List Put → Type 0) (most : Option ℕ) : Type 0 where
  pub one : ReadsFile m P Q
  pub may_end : (sizes : List ℕ) (ended : Status) (text : List ℕ) → MayEndWalk most sizes ended text → m.may_end sizes ended text
  pub may_say : (text : List ℕ) → MaySayWalk most text → m.may_say text

-- of a file that may not be walked nothing was told
pub tells-unsized : (most : Option ℕ) (told : Option ℕ) (bytes : Option (List ℕ)) (m n : ℕ) (notes : Option (List ℕ)) (e : SizeEnd) (result : Result Status (Ending Region))
    → IsErr result → IsErrAnd result (λ end. end ≡ end_of_size e) → IsUnsized e told bytes m n → TellsOf most result notes notes
tells-unsized most told bytes m n notes e (Ok x) err is why = absurd (cc err)
tells-unsized most told bytes m n notes size.Limit (Err ended) err is why =
    subst (λ (x : Ending Region). TellsOf most (Err x) notes notes) (sym is) (Takes-nothing notes)
tells-unsized most told bytes m n notes size.File (Err ended) err is why =
    subst (λ (x : Ending Region). TellsOf most (Err x) notes notes) (sym is) ([], record { may = tt; says = Takes-nothing notes })

-- lines that notes failed to take may be said
pub untold-may : (most : Option ℕ) (notes notes_then : Option (List ℕ)) → TellsOf most (Err (end.Cut cut.Notes)) notes notes_then
    → (text : List ℕ) × MaySayWalk most text × (text ≢ [])
untold-may most notes notes_then (skipped, each, short) =
    (skipped_text skipped, (skipped, each, refl), TakesShort-some notes notes_then (skipped_text skipped) short)

-- a walk that is done ends whole, whatever was skipped
walk_whole : (m : Meaning) (skipped : List Region) → EndsWhole m (walk_status skipped None)
walk_whole m [] = (tt, λ before after. tt)
walk_whole m (region ∷ skipped) = (tt, λ before after. tt)

module _ (m : Meaning) (P : List ℕ → Answer → Type 0) (Q : (before after : ℕ) → List ℕ → List Put → Type 0) (most : Option ℕ) (walks : IsWalking m P Q most) where
  ends : EndsBy m walk_ends
  ends = record {
    too_long = λ sizes long. walks.may_end sizes status.Limit _ (inr (long, refl, refl));
    whole = λ region. (tt, λ before after. tt);
    other = λ region e. cc e;
  }

  -- it may end so, by the size
  may : (skipped : List Region) (stopped : Option Region) → AllByRecursion (MaySkip most) skipped → IfSome stopped (λ region. may_skip most region ≡ false)
      → MayEndInReach m (walk_status skipped stopped) (walk_text skipped stopped)
  may skipped stopped each refused sizes reach =
      walks.may_end sizes (walk_status skipped stopped) (walk_text skipped stopped) (inl (reach, skipped, stopped, each, refused, refl, refl))

  said : (result : Result Status (Ending Region)) (notes notes_then : Option (List ℕ)) → TellsOf most result notes notes_then
      → HasSaid m walk_ends result notes notes_then
  said (Ok done) notes notes_then (skipped, told, is) = (
    walk_text skipped None,
    subst (λ (t : List ℕ). Takes notes notes_then t) (sym (append-nil (skipped_text skipped))) told.says,
    subst (λ (s : Status). MayEndInReach m s (walk_text skipped None)) (sym is) (may skipped None told.may tt),
    subst (EndsWhole m) (sym is) (walk_whole m skipped),
  )
  said (Err end.Limit) notes notes_then took = took
  said (Err (end.At region)) notes notes_then (skipped, told, refused) =
      (skipped_text skipped, told.says, may skipped (Some region) told.may refused)
  said (Err (end.Cut cut.Input)) notes notes_then (skipped, told) = (skipped_text skipped, told.says, walks.may_say _ (skipped, told.may, refl))
  said (Err (end.Cut cut.File)) notes notes_then (skipped, told) = (skipped_text skipped, told.says, walks.may_say _ (skipped, told.may, refl))
  said (Err (end.Cut cut.Made)) notes notes_then (skipped, told) = (skipped_text skipped, told.says, walks.may_say _ (skipped, told.may, refl))
  said (Err (end.Cut cut.Grown)) notes notes_then (skipped, told) = (skipped_text skipped, told.says, walks.may_say _ (skipped, told.may, refl))
  said (Err (end.Cut cut.Out)) notes notes_then (skipped, told) = (skipped_text skipped, told.says, walks.may_say _ (skipped, told.may, refl))
  said (Err (end.Cut cut.Notes)) notes notes_then (skipped, each, short) = (
    walk_status skipped None,
    walk_text skipped None,
    subst (λ (t : List ℕ). TakesShort notes notes_then t) (sym (append-nil (skipped_text skipped))) short,
    may skipped None each tt,
  )
  said (Err (end.Cut cut.Memory)) notes notes_then (skipped, told) = (skipped_text skipped, told.says, walks.may_say _ (skipped, told.may, refl))

  module _ (input made made_then : SeenStream) (file file_then grown : SeenFile) (out out_then notes mid notes_then : SeenStream)
      (keeps : Keeps m (seen input (file ∷ []) made grown out notes) (seen input (file_then ∷ []) made_then grown out_then notes_then)) where
    abbrev Before : Seen
    Before = seen input (file ∷ []) made grown out notes

    abbrev After : Seen
    After = seen input (file_then ∷ []) made_then grown out_then notes_then

    -- what the sinks had taken before the walk, and when it had ended
    abbrev Start : Taken
    Start = taken_by made.bytes out.bytes notes.bytes

    abbrev Walked : Taken
    Walked = taken_by made_then.bytes out_then.bytes mid.bytes

    pub runs-walking : (result : Result Status (Ending Region)) (ended : Status)
        → IsAllowedEnd m result file_then.told
        → IfSome file.bytes (λ bytes. IfSome file_then.told (λ size. size ≡ length bytes))
        → IfSome file.bytes (λ bytes. HasPutAtEnd walk_ends P result bytes Start Walked [])
        → (IsErrAnd result CutsReadingOff → HadNoSinkFault m.uses Before After → IfSome file.bytes (λ bytes. HasPutSoFar (Q file.handed file_then.handed bytes) Start Walked []))
        → TellsOf most result notes.bytes mid.bytes → SaysEnd walk_ends result ended mid notes_then → notes.faults ≤ mid.faults
        → (result ≡ Err (end.Cut cut.File) → Rose file.faults file_then.faults)
        → (result ≡ Err (end.Cut cut.Made) → Rose made.faults made_then.faults)
        → (result ≡ Err (end.Cut cut.Out) → Rose out.faults out_then.faults)
        → (result ≡ Err (end.Cut cut.Notes) → Rose notes.faults mid.faults)
        → Runs m Before After ended
    runs-walking result ended allowed exact put so_far told says less file_rose made_rose out_rose notes_rose =
        runs-file m P Q walks.one input made made_then file file_then grown out out_then notes mid notes_then keeps walk_ends ends result ended allowed exact put
        so_far (said result notes.bytes mid.bytes told) says less file_rose made_rose out_rose notes_rose
