-- How a run of a command ends that reads one file and says nothing before its end, by how its work ended.
use Rattle.std.proofs.Common.{◌≡◌, ◌∙◌, ℕ, false, Result, Ok, Err, List, [], ◌∷◌, length, refl, sym, inl, inr, arith, IfSome}
use Rattle.std.specs.Result.{IsErrAnd}
use Rattle.record_io.specs.Outside.{Rose}
use Rattle.record_io.specs.Puts.{Put, Taken, taken_by}
use Rattle.record_io.specs.Seen.{SeenStream, SeenFile}
use Rattle.record_io.proofs.Calls.{Takes-nothing}
use Rattle.show_command.specs.declared.show_words.ShowWords.{ShowWords}
use Rattle.command_frame.specs.declared.ending.Ending.{Ending}
use Rattle.command_frame.specs.declared.status.Status.{Status}
use Rattle.command_frame.specs.Answers.{Answer}
use Rattle.command_frame.specs.Endings.{Endings, IsAllowedEnd, CutsReadingOff, HasPutAtEnd, SaysEnd}
use Rattle.command_frame.specs.Meanings.{Meaning}
use Rattle.command_frame.specs.Runs.{Runs}
use Rattle.command_frame.specs.RunObjects.{seen}
use Rattle.command_frame.specs.PutSoFar.{HasPutSoFar}
use Rattle.show_command.specs.ReadingEnds.{reading_ends}
use Rattle.show_command.specs.Readings.{MayEndReading, refused_text}
use Rattle.show_command.specs.ShowCommand.{IsShown, IsShownSoFar, show_meaning}
use Rattle.show_command.specs.VerifyCommand.{IsVerified, IsVerifiedSoFar, verify_meaning}
use Rattle.command_frame.proofs.FileEnds.{EndsBy, EndsWhole, HasSaid, MayEndInReach, cut-allowed, runs-file}
use Rattle.command_frame.proofs.FileRuns.{ReadsFile, reads_file}
use Rattle.command_frame.proofs.RunEnds.{Keeps}
use Rattle.record_io.specs.declared.cut.Cut.TheVariants as cut
use Rattle.command_frame.specs.declared.ending.Ending.TheVariants as end
use Rattle.command_frame.specs.declared.status.Status.TheVariants as status

-- what holds of a command that reads one file, makes none, says nothing before its end and ends so, of which P are the answers
-- and Q what it may have put so far
pub record IsReading {X W : Type 0} (m : Meaning) (ends : Endings X W) (P : List ℕ → Answer → Type 0) (Q : (before after : ℕ) → List ℕ → List Put → Type 0) : Type 0 where
  pub one : ReadsFile m P Q
  pub by : EndsBy m ends
  pub done : (x : X) → MayEndInReach m (ends.done x) [] × EndsWhole m (ends.done x)
  pub at : (w : W) → MayEndInReach m (ends.status w) (ends.text w)
  pub unmade : m.uses.made ≡ false
  pub says_nothing : (text : List ℕ) → m.may_say text → text ≡ []
  pub may_say : m.may_say []

-- so of one that reads strictly
strict_reads : (m : Meaning) (P : List ℕ → Answer → Type 0) (Q : (before after : ℕ) → List ℕ → List Put → Type 0) → ReadsFile m P Q
    → ((sizes : List ℕ) (ended : Status) (text : List ℕ) → MayEndReading sizes ended text → m.may_end sizes ended text)
    → m.uses.made ≡ false → ((text : List ℕ) → m.may_say text → text ≡ []) → m.may_say [] → IsReading {X = Unit {0}} m reading_ends P Q
strict_reads m P Q one may_end unmade says_nothing may_say = record {
  one = one;
  by = record {
    too_long = λ sizes long. may_end sizes status.Limit _ (inr (long, refl, refl));
    whole = λ fault. (tt, λ before after. tt);
    other = λ fault e. cc e;
  };
  done = λ x. (λ sizes reach. may_end sizes status.Ok [] (inl (reach, inl (refl, refl))), (tt, λ before after. tt));
  at = λ fault sizes reach. may_end sizes status.Refused (refused_text fault) (inl (reach, inr (fault, refl, refl)));
  unmade = unmade;
  says_nothing = says_nothing;
  may_say = may_say;
}

pub show_reads : (words : ShowWords) → IsReading {X = Unit {0}} (show_meaning words) reading_ends (IsShown words) (IsShownSoFar words)
show_reads words =
    strict_reads (show_meaning words) (IsShown words) (IsShownSoFar words)
    (reads_file (IsShown words) (IsShownSoFar words) _ _ _ _ _ refl refl refl refl) (λ sizes ended text may. may) refl (λ text is. is) refl

pub verify_reads : IsReading {X = Unit {0}} verify_meaning reading_ends IsVerified IsVerifiedSoFar
verify_reads =
    strict_reads verify_meaning IsVerified IsVerifiedSoFar
    (reads_file IsVerified IsVerifiedSoFar _ _ _ _ _ refl refl refl refl) (λ sizes ended text may. may) refl (λ text is. is) refl

module _ {X W : Type 0} {ends : Endings X W} (m : Meaning) (P : List ℕ → Answer → Type 0) (Q : (before after : ℕ) → List ℕ → List Put → Type 0) (reads : IsReading m ends P Q)
    (input made : SeenStream) (file file_then grown : SeenFile) (out out_then notes notes_then : SeenStream)
    (keeps : Keeps m (seen input (file ∷ []) made grown out notes) (seen input (file_then ∷ []) made grown out_then notes_then)) where
  abbrev Start : Taken
  Start = taken_by made.bytes out.bytes notes.bytes

  abbrev Read : Taken
  Read = taken_by made.bytes out_then.bytes notes.bytes

  -- standard error can't have cut it off, since nothing is said before the end
  told_all : {A : Type 0} (result : Result X (Ending W)) → IsAllowedEnd m result file_then.told → result ≡ Err (end.Cut cut.Notes) → A
  told_all result allowed is =
      let text = cut-allowed m cut.Notes result file_then.told allowed is in absurd (text.2 (reads.says_nothing text.0 text.1))

  said : (result : Result X (Ending W)) → IsAllowedEnd m result file_then.told → HasSaid m ends result notes.bytes notes.bytes
  said (Ok x) allowed = ([], Takes-nothing notes.bytes, (reads.done x).0, (reads.done x).1)
  said (Err end.Limit) allowed = Takes-nothing notes.bytes
  said (Err (end.At w)) allowed = ([], Takes-nothing notes.bytes, reads.at w)
  said (Err (end.Cut cut.Notes)) allowed = told_all (Err (end.Cut cut.Notes)) allowed refl
  said (Err (end.Cut other)) allowed = ([], Takes-nothing notes.bytes, reads.may_say)

  pub runs-reading : (result : Result X (Ending W)) (ended : Status)
      → IsAllowedEnd m result file_then.told → IfSome file.bytes (λ bytes. IfSome file_then.told (λ size. size ≡ length bytes))
      → IfSome file.bytes (λ bytes. HasPutAtEnd ends P result bytes Start Read [])
      → (IsErrAnd result CutsReadingOff → ¬ Rose out.faults out_then.faults → IfSome file.bytes (λ bytes. HasPutSoFar (Q file.handed file_then.handed bytes) Start Read []))
      → SaysEnd ends result ended notes notes_then
      → (result ≡ Err (end.Cut cut.File) → Rose file.faults file_then.faults)
      → (result ≡ Err (end.Cut cut.Out) → Rose out.faults out_then.faults)
      → Runs m (seen input (file ∷ []) made grown out notes) (seen input (file_then ∷ []) made grown out_then notes_then) ended
  runs-reading result ended allowed exact put so_far says file_rose out_rose =
      runs-file m P Q reads.one input made made file file_then grown out out_then notes notes notes_then keeps ends reads.by result ended allowed exact put
      (λ short sound. so_far short (sound.out reads.one.out)) (said result allowed) says (omega arith) file_rose
      (λ is. absurd (cc (sym reads.unmade ∙ cut-allowed m cut.Made result file_then.told allowed is))) out_rose (told_all result allowed)
