-- The answers of `append`: each old file of bytes has one, and what each stream takes of it.
use Rattle.std.proofs.Common.{if◌then◌else◌, ◌≡◌, ◌∙◌, ℕ, Bool, true, false, Option, Some, None, ◌⊎◌, List, [], ◌∷◌, length, refl, sym, ap, subst, inl, inr}
use Rattle.std.specs.Prelude.{is_some}
use Rattle.record_values.specs.Bytes.{AreBytes}
use Rattle.record_io.specs.Puts.{Made, Out, Notes, bytes_to}
use Rattle.record_io.proofs.Puts.{bytes_to-own, bytes_to-other}
use Rattle.chunk_reader.specs.Faults.{HasNoFault, IsFault}
use Rattle.chunk_reader.specs.declared.reasons.Fault.{Fault}
use Rattle.chunk_reader.specs.declared.reasons.Why.{Why}
use Rattle.chunk_reader.specs.declared.reasons.Why.TheVariants as why
use Rattle.chunk_reader.proofs.FaultsDecided.{file_judged}
use Rattle.chunk_reader.proofs.FileFaults.{fault_is_one}
use Rattle.record_writer.specs.Feeds.{Rest}
use Rattle.record_writer.specs.declared.feed.Stop.{Stop}
use Rattle.record_append.specs.Grown.{IsRefusedToGrow, IsUnrefused, RefusesFor}
use Rattle.record_append.proofs.GrownFiles.{empty_taken, kept_once, kept_somewhere, taken_whole}
use Rattle.command_frame.specs.Answers.{Answer, noted}
use Rattle.command_frame.specs.FileAnswers.{OfFile}
use Rattle.command_frame.proofs.OneAnswer.{of_file_exists}
use Rattle.show_command.specs.Readings.{refused_text}
use Rattle.write_command.specs.WriteCommand.{stop_text}
use Rattle.riegeli_tool.specs.AppendCommand.{IsAppended, grown_answer, grown_puts, grown_text}
use Rattle.riegeli_tool.specs.declared.append_words.AppendWords.{AppendWords}
use Rattle.command_frame.specs.declared.status.Status.TheVariants as status

refuses_decided : (cut : Bool) (reason : Why) → RefusesFor cut reason ⊎ (¬ RefusesFor cut reason)
refuses_decided cut why.NoSignature = inl (inl refl)
refuses_decided cut why.Short = inr (λ r. elim r [ inl same ↦ cc same | inr h ↦ h.1 refl ])
refuses_decided cut why.Truncated = inr (λ r. elim r [ inl same ↦ cc same | inr h ↦ h.2 refl ])
refuses_decided true other = inr (λ r. elim r [ inl same ↦ cc same | inr h ↦ cc h.0 ])
refuses_decided false other = inl (inr (refl, (λ e. cc e), (λ e. cc e)))

-- an old file is refused or not
judged_by : (cut : Bool) (b : ℕ) (bytes : List ℕ) → (HasNoFault true (b ∷ bytes)) ⊎ ((fault : Fault) × IsFault true (b ∷ bytes) fault)
    → ((fault : Fault) × IsRefusedToGrow cut (b ∷ bytes) fault) ⊎ IsUnrefused cut (b ∷ bytes)
judged_by cut b bytes (inl (ks, whole)) = inr (taken_whole cut ks (b ∷ bytes) whole)
judged_by cut b bytes (inr (fault, is)) = elim (refuses_decided cut fault.why) [
  | inl refuses ↦ inl (fault, record { some = λ none. absurd cc; is_fault = is; reason = refuses })
  | inr not ↦ inr (λ own refused.
      not (subst (λ (f : Fault). RefusesFor cut f.why) (fault_is_one true (b ∷ bytes) own fault refused.is_fault is) refused.reason))
]

pub refused_or_taken : (cut : Bool) (file : List ℕ) → AreBytes file → ((fault : Fault) × IsRefusedToGrow cut file fault) ⊎ IsUnrefused cut file
refused_or_taken cut [] bytes = inr (empty_taken cut).1
refused_or_taken cut (b ∷ rest) bytes = judged_by cut b rest (file_judged true (b ∷ rest) bytes)

-- there is one answer
pub one_appended : (words : AppendWords) (rest : Rest) (file : List ℕ) (a b : Answer) → IsAppended words rest file a → IsAppended words rest file b → a ≡ b
one_appended words rest file a b (inl (fault, refused, is)) (inl (other, again, also)) =
    is ∙ ap (λ (f : Fault). noted status.Refused (refused_text f)) (fault_is_one true file fault other refused.is_fault again.is_fault) ∙ sym also
one_appended words rest file a b (inl (fault, refused, is)) (inr (place, taken, kept, also)) = absurd (taken fault refused)
one_appended words rest file a b (inr (place, taken, kept, is)) (inl (fault, refused, also)) = absurd (taken fault refused)
one_appended words rest file a b (inr (place, taken, kept, is)) (inr (other, again, there, also)) =
    is ∙ ap (λ (p : ℕ). grown_answer words file p rest) (kept_once file place other kept there) ∙ sym also

pub appended_exists : (words : AppendWords) (rest : Rest) (file : List ℕ) → AreBytes file → (answer : Answer) × IsAppended words rest file answer
appended_exists words rest file bytes = elim (refused_or_taken words.cut file bytes) [
  | inl (fault, refused) ↦ (noted status.Refused (refused_text fault), inl (fault, refused, refl))
  | inr taken ↦ (
      let kept = kept_somewhere file bytes in
      (grown_answer words file kept.0 rest, inr (kept.0, taken, kept.1, refl))
      )
]

pub grown_exists : (words : AppendWords) (rest : Rest) (file : List ℕ) → AreBytes file
    → (answer : Answer) × OfFile (IsAppended words rest) (file ∷ []) answer
grown_exists words rest file bytes = of_file_exists (IsAppended words rest) (appended_exists words rest) (file ∷ []) refl (bytes, tt)

-- of the puts at the end
end_made : (stop : Option Stop) (told : List ℕ) (count : ℕ) → bytes_to Made (grown_puts stop told count) ≡ []
end_made None told count = bytes_to-other Made Out told refl
end_made (Some stop) told count = bytes_to-other Made Notes (stop_text count (Some stop)) refl

end_out : (stop : Option Stop) (told : List ℕ) (count : ℕ) → bytes_to Out (grown_puts stop told count) ≡ (if is_some stop then [] else told)
end_out None told count = bytes_to-own Out told
end_out (Some stop) told count = bytes_to-other Out Notes (stop_text count (Some stop)) refl

end_notes : (stop : Option Stop) (told : List ℕ) (count : ℕ) → bytes_to Notes (grown_puts stop told count) ≡ stop_text count stop
end_notes None told count = bytes_to-other Notes Out told refl
end_notes (Some stop) told count = bytes_to-own Notes (stop_text count (Some stop))

pub grown-streams : (words : AppendWords) (file : List ℕ) (place : ℕ) (rest : Rest)
    → (bytes_to Made (grown_answer words file place rest).puts ≡ [])
    × (bytes_to Out (grown_answer words file place rest).puts ≡ (if is_some rest.stop then [] else grown_text words file place rest.records))
    × (bytes_to Notes (grown_answer words file place rest).puts ≡ stop_text (length rest.records) rest.stop)
grown-streams words file place rest =
    let told : List ℕ = grown_text words file place rest.records in
    (end_made rest.stop told (length rest.records), end_out rest.stop told (length rest.records), end_notes rest.stop told (length rest.records))
