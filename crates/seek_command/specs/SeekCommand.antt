-- Promise. What `seek` prints, says and ends with. Own.
use Rattle.std.specs.Prelude.{◌≡◌, ℕ, ◌⊎◌, Bool, true, Option, Some, None, List, [], ◌∷◌}
use lib.Chars.{codes}
use Rattle.record_io.specs.Puts.{Put, Out, puts_to}
use Rattle.chunk_reader.specs.declared.reasons.Fault.{Fault}
use Rattle.command_frame.specs.Answers.{Answer, line, noted}
use Rattle.command_frame.specs.FileAnswers.{IsInReach, file_meaning}
use Rattle.command_frame.specs.Meanings.{Meaning}
use Rattle.command_frame.specs.declared.status.Status.{Status}
use Rattle.show_command.specs.Readings.{refused_text, record_line, MayEndReading}
use Rattle.show_command.specs.declared.show_words.RecordForm.{RecordForm}
use Rattle.seek_command.specs.Searches.{MayGive, MayRefuse, TakesOf, TakesBySize}
use Rattle.seek_command.specs.declared.seek_words.By.{By}
use Rattle.seek_command.specs.declared.seek_words.SeekWords.{SeekWords}
use Rattle.command_frame.specs.declared.status.Status.TheVariants as status

-- the line that tells that there is no such record
abbrev pub not_found_text : List ℕ
not_found_text = line (codes "not found")

-- a record is printed behind its position, and in the hexadecimal form where that is wanted
abbrev pub found_form : (hex : Bool) → RecordForm
found_form hex = record { positions = true; hex = hex }

-- the answer where a record is found, with its position, and where none is
abbrev pub found_answer : (hex : Bool) → Option (ℕ × List ℕ) → Answer
found_answer hex (Some found) = record { puts = puts_to Out (record_line (found_form hex) found); status = status.Ok }
found_answer hex None = noted status.NotFound not_found_text

-- and where the search is refused
abbrev pub refused_answer : Fault → Answer
refused_answer fault = noted status.Refused (refused_text fault)

-- an answer to a file: by what may be found in it, or by a fault with which the search may be refused
abbrev pub IsSeekAnswer : SeekWords → (file : List ℕ) → Answer → Type 0
IsSeekAnswer words file answer =
    ((found : Option (ℕ × List ℕ)) × MayGive words.by file found × (answer ≡ found_answer words.hex found))
    ⊎ ((fault : Fault) × MayRefuse words.by file fault × (answer ≡ refused_answer fault))

-- nothing is put before the line of the record
abbrev pub IsSeekSoFar : (before after : ℕ) (file : List ℕ) → List Put → Type 0
IsSeekSoFar before after file part = part ≡ []

-- how many bytes the file may hand out, by its size, and by its bytes
abbrev pub MayTakeBySize : By → (sizes before after : List ℕ) → Type 0
MayTakeBySize by (size ∷ []) (before ∷ []) (after ∷ []) = TakesBySize by size before after
MayTakeBySize by sizes before after = ⊥

abbrev pub MayTakeOf : By → (files : List (List ℕ)) → (before after : List ℕ) → Type 0
MayTakeOf by (file ∷ []) (before ∷ []) (after ∷ []) = TakesOf by file before after
MayTakeOf by files before after = ⊥

-- how it may end of a file of such a size, whatever that holds: as strict reading may, or without a record
abbrev pub MayEndSeek : List ℕ → Status → List ℕ → Type 0
MayEndSeek sizes ended text =
    MayEndReading sizes ended text ⊎ (IsInReach sizes × (ended ≡ status.NotFound) × (text ≡ not_found_text))

-- what `seek` means
abbrev pub seek_meaning : SeekWords → Meaning
seek_meaning words = record (file_meaning (IsSeekAnswer words) IsSeekSoFar) {
  may_take = MayTakeBySize words.by;
  may_take_of = λ r before after. MayTakeOf words.by r.files before after;
  may_end = MayEndSeek;
}
