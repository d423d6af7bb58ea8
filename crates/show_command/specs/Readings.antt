-- Promise. What strict reading of a record file takes, prints and says. Own.
use Rattle.std.specs.Prelude.{◌≡◌, ℕ, ◌+◌, ◌≤◌, Bool, false, Option, Some, None, List, [], ◌∷◌, ◌++◌, decimal, if◌then◌else◌}
use lib.Chars.{codes}
use Rattle.hex.specs.Hex.{encode_lower}
use Rattle.chunk_reader.specs.declared.reasons.Fault.{Fault}
use Rattle.chunk_reader.specs.Names.{name_of}
use Rattle.show_command.specs.declared.show_words.RecordForm.{RecordForm}
use Rattle.command_frame.specs.declared.status.Status.{Status}
use Rattle.command_frame.specs.Answers.{line}
use Rattle.command_frame.specs.FileAnswers.{IsInReach, IsTooLong, MayEndBySizes}
use Rattle.command_frame.specs.declared.status.Status.TheVariants as status

-- what tells a file before its fault: nothing where one alone is read, and of one of several its number from 0
abbrev pub file_text : Option ℕ → List ℕ
file_text None = []
file_text (Some index) = decimal index ++ 32 ∷ []

-- the line that tells a fault
abbrev pub refusal_line : Option ℕ → Fault → List ℕ
refusal_line file fault = codes "refused " ++ file_text file ++ line (decimal fault.at ++ 32 ∷ name_of fault.why)

abbrev pub refused_text : Fault → List ℕ
refused_text fault = refusal_line None fault

abbrev pub refused_file_text : ℕ → Fault → List ℕ
refused_file_text index fault = refusal_line (Some index) fault

-- records as they are, and nothing before them
abbrev pub bare : RecordForm
bare = record { positions = false; hex = false }

-- what is printed before a record: its position where that is wanted
abbrev pub position_text : Bool → ℕ → List ℕ
position_text positions position = if positions then decimal position ++ 32 ∷ [] else []

-- what is printed of its bytes: themselves, or their digits in the hexadecimal form
abbrev pub bytes_text : Bool → List ℕ → List ℕ
bytes_text hex bytes = if hex then encode_lower bytes else bytes

-- a record as a line
abbrev pub record_line : RecordForm → ℕ × List ℕ → List ℕ
record_line form placed = line (position_text form.positions placed.0 ++ bytes_text form.hex placed.1)

-- how many bytes of a file of such a size strict reading hands out at most, whatever it holds: in sum as many as it has
abbrev pub MayTakeOnce : (sizes before after : List ℕ) → Type 0
MayTakeOnce (size ∷ []) (before ∷ []) (after ∷ []) = after ≤ before + size
MayTakeOnce sizes before after = ⊥

-- how strict reading of a file of such a size may end, whatever it holds: done, with any fault, or as the file is too long
abbrev pub MayEndReading : List ℕ → Status → List ℕ → Type 0
MayEndReading =
    MayEndBySizes IsTooLong IsInReach (λ ended text. (fault : Fault) × (ended ≡ status.Refused) × (text ≡ refused_text fault))
