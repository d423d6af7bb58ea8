-- Promise. What is answered of the one file that a command reads, and what it may take of it. Own.
use Rattle.std.specs.Prelude.{◌≡◌, ℕ, ◌^◌, ◌<◌, ◌≤◌, ◌⊎◌, true, List, [], ◌∷◌, ◌++◌, length, decimal}
use Rattle.std.specs.List.{AllByRecursion, concat}
use lib.Chars.{codes}
use Rattle.record_io.specs.Puts.{Put}
use Rattle.record_values.specs.declared.file_totals.Totals.{Totals}
use Rattle.command_frame.specs.Answers.{Answer, line, noted}
use Rattle.command_frame.specs.Meanings.{Meaning, meaning, none_used}
use Rattle.command_frame.specs.declared.status.Status.{Status}
use Rattle.command_frame.specs.declared.status.Status.TheVariants as status

-- a number behind a name, as a line
abbrev pub count_line : List ℕ → ℕ → List ℕ
count_line name number = line (name ++ 32 ∷ decimal number)

-- the report of a file's totals, of which `bytes` is the length of the file
abbrev pub report : Totals → List ℕ
report totals =
    concat (
    count_line (codes "chunks") totals.chunks
    ∷ count_line (codes "records") totals.records
    ∷ count_line (codes "bytes") totals.bytes
    ∷ count_line (codes "unread") totals.unread
    ∷ []
    )

-- how many bytes a record file may have that is read
abbrev pub most_file_bytes : ℕ
most_file_bytes = 2 ^ 60

-- the line that tells that a file has more
abbrev pub limit_text : List ℕ
limit_text = line (codes "limit file")

-- an answer to the one file that is read, by its size first
abbrev pub OfFile : (List ℕ → Answer → Type 0) → List (List ℕ) → Answer → Type 0
OfFile P (file ∷ []) answer =
    ((most_file_bytes < length file) × (answer ≡ noted status.Limit limit_text))
    ⊎ ((length file ≤ most_file_bytes) × P file answer)
OfFile P files answer = ⊥

-- what was put so far of the one file that is read, by how many bytes it had handed out before and after
abbrev pub OfFileSoFar : ((before after : ℕ) → List ℕ → List Put → Type 0) → List (List ℕ) → (before after : List ℕ) → List Put → Type 0
OfFileSoFar P (file ∷ []) (before ∷ []) (after ∷ []) part = P before after file part
OfFileSoFar P files before after part = ⊥

-- the sizes of the files are that of one, which has so few bytes that it is read
abbrev pub IsInReach : List ℕ → Type 0
IsInReach (size ∷ []) = size ≤ most_file_bytes
IsInReach sizes = ⊥

-- they are that of one, which has more
abbrev pub IsTooLong : List ℕ → Type 0
IsTooLong (size ∷ []) = most_file_bytes < size
IsTooLong sizes = ⊥

-- each file of these sizes has so many bytes at most
abbrev pub AreWithin : ℕ → List ℕ → Type 0
AreWithin most sizes = AllByRecursion (λ size. size ≤ most) sizes

-- how a command may end by the sizes of its files, whatever they hold: with its work done, where these let it work, or at what it
-- doesn't go past, with such a status and text; or with the line of its limit, where they are past that
abbrev pub MayEndBySizes : (past within : List ℕ → Type 0) → (Status → List ℕ → Type 0) → List ℕ → Status → List ℕ → Type 0
MayEndBySizes past within Stops sizes ended text =
    (within sizes × (((ended ≡ status.Ok) × (text ≡ [])) ⊎ Stops ended text))
    ⊎ (past sizes × (ended ≡ status.Limit) × (text ≡ limit_text))

-- what a command means that reads one file and prints, of which these are the answers and what it may have put so far: it takes
-- memory, and says nothing before its end. Each such command tells how it may end, and bounds what it takes of the file if it can
abbrev pub file_meaning : (List ℕ → Answer → Type 0) → ((before after : ℕ) → List ℕ → List Put → Type 0) → Meaning
file_meaning Answers SoFar =
    record (meaning (record none_used { files = true; out = true; memory = true }) (λ r answer. OfFile Answers r.files answer)) {
      may_have_put = λ r before after part. OfFileSoFar SoFar r.files before after part;
      may_work = IsInReach;
      may_take = λ sizes before after. Unit {0};
    }
