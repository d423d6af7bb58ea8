-- Promise. What `collect` makes, prints, says and ends with. Own.
use Rattle.std.specs.Prelude.{◌≡◌, ℕ, ◌⊎◌, false, true, None, List, [], ◌∷◌, ◌++◌, decimal, length, map, slice_index, take}
use Rattle.std.specs.List.{enumerate_from, flat_map}
use lib.Chars.{codes}
use Rattle.record_io.specs.Puts.{Put, Made, Out, puts_to}
use Rattle.chunk_reader.specs.Faults.{IsFirstFault}
use Rattle.chunk_reader.specs.declared.reasons.Fault.{Fault}
use Rattle.record_group.specs.Groups.{file_of}
use Rattle.record_group.specs.declared.pad.Pad.TheVariants.{No}
use Rattle.record_collect.specs.FilePlaces.{places_in_file}
use Rattle.record_collect.specs.Gatherings.{AreGatheredOf, IsTooMuch, GatheredValue}
use Rattle.command_frame.specs.Writing.{default_chunk_size}
use Rattle.command_frame.specs.Answers.{Answer, line, noted}
use Rattle.command_frame.specs.FileAnswers.{AreWithin, MayEndBySizes, limit_text, most_file_bytes}
use Rattle.command_frame.specs.Meanings.{Meaning, meaning, none_used}
use Rattle.command_frame.specs.declared.status.Status.TheVariants as status
use Rattle.show_command.specs.Readings.{refused_file_text}

-- the file of collected records: their chunks have the size that they have where none is named, and it isn't padded
abbrev pub collected_file : List (List ℕ) → List ℕ
collected_file records = file_of records default_chunk_size None No

-- the line of a record: the number of the file that it was read from, and its position in the made file
abbrev pub place_line : ℕ → ℕ → List ℕ
place_line file place = line (decimal file ++ 32 ∷ decimal place)

-- the lines of a file's records: the file's number, and those of its records among all, which stand at these positions
abbrev pub file_lines : List ℕ → ℕ × List ℕ → List ℕ
file_lines places file = flat_map (λ number. place_line file.0 (slice_index places number)) file.1

-- the lines of all files, one file behind another
abbrev pub files_lines : List ℕ → List (List ℕ) → List ℕ
files_lines places numbers = flat_map (file_lines places) (enumerate_from 0 numbers)

-- those of gathered records
abbrev pub collected_lines : GatheredValue → List ℕ
collected_lines made = files_lines (places_in_file made.records default_chunk_size) made.numbers

-- the line that tells that the records of files are too many to be collected
abbrev pub too_much_text : List ℕ
too_much_text = line (codes "limit collect")

-- the answer that makes the file of gathered records and prints where each stands there
abbrev pub collected_answer : GatheredValue → Answer
collected_answer made = record { puts = puts_to Made (collected_file made.records) ++ puts_to Out (collected_lines made); status = status.Ok }

-- none of the files has a fault: the file of their records, in one of the orders that these may be gathered in, and where each
-- record stands in it
pub record AreCollectedIn (files : List (List ℕ)) (answer : Answer) : Type 0 where
  pub made : GatheredValue
  pub gathered : AreGatheredOf files made
  pub is : answer ≡ collected_answer made

-- one is the first with a fault: the line of that
pub record AreOnlyRefusedIn (files : List (List ℕ)) (answer : Answer) : Type 0 where
  pub index : ℕ
  pub fault : Fault
  pub first : IsFirstFault false files index fault
  pub is : answer ≡ noted status.Refused (refused_file_text index fault)

-- their records are too many: the line that tells this
abbrev pub AreTooMuchIn : List (List ℕ) → Answer → Type 0
AreTooMuchIn files answer = IsTooMuch files × (answer ≡ noted status.Limit too_much_text)

-- an answer to files, by their sizes first
abbrev pub IsCollectAnswer : List (List ℕ) → Answer → Type 0
IsCollectAnswer files answer =
    (¬ AreWithin most_file_bytes (map length files) × (answer ≡ noted status.Limit limit_text))
    ⊎ (AreWithin most_file_bytes (map length files) × (AreCollectedIn files answer ⊎ AreOnlyRefusedIn files answer ⊎ AreTooMuchIn files answer))

-- what was put so far: nothing, or so many bytes of the file of their records
abbrev pub IsCollectedSoFar : List (List ℕ) → List Put → Type 0
IsCollectedSoFar files part =
    (part ≡ []) ⊎ ((made : GatheredValue) × AreGatheredOf files made × (count : ℕ) × (part ≡ puts_to Made (take count (collected_file made.records))))

-- what `collect` means: the order of the records is left open, and so it may have several answers; whatever its files hold, it may
-- end with a fault of one, or as the records are too many
abbrev pub collect_meaning : Meaning
collect_meaning =
    record (meaning (record none_used { files = true; made = true; out = true; memory = true }) (λ r answer. IsCollectAnswer r.files answer)) {
      may_have_put = λ r before after part. IsCollectedSoFar r.files part;
      may_work = AreWithin most_file_bytes;
      may_take = λ sizes before after. Unit {0};
      may_end = MayEndBySizes (λ sizes. ¬ AreWithin most_file_bytes sizes) (AreWithin most_file_bytes)
          (λ ended text. ((index : ℕ) × (fault : Fault) × (ended ≡ status.Refused) × (text ≡ refused_file_text index fault))
          ⊎ ((ended ≡ status.Limit) × (text ≡ too_much_text)));
    }
