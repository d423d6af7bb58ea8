-- Promise. What `sample` makes, prints and ends with. Own.
use Rattle.std.specs.Prelude.{◌≡◌, ℕ, true, List, [], ◌∷◌, ◌++◌, length, take}
use Rattle.std.specs.List.{concat}
use lib.Chars.{codes}
use Rattle.record_io.specs.Puts.{Put, Made, Out, puts_to}
use Rattle.record_writer.specs.Written.{file_under}
use Rattle.sample_command.specs.declared.sample_words.SampleWords.{SampleWords}
use Rattle.sample_command.specs.Generator.{sample_of}
use Rattle.command_frame.specs.Answers.{Answer}
use Rattle.command_frame.specs.FileAnswers.{count_line}
use Rattle.command_frame.specs.Meanings.{Meaning, meaning, none_used}
use Rattle.command_frame.specs.declared.status.Status.TheVariants as status

-- the most records of a sample
abbrev pub most_records : ℕ
most_records = 1000000

-- the records
abbrev pub sampled : SampleWords → List (List ℕ)
sampled words = sample_of words.seed words.count

-- the file of them
abbrev pub sample_file : SampleWords → List ℕ
sample_file words = file_under words.options (sampled words)

-- how many records and bytes a file has, each as a line
abbrev pub summary : (records bytes : ℕ) → List ℕ
summary records bytes = concat (count_line (codes "records") records ∷ count_line (codes "bytes") bytes ∷ [])

-- that of the file
abbrev pub sample_summary : SampleWords → List ℕ
sample_summary words = summary (length (sampled words)) (length (sample_file words))

-- the answer: the file, and its summary behind it
abbrev pub sample_answer : SampleWords → Answer
sample_answer words = record { puts = puts_to Made (sample_file words) ++ puts_to Out (sample_summary words); status = status.Ok }

-- what was put so far: a front of the file
abbrev pub IsSampledSoFar : SampleWords → List Put → Type 0
IsSampledSoFar words part = (count : ℕ) × (part ≡ puts_to Made (take count (sample_file words)))

-- what `sample` means
abbrev pub sample_meaning : SampleWords → Meaning
sample_meaning words =
    record (meaning (record none_used { made = true; out = true; memory = true }) (λ r answer. answer ≡ sample_answer words)) {
      may_have_put = λ r before after part. IsSampledSoFar words part;
      may_end = λ sizes ended text. (ended ≡ status.Ok) × (text ≡ []);
    }
