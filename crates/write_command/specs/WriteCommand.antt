-- Promise. What `write` makes, says and ends with. Own.
use Rattle.std.specs.Prelude.{◌≡◌, ℕ, ◌^◌, Option, Some, None, List, [], ◌++◌, length, decimal, true}
use lib.Chars.{codes}
use Rattle.record_io.specs.Puts.{Put, Made, Notes, puts_to}
use Rattle.record_writer.specs.declared.feed.Stop.{Stop}
use Rattle.record_writer.specs.declared.feed.Stop.TheVariants.{TooLong, InputTooLong, BadLine}
use Rattle.record_writer.specs.Feeds.{Rest}
use Rattle.record_writer.specs.Written.{file_under}
use Rattle.write_command.specs.declared.write_words.WriteWords.{WriteWords}
use Rattle.command_frame.specs.declared.status.Status.{Status}
use Rattle.command_frame.specs.Answers.{Answer, line}
use Rattle.write_command.specs.Input.{most_input_taken, taken_from}
use Rattle.command_frame.specs.Meanings.{Meaning, meaning, none_used}
use Rattle.command_frame.specs.declared.status.Status.TheVariants as status

-- the line that tells a stop behind so many records, and nothing where there was no stop
abbrev pub stop_text : ℕ → Option Stop → List ℕ
stop_text count None = []
stop_text count (Some TooLong) = line (codes "limit record " ++ decimal count)
stop_text count (Some InputTooLong) = line (codes "limit input")
stop_text count (Some BadLine) = line (codes "bad line " ++ decimal count)

-- the status by the stop
abbrev pub stop_status : Option Stop → Status
stop_status None = status.Ok
stop_status (Some TooLong) = status.Limit
stop_status (Some InputTooLong) = status.Limit
stop_status (Some BadLine) = status.BadLine

-- the answer to records and the stop behind them: the file of the records, and the stop's line
abbrev pub answer_to : WriteWords → Rest → Answer
answer_to words rest = record {
  puts = puts_to Made (file_under words.options rest.records) ++ puts_to Notes (stop_text (length rest.records) rest.stop);
  status = stop_status rest.stop;
}

-- the answer to an input, of which 2 ^ 40 bytes are read
abbrev pub write_answer : WriteWords → List ℕ → Answer
write_answer words input = answer_to words (taken_from input words.hex (2 ^ 40))

-- what was put so far: a front of what the answer puts
abbrev pub IsWrittenSoFar : WriteWords → List ℕ → List Put → Type 0
IsWrittenSoFar words input part = (rest : List Put) × ((write_answer words input).puts ≡ part ++ rest)

-- how `write` may end, whatever its input: without a stop, or with one behind some records
abbrev pub MayEndWrite : Status → List ℕ → Type 0
MayEndWrite ended text = (count : ℕ) × (stop : Option Stop) × (ended ≡ stop_status stop) × (text ≡ stop_text count stop)

-- what `write` means
abbrev pub write_meaning : WriteWords → Meaning
write_meaning words =
    record (meaning (record none_used { input = true; made = true; memory = true }) (λ r answer. answer ≡ write_answer words r.input)) {
      may_have_put = λ r before after part. IsWrittenSoFar words r.input part;
      may_end = λ sizes ended text. MayEndWrite ended text;
      most_taken = most_input_taken;
    }
