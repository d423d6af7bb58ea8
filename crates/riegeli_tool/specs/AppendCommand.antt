-- Promise. What `append` leaves, prints, says and ends with. Own.
use Rattle.std.specs.Prelude.{◌≡◌, ◌≢◌, ℕ, ◌-◌, ◌^◌, ◌<◌, ◌≤◌, ◌⊎◌, Bool, true, Option, Some, None, List, [], ◌∷◌, length}
use Rattle.std.specs.List.{concat}
use lib.Chars.{codes}
use Rattle.record_io.specs.Puts.{Put, Out, Notes, puts_to}
use Rattle.chunk_reader.specs.declared.reasons.Fault.{Fault}
use Rattle.record_writer.specs.Feeds.{Rest}
use Rattle.record_writer.specs.declared.feed.Stop.{Stop}
use Rattle.record_append.specs.Appends.{HoldsAppended, GrowsFrom, HoldsGrownInPart, KeepsFront}
use Rattle.record_append.specs.Grown.{IsKeptTo, IsRefusedToGrow, IsUnrefused, RefusesFor, grown}
use Rattle.record_append.specs.declared.appends.Appended.{Appended}
use Rattle.riegeli_tool.specs.declared.append_words.AppendWords.{AppendWords}
use Rattle.command_frame.specs.Answers.{Answer, noted}
use Rattle.command_frame.specs.FileAnswers.{OfFile, IsInReach, IsTooLong, count_line, limit_text, most_file_bytes}
use Rattle.command_frame.specs.Meanings.{Meaning, meaning, none_used}
use Rattle.command_frame.specs.declared.status.Status.{Status}
use Rattle.show_command.specs.Readings.{refused_text}
use Rattle.write_command.specs.Input.{most_input_taken, taken_from}
use Rattle.write_command.specs.WriteCommand.{MayEndWrite, stop_status, stop_text}
use Rattle.command_frame.specs.declared.status.Status.TheVariants as status

-- what is printed of what became of a file, each number behind its name
abbrev pub appended_text : Appended → List ℕ
appended_text appended =
    concat (
    count_line (codes "kept") appended.kept
    ∷ count_line (codes "dropped") appended.dropped
    ∷ count_line (codes "records") appended.records
    ∷ count_line (codes "bytes") appended.bytes
    ∷ []
    )

-- what is printed where an old file is kept up to a place and grown by records
abbrev pub grown_text : AppendWords → (file : List ℕ) (place : ℕ) (records : List (List ℕ)) → List ℕ
grown_text words file place records = appended_text (record {
  kept = place;
  dropped = length file - place;
  records = length records;
  bytes = length (grown words.write.options file place records);
})

-- what is put behind so many records: what became of the file where they were all, or the line of the stop
abbrev pub grown_puts : Option Stop → (told : List ℕ) (count : ℕ) → List Put
grown_puts None told count = puts_to Out told
grown_puts (Some stop) told count = puts_to Notes (stop_text count (Some stop))

-- the answer to an old file that is kept up to a place, and to records and the stop behind them
abbrev pub grown_answer : AppendWords → (file : List ℕ) (place : ℕ) → Rest → Answer
grown_answer words file place rest = record {
  puts = grown_puts rest.stop (grown_text words file place rest.records) (length rest.records);
  status = stop_status rest.stop;
}

-- the answer to an old file and to records: the file's fault where it is refused, and else what became of it, or the stop
abbrev pub IsAppended : AppendWords → Rest → (file : List ℕ) → Answer → Type 0
IsAppended words rest file answer =
    ((fault : Fault) × IsRefusedToGrow words.cut file fault × (answer ≡ noted status.Refused (refused_text fault)))
    ⊎ ((place : ℕ) × IsUnrefused words.cut file × IsKeptTo file place × (answer ≡ grown_answer words file place rest))

-- what is taken from an input, of which at most 2 ^ 40 bytes are read
abbrev pub lines_taken : AppendWords → (input : List ℕ) → Rest
lines_taken words input = taken_from input words.write.hex (2 ^ 40)

-- what the file holds then: what it held where it is too long or refused, and else that grown by the records before the stop
abbrev pub IsLeft : AppendWords → Rest → (file held : List ℕ) → Type 0
IsLeft words rest file held =
    (((most_file_bytes < length file) ⊎ ((fault : Fault) × IsRefusedToGrow words.cut file fault)) × (held ≡ file))
    ⊎ ((length file ≤ most_file_bytes) × HoldsAppended words.write.options words.cut file rest.records (Some held))

-- what it may hold where the work was cut off or notes failed: what it held or, where it isn't too long or refused, what is kept
-- of that and a front of what it grows by
abbrev pub MayBeLeft : AppendWords → Rest → (file held : List ℕ) → Type 0
MayBeLeft words rest file held =
    (held ≡ file) ⊎ ((length file ≤ most_file_bytes) × HoldsGrownInPart words.write.options words.cut file rest.records (Some held))

-- what the file keeps, by the status, whatever the input: all where it is too long or refused; up to the place to which it is kept
-- where records were put behind that, also where standard output failed then; and with any other status one of these
abbrev pub KeepsByStatus : Bool → Status → (file held : List ℕ) → Type 0
KeepsByStatus cut status.Ok file held = (place : ℕ) × GrowsFrom cut file place held
KeepsByStatus cut status.BadLine file held = (place : ℕ) × GrowsFrom cut file place held
KeepsByStatus cut status.Out file held = (place : ℕ) × GrowsFrom cut file place held
KeepsByStatus cut status.Refused file held = held ≡ file
KeepsByStatus cut status.Limit file held =
    ((most_file_bytes < length file) × (held ≡ file))
    ⊎ ((length file ≤ most_file_bytes) × ((place : ℕ) × GrowsFrom cut file place held))
KeepsByStatus cut other file held = KeepsFront cut file held

-- how `append` may end by the size of the old file, whatever that holds and whatever the input: as `write` does, with a fault of the
-- file for which it is refused, which has a byte then, or as it is too long
abbrev pub MayEndAppending : Bool → (sizes : List ℕ) → Status → (text : List ℕ) → Type 0
MayEndAppending cut sizes ended text =
    (IsInReach sizes × MayEndWrite ended text)
    ⊎ (IsInReach sizes × (sizes ≢ 0 ∷ []) × (fault : Fault) × RefusesFor cut fault.why
    × (ended ≡ status.Refused) × (text ≡ refused_text fault))
    ⊎ (IsTooLong sizes × (ended ≡ status.Limit) × (text ≡ limit_text))

-- what `append` means
abbrev pub append_meaning : AppendWords → Meaning
append_meaning words =
    record (meaning (record none_used { input = true; grown = true; out = true; memory = true })
    (λ r answer. OfFile (IsAppended words (lines_taken words r.input)) (r.grown ∷ []) answer)) {
      leaves = λ r held. IsLeft words (lines_taken words r.input) r.grown held;
      may_leave = λ r held. MayBeLeft words (lines_taken words r.input) r.grown held;
      keeps = KeepsByStatus words.cut;
      may_work = IsInReach;
      may_end = MayEndAppending words.cut;
      most_taken = most_input_taken;
    }
