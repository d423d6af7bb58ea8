-- Inside. What is answered where records are put behind those of an old file. Own.
use Rattle.std.specs.Prelude.{◌≡◌, ℕ, ◌+◌, ◌<◌, ◌≤◌, ◌⊎◌, Bool, Option, Some, None, Result, Ok, Err, IfSome, IsSomeAnd, List, length}
use Rattle.record_values.specs.declared.file_totals.Totals.{Totals}
use Rattle.record_io.specs.Seen.{SeenFile}
use Rattle.block_layout.specs.NextPlaces.{IsOnBoundary}
use Rattle.chunk_reader.specs.declared.reasons.Fault.{Fault}
use Rattle.record_writer.specs.declared.options.WriteOptions.{WriteOptions}
use Rattle.record_writer.specs.Feeds.{Rest}
use Rattle.record_writer.specs.declared.feed.Stop.TheVariants.{TooLong as too_long, InputTooLong as input_too_long, BadLine as bad_line}
use Rattle.record_writer.specs.WriteAnswers.{totals_from}
use Rattle.record_append.specs.Appends.{HoldsAppended, GrowsFrom, HoldsGrown, HoldsGrownInPart, KeepsFront}
use Rattle.record_append.specs.declared.appends.Appended.{Appended}
use Rattle.record_append.specs.declared.appends.AppendEnd.{AppendEnd}
use Rattle.record_append.specs.declared.appends.AppendEnd.TheVariants.{Refused, TooLong, InputTooLong, BadLine, Input, Device, Memory}
use Rattle.record_append.specs.Grown.{IsRefusedToGrow, RefusesFor, grown, chunks_at}

-- a place of a file of so many bytes up to which it may be kept: its front, where it is empty, and else a boundary behind the
-- signature
pub record MayBeKeptTo (size place : ℕ) : Type 0 where
  pub within : place ≤ size
  pub boundary : IsOnBoundary place
  pub signed : 0 < size → 64 ≤ place

-- where the work was cut off, a device holds the old file or that grown in part, and a refused one is as it was
abbrev pub HoldsCutOff : WriteOptions → Bool → List ℕ → List (List ℕ) → Option (List ℕ) → Type 0
HoldsCutOff options cut file records held = (held ≡ Some file) ⊎ HoldsGrownInPart options cut file records held

-- what a device keeps with each answer: what was told to be kept; behind a stop, what is kept; a refused file whole; and where the
-- work was cut off, one of these
abbrev pub KeepsBy : Result Appended AppendEnd → Bool → List ℕ → List ℕ → Type 0
KeepsBy (Ok told) cut file held = GrowsFrom cut file told.kept held
KeepsBy (Err (Refused fault)) cut file held = held ≡ file
KeepsBy (Err (TooLong count)) cut file held = (place : ℕ) × GrowsFrom cut file place held
KeepsBy (Err InputTooLong) cut file held = (place : ℕ) × GrowsFrom cut file place held
KeepsBy (Err (BadLine count)) cut file held = (place : ℕ) × GrowsFrom cut file place held
KeepsBy (Err Input) cut file held = KeepsFront cut file held
KeepsBy (Err Device) cut file held = KeepsFront cut file held
KeepsBy (Err Memory) cut file held = KeepsFront cut file held

-- what is told of new records behind an old file: how much of it was kept and dropped, how many records there are, and how many
-- bytes the grown file has
pub record Tells (options : WriteOptions) (file : List ℕ) (added : List (List ℕ)) (told : Appended) : Type 0 where
  pub dropped : told.kept + told.dropped ≡ length file
  pub records : told.records ≡ length added
  pub bytes : told.bytes ≡ length (grown options file told.kept added)

-- the answer where these were a feed's records and the stop behind them, whatever the device holds: their number where there was no
-- stop, and else that stop. A refusal, a fault and want of memory say nothing of them
abbrev pub AnswersRest : Result Appended AppendEnd → Rest → Type 0
AnswersRest (Ok told) rest = (rest.stop ≡ None) × (told.records ≡ length rest.records)
AnswersRest (Err (Refused fault)) rest = Unit {0}
AnswersRest (Err (TooLong count)) rest = (rest.stop ≡ Some too_long) × (count ≡ length rest.records)
AnswersRest (Err InputTooLong) rest = rest.stop ≡ Some input_too_long
AnswersRest (Err (BadLine count)) rest = (rest.stop ≡ Some bad_line) × (count ≡ length rest.records)
AnswersRest (Err Input) rest = Unit {0}
AnswersRest (Err Device) rest = Unit {0}
AnswersRest (Err Memory) rest = Unit {0}

-- the answer where these were an old file and a feed's records and the stop behind them, and what a device then holds. With a
-- refusal it says nothing of the feed
abbrev pub AnswersGrown : Result Appended AppendEnd → WriteOptions → Bool → List ℕ → Rest → Option (List ℕ) → Type 0
AnswersGrown (Ok told) options cut file rest held =
    (rest.stop ≡ None) × HoldsGrown options cut file told.kept rest.records held × Tells options file rest.records told
AnswersGrown (Err (Refused fault)) options cut file rest held = held ≡ Some file
AnswersGrown (Err (TooLong count)) options cut file rest held =
    (rest.stop ≡ Some too_long) × (count ≡ length rest.records) × HoldsAppended options cut file rest.records held
AnswersGrown (Err InputTooLong) options cut file rest held = (rest.stop ≡ Some input_too_long) × HoldsAppended options cut file rest.records held
AnswersGrown (Err (BadLine count)) options cut file rest held =
    (rest.stop ≡ Some bad_line) × (count ≡ length rest.records) × HoldsAppended options cut file rest.records held
AnswersGrown (Err Input) options cut file rest held = HoldsCutOff options cut file rest.records held
AnswersGrown (Err Device) options cut file rest held = HoldsCutOff options cut file rest.records held
AnswersGrown (Err Memory) options cut file rest held = HoldsCutOff options cut file rest.records held

-- which old files, of so many bytes, are refused, and with which fault; device and feed are then as they were, and of the file at
-- most its bytes were handed out
pub record RefusesOld {L : Type 0} (result : Result Appended AppendEnd) (cut : Bool) (size : ℕ) (before after : SeenFile)
    (feed feed_then : L) : Type 0 where
  pub refused : (fault : Fault) → result ≡ Err (Refused fault)
      → (0 < size) × RefusesFor cut fault.why × IfSome before.bytes (λ file. IsRefusedToGrow cut file fault)
  pub complete : IfSome before.bytes (λ file. (fault : Fault) → IsRefusedToGrow cut file fault
      → (result ≡ Err (Refused fault)) ⊎ (result ≡ Err Device))
  pub untouched : (fault : Fault) → result ≡ Err (Refused fault)
      → (after.bytes ≡ before.bytes) × (after.told ≡ before.told) × (after.handed ≤ before.handed + size) × (feed_then ≡ feed)

-- what is kept of an old file of so many bytes, and that the device tells this size, or none
pub record KeepsOld (result : Result Appended AppendEnd) (cut : Bool) (size : ℕ) (before after : Option (List ℕ)) (told : Option ℕ) : Type 0 where
  pub kept : IfSome before (λ file. IsSomeAnd after (λ held. KeepsBy result cut file held))
  pub still_told : IfSome told (λ own. own ≡ size)

-- the totals of the chunks that are laid for records from a place on
abbrev pub totals_at : WriteOptions → ℕ → List (List ℕ) → Totals
totals_at options place records = totals_from place (chunks_at options place records)
