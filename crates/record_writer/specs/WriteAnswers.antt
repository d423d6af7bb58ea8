-- Inside. What a call that writes records answers, and what a sink takes by that. Own.
use Rattle.std.specs.Prelude.{◌≡◌, ℕ, Option, Some, None, Result, Ok, Err, IfSome, List, length, OnOk}
use Rattle.record_values.specs.declared.file_totals.Totals.{Totals}
use Rattle.record_io.specs.Outside.{Takes, TakesShort}
use Rattle.record_io.specs.Calls.{TakesFront, OnlyCounts}
use Rattle.chunk_header.specs.Chunks.{ChunkValue}
use Rattle.meta_chunk.specs.Files.{laid_each, totals_of}
use Rattle.record_writer.specs.declared.options.WriteOptions.{WriteOptions}
use Rattle.record_writer.specs.Written.{chunks_under, tail_chunks}
use Rattle.record_writer.specs.declared.feed.Stop.TheVariants.{TooLong as too_long, InputTooLong as input_too_long, BadLine as bad_line}
use Rattle.record_writer.specs.declared.engine.WriteEnd.{WriteEnd}
use Rattle.record_writer.specs.declared.engine.WriteEnd.TheVariants.{TooLong, InputTooLong, BadLine, Input, Made, Memory}
use Rattle.record_writer.specs.Feeds.{Rest}
use Rattle.record_writer.specs.FeedSteps.{nothing_left}

-- the bytes of the chunks of records alone, from a place on where others end
abbrev pub tail_under : WriteOptions → ℕ → List (List ℕ) → List ℕ
tail_under options at records = laid_each at (tail_chunks options at records)

-- the totals of chunks alone that are laid from a place on
abbrev pub totals_from : ℕ → List ChunkValue → Totals
totals_from at ks = record {
  chunks = length ks;
  records = (totals_of ks).records;
  bytes = length (laid_each at ks);
  unread = (totals_of ks).unread;
}

-- the answer where these were a feed's records and the stop behind them: these totals where there was no stop, and else
-- that stop, with the number of the records before it. A fault and want of memory say nothing of them
abbrev pub TellsTotals : Result Totals WriteEnd → Totals → Rest → Type 0
TellsTotals (Ok totals) wanted rest = (rest.stop ≡ None) × (totals ≡ wanted)
TellsTotals (Err (TooLong count)) wanted rest = (rest.stop ≡ Some too_long) × (count ≡ length rest.records)
TellsTotals (Err InputTooLong) wanted rest = rest.stop ≡ Some input_too_long
TellsTotals (Err (BadLine count)) wanted rest = (rest.stop ≡ Some bad_line) × (count ≡ length rest.records)
TellsTotals (Err Input) wanted rest = Unit {0}
TellsTotals (Err Made) wanted rest = Unit {0}
TellsTotals (Err Memory) wanted rest = Unit {0}

-- with the totals of the file of the records
abbrev pub TellsWritten : Result Totals WriteEnd → WriteOptions → Rest → Type 0
TellsWritten result options rest = TellsTotals result (totals_of (chunks_under options rest.records)) rest

-- what a sink took with that answer: a file, or a front of it where a fault or want of memory cut the work off, and not all of
-- it where that was the sink's
abbrev pub TakesFile : Result Totals WriteEnd → Option (List ℕ) → Option (List ℕ) → List ℕ → Type 0
TakesFile (Ok totals) before after file = Takes before after file
TakesFile (Err (TooLong count)) before after file = Takes before after file
TakesFile (Err InputTooLong) before after file = Takes before after file
TakesFile (Err (BadLine count)) before after file = Takes before after file
TakesFile (Err Input) before after file = TakesFront before after file
TakesFile (Err Made) before after file = TakesShort before after file
TakesFile (Err Memory) before after file = TakesFront before after file

-- a call wrote a feed's records: it answers with these totals of them, and a sink took these bytes of them; a feed without a stop
-- has nothing left; what the feed leaves in any case of what it reads stays; and both only count their faults, where the answer
-- says that they failed
pub record WritesRecords {L N M K : Type 0} (rest : L → Option Rest) (origin : L → N) (feed_faults : L → ℕ)
    (taken : M → Option (List ℕ)) (lent : M → K) (made_faults : M → ℕ)
    (totals_of_records : List (List ℕ) → Totals) (bytes_of_records : List (List ℕ) → List ℕ)
    (result : Result Totals WriteEnd) (before after : L) (sink sink_then : M) : Type 0 where
  pub answer : IfSome (rest before) (λ all. TellsTotals result (totals_of_records all.records) all)
  pub made : IfSome (rest before) (λ all. TakesFile result (taken sink) (taken sink_then) (bytes_of_records all.records))
  pub read_to_end : OnOk result (IfSome (rest before) (λ _. rest after ≡ Some nothing_left))
  pub feed : OnlyCounts origin feed_faults (result ≡ Err Input) before after
  pub made_counts : OnlyCounts lent made_faults (result ≡ Err Made) sink sink_then
