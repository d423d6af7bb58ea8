-- Inside. Records that are put behind what a file has already. Own.
use Rattle.std.specs.Prelude.{◌≡◌, ℕ, ◌^◌, ◌≤◌, Bool, false, Option, Some, None, Result, Ok, Err, List, ◌++◌, IfOk, IfSome, OnOk, OnErr}
use Rattle.block_layout.specs.Layout.{IsBoundary}
use Rattle.record_io.specs.Calls.{OnlyCounts}
use Rattle.record_values.specs.declared.file_totals.Totals.{Totals}
use Rattle.chunk_header.specs.Chunks.{ChunkValue}
use Rattle.record_writer.specs.declared.options.WriteOptions.{WriteOptions}
use Rattle.record_writer.specs.declared.cut_off.CutOff.{CutOff}
use Rattle.record_writer.specs.declared.cut_off.CutOff.TheVariants.{Input, Made}
use Rattle.record_writer.specs.declared.engine.WriteEnd.{WriteEnd}
use Rattle.record_writer.specs.declared.feed.Stop.{Stop}
use Rattle.record_writer.specs.Feeds.{Rest}
use Rattle.record_writer.specs.FeedSteps.{nothing_left}
use Rattle.record_writer.specs.MadeFiles.{MadeFileValue, Lays, LaysFront, totals_behind}
use Rattle.record_writer.specs.Written.{tail_chunks}
use Rattle.record_writer.specs.OptionLimits.{MayPut}
use Rattle.record_writer.specs.WriteAnswers.{WritesRecords, tail_under}

-- a feed may be put under options behind what a file has, which is no record and ends at a boundary
pub record MayFollow (file : MadeFileValue) (options : WriteOptions) (is_going : Bool) (bound : ℕ) : Type 0 where
  pub going : file.spent ≡ false
  pub no_record : file.records ≡ 0
  pub from_boundary : IsBoundary file.place
  pub within : file.place ≤ 2 ^ 60
  pub feed : MayPut options is_going bound

-- a call wrote a feed's records behind what a file has: the totals are of both
pub record WritesBehind {L N M K : Type 0} (rest : L → Option Rest) (origin : L → N) (feed_faults : L → ℕ)
    (taken : M → Option (List ℕ)) (lent : M → K) (made_faults : M → ℕ) (options : WriteOptions) (file : MadeFileValue)
    (result : Result Totals WriteEnd) (before after : L) (sink sink_then : M) : Type 0 where
  pub written : WritesRecords rest origin feed_faults taken lent made_faults
      (λ records. totals_behind file (tail_chunks options file.place records))
      (λ records. file.held ++ tail_under options file.place records) result before after sink sink_then
  pub behind : IfOk result (λ totals. file.place ≤ totals.bytes)

-- a call put a feed's records as these chunks of them, and answers which stop follows them; a feed without a stop has nothing
-- left. Where the work was cut off it put a front of them, and not all where the sink failed. Both only count their faults, where
-- the answer says that they failed
pub record PutsRecords {L N M K : Type 0} (rest : L → Option Rest) (origin : L → N) (feed_faults : L → ℕ)
    (taken : M → Option (List ℕ)) (lent : M → K) (made_faults : M → ℕ) (chunks_of : List (List ℕ) → List ChunkValue)
    (result : Result (Option Stop) CutOff) (old new : MadeFileValue) (before after : L) (sink sink_then : M) : Type 0 where
  pub stop : IfOk result (λ stop. IfSome (rest before) (λ all. all.stop ≡ stop))
  pub whole : OnOk result (IfSome (rest before) (λ all. Lays (taken sink) (taken sink_then) old new (chunks_of all.records)))
  pub front : OnErr result (IfSome (rest before) (λ all.
      LaysFront (result ≡ Err Made) (taken sink) (taken sink_then) old new (chunks_of all.records)))
  pub drained : result ≡ Ok None → IfSome (rest before) (λ _. rest after ≡ Some nothing_left)
  pub feed : OnlyCounts origin feed_faults (result ≡ Err Input) before after
  pub made : OnlyCounts lent made_faults (result ≡ Err Made) sink sink_then
