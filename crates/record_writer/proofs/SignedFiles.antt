-- The file of records, once its signature is put.
use Rattle.std.proofs.Common.{◌≡◌, ℕ, Bool, Option, Result, Err, List, [], ◌∷◌, refl, arith}
use Rattle.record_io.specs.Calls.{OnlyCounts}
use Rattle.record_values.specs.declared.file_totals.Totals.{Totals}
use Rattle.meta_chunk.specs.Files.{totals_of, signature}
use Rattle.record_writer.specs.declared.cut_off.CutOff.TheVariants as cut
use Rattle.record_writer.specs.declared.engine.WriteEnd.{WriteEnd}
use Rattle.record_writer.specs.declared.engine.WriteEnd.TheVariants.{Made}
use Rattle.record_writer.specs.declared.options.WriteOptions.{WriteOptions}
use Rattle.record_writer.specs.Behind.{MayFollow, WritesBehind}
use Rattle.record_writer.specs.Feeds.{Rest}
use Rattle.record_writer.specs.MadeFiles.{MadeFileValue, Lays, LaysFront, nothing_made}
use Rattle.record_writer.specs.Written.{chunks_under, file_under}
use Rattle.record_writer.specs.OptionLimits.{MayPut}
use Rattle.record_writer.specs.WriteAnswers.{WritesRecords}
use Rattle.record_writer.proofs.Counted.{TellsTotals-cut, TellsTotals-signed, signed_boundary, signed_place, signed_records}
use Rattle.record_writer.proofs.Flushes.{TakesFile-signed, TakesFile-unsigned}
use Rattle.record_writer.proofs.Windows.{OnlyCounts-behind}

-- records may follow the signature
pub MayFollow-signed : (a b : Option (List ℕ)) (s : MadeFileValue) (options : WriteOptions) (is_going : Bool) (bound : ℕ)
    → Lays a b nothing_made s (signature ∷ []) → MayPut options is_going bound → MayFollow s options is_going bound
MayFollow-signed a b s options is_going bound laid feed = record {
  going = laid.going;
  no_record = signed_records a b s laid;
  from_boundary = signed_boundary a b s laid;
  within = omega (arith, signed_place a b s laid);
  feed = feed;
}

-- what a call does that writes the file of a feed's records
abbrev pub WritesFile : {L N M K : Type 0} (rest : L → Option Rest) (origin : L → N) (feed_faults : L → ℕ)
    (taken : M → Option (List ℕ)) (lent : M → K) (made_faults : M → ℕ) (options : WriteOptions)
    (result : Result Totals WriteEnd) (before after : L) (sink sink_then : M) → Type 0
WritesFile rest origin feed_faults taken lent made_faults options =
    WritesRecords rest origin feed_faults taken lent made_faults (λ records. totals_of (chunks_under options records)) (file_under options)

-- what was put behind the signature makes it
pub WritesFile-signed : {L N M K : Type 0} (rest : L → Option Rest) (origin : L → N) (feed_faults : L → ℕ)
    (taken : M → Option (List ℕ)) (lent : M → K) (made_faults : M → ℕ) (Fails : Type 0) (options : WriteOptions) (s : MadeFileValue)
    (result : Result Totals WriteEnd) (before after : L) (sink signed sink_then : M)
    → Lays (taken sink) (taken signed) nothing_made s (signature ∷ []) → OnlyCounts lent made_faults Fails sink signed
    → WritesBehind rest origin feed_faults taken lent made_faults options s result before after signed sink_then
    → WritesFile rest origin feed_faults taken lent made_faults options result before after sink sink_then
WritesFile-signed rest origin feed_faults taken lent made_faults Fails options s result before after sink signed sink_then laid counts behind =
    let written = behind.written in
    record {
      answer = TellsTotals-signed (taken sink) (taken signed) s options (rest before) result laid written.answer;
      made = TakesFile-signed (taken sink) (taken signed) (taken sink_then) s options (rest before) result laid written.made;
      read_to_end = written.read_to_end;
      feed = written.feed;
      made_counts = OnlyCounts-behind lent made_faults Fails (result ≡ Err Made) sink signed sink_then counts written.made_counts;
    }

-- and where that failed, not all of it was taken
pub WritesFile-unsigned : {L N M K : Type 0} (rest : L → Option Rest) (origin : L → N) (feed_faults : L → ℕ)
    (taken : M → Option (List ℕ)) (lent : M → K) (made_faults : M → ℕ) (Fails : Type 0) (options : WriteOptions) (s : MadeFileValue)
    (feed : L) (sink sink_then : M)
    → LaysFront Fails (taken sink) (taken sink_then) nothing_made s (signature ∷ []) → OnlyCounts lent made_faults Fails sink sink_then → Fails
    → WritesFile rest origin feed_faults taken lent made_faults options (Err Made) feed feed sink sink_then
WritesFile-unsigned rest origin feed_faults taken lent made_faults Fails options s feed sink sink_then front counts failed =
    record {
      answer = TellsTotals-cut (rest feed) cut.Made (λ records. totals_of (chunks_under options records));
      made = TakesFile-unsigned (taken sink) (taken sink_then) s options (rest feed) front failed;
      read_to_end = tt;
      feed = record { same_lent = refl; cause = λ fails. cc; never_falls = omega arith; small = λ below. below };
      made_counts = record { same_lent = counts.same_lent; cause = λ _. counts.cause failed; never_falls = counts.never_falls; small = counts.small };
    }
