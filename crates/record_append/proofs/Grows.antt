-- What a device holds of an old file and new records, where all were written.
use Rattle.std.proofs.Common.{◌≡◌, ◌∙◌, ℕ, zero, suc, ◌+◌, ◌-◌, ◌≤◌, Bool, Option, Some, None, IfSome, Ok, List, length, take, cond, ap, subst, arith}
use Rattle.std.specs.Prelude.{option_map}
use Rattle.std.proofs.lemmas.List.{length-append, length-take-le}
use Rattle.std.proofs.lemmas.List.Sums.{sum_by-cons}
use Rattle.record_values.specs.declared.file_totals.Totals.{Totals}
use Rattle.chunk_header.specs.Chunks.{ChunkValue}
use Rattle.meta_chunk.specs.Files.{is_unread, signature}
use Rattle.meta_chunk.specs.Laid.{end_of_chunk}
use Rattle.record_writer.specs.Feeds.{Rest}
use Rattle.record_writer.specs.declared.options.WriteOptions.{WriteOptions}
use Rattle.record_writer.specs.Written.{tail_chunks}
use Rattle.record_writer.specs.WriteAnswers.{TellsTotals, TakesFile}
use Rattle.record_append.specs.AppendAnswers.{AnswersGrown, AnswersRest, totals_at}
use Rattle.record_append.specs.Grown.{IsKeptTo, IsUnrefused, bytes_at}
use Rattle.record_writer.proofs.Counted.{counted-tail}
use Rattle.record_append.proofs.KeptFiles.{IsSized}

-- what is counted of the records' chunks are the records, and their bytes
records_at : (options : WriteOptions) (place : ℕ) (records : List (List ℕ)) → (totals_at options place records).records ≡ length records
records_at options zero records =
    let tail : List ChunkValue = tail_chunks options (end_of_chunk 0 signature) records in
    omega (
      arith,
      sum_by-cons (λ (k : ChunkValue). cond (is_unread k) 0 k.num_records) signature tail,
      counted-tail options (end_of_chunk 0 signature) records,
    )
records_at options (suc n) records = counted-tail options (suc n) records

-- all was put
pub grown_whole : (options : WriteOptions) (cut : Bool) (bytes mid held : Option (List ℕ)) (rests : Option Rest) (size place : ℕ) (put : Totals)
    → IfSome bytes (λ file. IsUnrefused cut file × IsKeptTo file place) → IsSized bytes size → place ≤ size
    → mid ≡ option_map (take place) bytes
    → IfSome rests (λ rest. TellsTotals (Ok put) (totals_at options place rest.records) rest)
    → IfSome rests (λ rest. TakesFile (Ok put) mid held (bytes_at options place rest.records))
    → IfSome bytes (λ file. IfSome rests (λ rest.
    AnswersGrown (Ok (record { kept = place; dropped = size - place; records = put.records; bytes = place + put.bytes })) options cut file rest held))
grown_whole options cut None mid held rests size place put kept sized within left answer took = tt
grown_whole options cut (Some file) mid held None size place put kept sized within left answer took = tt
grown_whole options cut (Some file) mid held (Some rest) size place put (taken, kept) sized within left (none, counted) took =
    let records : List (List ℕ) = rest.records in
    let new : List ℕ = bytes_at options place records in (
      none,
      record {
        taken = taken;
        kept = kept;
        grown = subst (λ (o : Option (List ℕ)). TakesFile (Ok put) o held new) left took;
      },
      record {
        dropped = omega (arith, sized, within);
        records = ap (λ (t : Totals). t.records) counted ∙ records_at options place records;
        bytes = omega (
          arith,
          sized,
          within,
          length-append (take place file) new,
          length-take-le place file (omega (arith, sized, within)),
          ap (λ (t : Totals). t.bytes) counted,
        );
      },
    )

-- what is answered of the feed's records and the stop behind them
pub answered_whole : (options : WriteOptions) (rests : Option Rest) (place dropped bytes : ℕ) (put : Totals)
    → IfSome rests (λ rest. TellsTotals (Ok put) (totals_at options place rest.records) rest)
    → IfSome rests (AnswersRest (Ok (record { kept = place; dropped = dropped; records = put.records; bytes = bytes })))
answered_whole options None place dropped bytes put answer = tt
answered_whole options (Some rest) place dropped bytes put (none, counted) =
    (none, ap (λ (t : Totals). t.records) counted ∙ records_at options place rest.records)
