-- What is counted of the file of a sample.
use Rattle.std.proofs.Common.{◌≡◌, ◌∙◌, ℕ, ◌≤◌, ◌^◌, Option, Some, None, Ok, List, [], ◌∷◌, length, ap, subst, inl, arith}
use Rattle.std.specs.Option.{IfSome}
use Rattle.std.specs.List.{AllByRecursion}
use Rattle.chunk_header.specs.Chunks.{ChunkValue}
use Rattle.meta_chunk.specs.Files.{totals_of, IsPlain, IsWellFormedChunk}
use Rattle.meta_chunk.proofs.Joins.{end-laid_each}
use Rattle.meta_chunk.proofs.Totals.{AreRecordsOf-counted}
use Rattle.record_group.specs.Groups.{file_of}
use Rattle.record_group.specs.Records.{AreRecords}
use Rattle.record_group.proofs.RecordFiles.{IsReadable-file_of, AreRecordsOf-chunks_of}
use Rattle.record_values.specs.declared.file_totals.Totals.{Totals}
use Rattle.record_writer.specs.declared.options.WriteOptions.{WriteOptions}
use Rattle.record_writer.specs.Feeds.{Rest}
use Rattle.record_writer.specs.Written.{chunks_under, file_under}
use Rattle.record_writer.specs.WriteAnswers.{TellsWritten, TakesFile}
use Rattle.record_io.specs.Outside.{Takes}
use Rattle.sample_command.specs.declared.sample_words.SampleWords.{SampleWords}
use Rattle.sample_command.specs.SampleCommand.{sampled, sample_file, summary, sample_summary}
use Rattle.sample_command.proofs.Drawings.{sample_of-records}

-- plain chunks are those of a well-formed file
plain_well_formed : (ks : List ChunkValue) → AllByRecursion IsPlain ks → AllByRecursion IsWellFormedChunk ks
plain_well_formed [] h = tt
plain_well_formed (k ∷ ks) h = (inl h.0, plain_well_formed ks h.1)

-- the totals of a written file count its records and its bytes
pub totals-written : (options : WriteOptions) (records : List (List ℕ)) (totals : Totals) → AreRecords records → options.size ≤ 2 ^ 24
    → totals ≡ totals_of (chunks_under options records)
    → (totals.records ≡ length records) × (totals.bytes ≡ length (file_under options records))
unfolding file_of
totals-written options records totals each small is =
    let ks : List ChunkValue = chunks_under options records in
    let file = IsReadable-file_of records options.size options.every options.pad each small in (
      ap (λ (t : Totals). t.records) is
          ∙ AreRecordsOf-counted ks records (plain_well_formed ks file.1.each) (AreRecordsOf-chunks_of records options.size options.every options.pad each small),
      ap (λ (t : Totals). t.bytes) is ∙ omega (arith, end-laid_each 0 ks),
    )

-- where all records of a sample were written, the totals are its summary, and the made file took its file
written : (words : SampleWords) (totals : Totals) (made made_then : Option (List ℕ)) → words.options.size ≤ 2 ^ 24
    → totals ≡ totals_of (chunks_under words.options (sampled words)) → Takes made made_then (sample_file words)
    → (summary totals.records totals.bytes ≡ sample_summary words) × Takes made made_then (sample_file words)
written words totals made made_then small counted took =
    let each = totals-written words.options (sampled words) totals (sample_of-records words.seed words.count) small counted in
    (ap (λ (n : ℕ). summary n totals.bytes) each.0 ∙ ap (summary (length (sampled words))) each.1, took)

pub sample-written : (words : SampleWords) (rest : Option Rest) (totals : Totals) (made made_then : Option (List ℕ)) → words.options.size ≤ 2 ^ 24
    → rest ≡ Some (record { records = sampled words; stop = None })
    → IfSome rest (TellsWritten (Ok totals) words.options)
    → IfSome rest (λ r. TakesFile (Ok totals) made made_then (file_under words.options r.records))
    → (summary totals.records totals.bytes ≡ sample_summary words) × Takes made made_then (sample_file words)
sample-written words rest totals made made_then small is answer took =
    let told = subst (λ (o : Option Rest). IfSome o (TellsWritten (Ok totals) words.options)) is answer in
    written words totals made made_then small told.1
    (subst (λ (o : Option Rest). IfSome o (λ r. TakesFile (Ok totals) made made_then (file_under words.options r.records))) is took)
