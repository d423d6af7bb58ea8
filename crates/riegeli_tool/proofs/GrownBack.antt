-- What `append` leaves reads back.
use Rattle.std.proofs.Common.{◌≡◌, ◌∙◌, ℕ, zero, suc, ◌^◌, ◌≤◌, List, ◌++◌, length, sym, ap, subst, inl, inr, arith}
use Rattle.std.specs.List.{AllByRecursion}
use Rattle.std.proofs.lemmas.List.Elements.{All-append, All-from_recursion, recursion_from_All}
use Rattle.record_values.specs.Bytes.{AreBytes}
use Rattle.block_layout.specs.Layout.{IsBoundary}
use Rattle.chunk_header.specs.Chunks.{ChunkValue}
use Rattle.meta_chunk.specs.Files.{AreRecordsOf, IsReadable, IsWellFormed, IsPlain}
use Rattle.meta_chunk.specs.Chains.{IsWellFormedChain}
use Rattle.meta_chunk.proofs.Chains.{IsChainOf-weaker}
use Rattle.chunk_reader.proofs.ChainSteps.{chain_boundary}
use Rattle.record_group.specs.Records.{AreRecords}
use Rattle.record_group.proofs.RecordFiles.{IsReadable-file_of, IsPlain-record_chunks}
use Rattle.record_writer.specs.OptionLimits.{AreInLimits}
use Rattle.record_writer.specs.declared.options.WriteOptions.{WriteOptions}
use Rattle.record_append.specs.Grown.{IsKeptTo, IsUnrefused, chunks_at, grown}
use Rattle.record_append.proofs.GrownFiles.{grown_well_formed, grown_records, kept_once, kept_whole, taken_whole}
use Rattle.command_frame.specs.FileAnswers.{most_file_bytes}
use Rattle.write_command.proofs.TakenRecords.{taken_from-records}
use Rattle.riegeli_tool.specs.AppendCommand.{IsLeft, lines_taken}
use Rattle.riegeli_tool.specs.declared.append_words.AppendWords.{AppendWords}

-- the file that is left of one that isn't refused
left_of : (words : AppendWords) (input file held : List ℕ) (place : ℕ) → length file ≤ most_file_bytes → IsUnrefused words.cut file → IsKeptTo file place
    → IsLeft words (lines_taken words input) file held → held ≡ grown words.write.options file place (lines_taken words input).records
left_of words input file held place reach taken kept (inl (inl long, same)) = absurd (omega (arith, reach, long))
left_of words input file held place reach taken kept (inl (inr (fault, refused), same)) = absurd (taken fault refused)
left_of words input file held place reach taken kept (inr (within, (other, holds))) =
    let records : List (List ℕ) = (lines_taken words input).records in
    let is : held ≡ grown words.write.options file other records = cc holds.grown in
    is ∙ ap (λ (p : ℕ). grown words.write.options file p records) (kept_once file other place holds.kept kept)

-- it holds the records that are kept, and then those of the input's lines
grown_with : (words : AppendWords) (input file held : List ℕ) (place : ℕ) (ks : List ChunkValue) (old : List (List ℕ))
    → AreInLimits words.write.options → AreBytes input → length file ≤ most_file_bytes → IsUnrefused words.cut file
    → IsWellFormedChain ks file place → IsKeptTo file place → AreRecordsOf ks old → IsLeft words (lines_taken words input) file held
    → IsWellFormed (ks ++ chunks_at words.write.options place (lines_taken words input).records) held
    × AreRecordsOf (ks ++ chunks_at words.write.options place (lines_taken words input).records) (old ++ (lines_taken words input).records)
grown_with words input file held place ks old limits bytes reach taken chain kept are left =
    let options : WriteOptions = words.write.options in
    let records : List (List ℕ) = (lines_taken words input).records in
    let each = taken_from-records input words.write.hex (2 ^ 40) bytes in (
      subst (IsWellFormed (ks ++ chunks_at options place records)) (sym (left_of words input file held place reach taken kept left))
          (grown_well_formed options file place ks records limits.size each chain),
      grown_records options file place ks old records limits.size each chain are,
    )

pub grown_back : (words : AppendWords) (input file held : List ℕ) (place : ℕ) (ks : List ChunkValue) (old : List (List ℕ))
    → AreInLimits words.write.options → AreBytes input → length file ≤ most_file_bytes → IsUnrefused words.cut file
    → IsWellFormedChain ks file place → IsKeptTo file place → AreRecordsOf ks old → IsLeft words (lines_taken words input) file held
    → (new : List ChunkValue) × IsWellFormed (ks ++ new) held × AreRecordsOf (ks ++ new) (old ++ (lines_taken words input).records)
grown_back words input file held place ks old limits bytes reach taken chain kept are left =
    let (well_formed, records) = grown_with words input file held place ks old limits bytes reach taken chain kept are left in
    (chunks_at words.write.options place (lines_taken words input).records, well_formed, records)

-- chunks that are laid are read
plain_at : (options : WriteOptions) (place : ℕ) (records : List (List ℕ)) → IsBoundary place → options.size ≤ 2 ^ 24 → AreRecords records
    → AllByRecursion IsPlain (chunks_at options place records)
plain_at options zero records boundary small each = (IsReadable-file_of records options.size options.every options.pad each small).1.each
plain_at options (suc n) records boundary small each = IsPlain-record_chunks (suc n) records options.size options.every options.pad boundary each small

-- so a file without fault grows to one
pub grown_faultless : (words : AppendWords) (input file held : List ℕ) (ks : List ChunkValue) (old : List (List ℕ))
    → AreInLimits words.write.options → AreBytes input → length file ≤ most_file_bytes → IsReadable ks file → AreRecordsOf ks old
    → IsLeft words (lines_taken words input) file held
    → (new : List ChunkValue) × IsReadable (ks ++ new) held × AreRecordsOf (ks ++ new) (old ++ (lines_taken words input).records)
grown_faultless words input file held ks old limits bytes reach whole are left =
    let options : WriteOptions = words.write.options in
    let records : List (List ℕ) = (lines_taken words input).records in
    let each = taken_from-records input words.write.hex (2 ^ 40) bytes in
    let new : List ChunkValue = chunks_at options (length file) records in
    let well_formed : IsWellFormed ks file = (whole.0, IsChainOf-weaker (λ k plain. inl plain) whole.1) in
    let (formed, its) = grown_with words input file held (length file) ks old limits bytes reach (taken_whole words.cut ks file well_formed) well_formed.1
    (kept_whole ks file well_formed) are left in
    let plain = plain_at options (length file) records (chain_boundary ks file (length file) whole.1) limits.size each in (
      new,
      (
        formed.0,
        record {
          signed = formed.1.signed;
          each = recursion_from_All IsPlain (ks ++ new)
              (All-append IsPlain ks new (All-from_recursion IsPlain ks whole.1.each) (All-from_recursion IsPlain new plain));
          within = formed.1.within;
          laid = formed.1.laid;
        },
      ),
      its,
    )
