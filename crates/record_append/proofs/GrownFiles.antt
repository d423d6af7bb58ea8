-- Up to where an old file is kept, and the file that it grows to.
use Rattle.std.proofs.Common.{◌≡◌, ℕ, zero, suc, ◌^◌, ◌≤◌, Bool, true, Some, ◌⊎◌, List, [], ◌∷◌, ◌++◌, length, take, refl, sym, ap, subst, inl, inr, arith}
use Rattle.std.proofs.lemmas.List.{length-take-le, take_all}
use Rattle.std.proofs.lemmas.List.Elements.{All-append, All-from_recursion, All-weaker, recursion_from_All}
use Rattle.record_values.specs.Bytes.{AreBytes}
use Rattle.chunk_header.specs.Chunks.{ChunkValue}
use Rattle.meta_chunk.specs.Files.{AreLaid, AreRecordsOf, IsChainOf, IsWellFormed, IsWellFormedChunk, IsPlain, end_of_chunks}
use Rattle.meta_chunk.specs.Laid.{end_of_chunk}
use Rattle.meta_chunk.proofs.Chains.{IsChainOf-weaker}
use Rattle.meta_chunk.proofs.Held.{AreRecordsOf-append}
use Rattle.meta_chunk.proofs.Joins.{AreLaid-append, end-AreLaid, end_of_chunks_past}
use Rattle.meta_chunk.proofs.LaidChunks.{end_of_chunk_after}
use Rattle.record_group.specs.Groups.{file_of}
use Rattle.record_group.specs.Records.{AreRecords}
use Rattle.record_group.proofs.RecordFiles.{AreLaid-record_chunks, AreRecordsOf-chunks_of, AreRecordsOf-record_chunks, IsReadable-file_of, IsPlain-record_chunks}
use Rattle.chunk_reader.specs.Faults.{BeginsWithSignature, HasNoFault, IsFault}
use Rattle.chunk_reader.specs.declared.reasons.Fault.{Fault}
use Rattle.chunk_reader.proofs.ChainReads.{no_further_unsigned}
use Rattle.chunk_reader.proofs.ChainSteps.{IsChainOf-nil, chain_boundary, longest_where_whole, no_chunks, signature_chain}
use Rattle.chunk_reader.proofs.FaultsDecided.{file_judged}
use Rattle.chunk_reader.proofs.FileFaults.{fault_or_none, longest_is_one}
use Rattle.record_writer.specs.Written.{tail_chunks}
use Rattle.record_writer.specs.WriteAnswers.{tail_under}
use Rattle.record_writer.specs.declared.options.WriteOptions.{WriteOptions}
use Rattle.record_append.specs.Grown.{IsKeptTo, IsUnrefused, bytes_at, chunks_at, grown}

pub kept_once : (file : List ℕ) (a b : ℕ) → IsKeptTo file a → IsKeptTo file b → a ≡ b
kept_once file a b (ks, longest) (ls, also) = longest_is_one ks ls file a b longest also

-- a well-formed file is kept whole, and an empty one or another without chunks at its front up to 0
pub kept_whole : (ks : List ChunkValue) (file : List ℕ) → IsWellFormed ks file → IsKeptTo file (length file)
kept_whole ks file h = (ks, longest_where_whole IsWellFormedChunk ks file h.1)

kept_nowhere : (file : List ℕ) → ¬ BeginsWithSignature file → IsKeptTo file 0
kept_nowhere file unsigned =
    ([], record { chain = IsChainOf-nil file; greatest = no_further_unsigned true (Some file) 0 unsigned })

kept_by : (file : List ℕ) → (HasNoFault true file) ⊎ ((fault : Fault) × IsFault true file fault) → (place : ℕ) × IsKeptTo file place
kept_by file (inl (ks, whole)) = (length file, kept_whole ks file whole)
kept_by file (inr (fault, inl (unsigned, is))) = (0, kept_nowhere file unsigned)
kept_by file (inr (fault, inr (signed, (ks, place, longest, below, verdict)))) = (place, (ks, longest))

pub kept_somewhere : (file : List ℕ) → AreBytes file → (place : ℕ) × IsKeptTo file place
kept_somewhere file bytes = kept_by file (file_judged true file bytes)

-- neither is refused
pub taken_whole : (cut : Bool) (ks : List ChunkValue) (file : List ℕ) → IsWellFormed ks file → IsUnrefused cut file
taken_whole cut ks file h = λ fault refused. fault_or_none true file fault refused.is_fault (ks, h)

pub empty_taken : (cut : Bool) → IsKeptTo [] 0 × IsUnrefused cut []
empty_taken cut = (
  ([], record { chain = IsChainOf-nil []; greatest = λ others other chain. chain.within }),
  λ fault refused. refused.some refl,
)

-- of no other file that isn't refused nothing is kept
nothing_by : (cut : Bool) (b : ℕ) (bytes : List ℕ) → (HasNoFault true (b ∷ bytes)) ⊎ ((fault : Fault) × IsFault true (b ∷ bytes) fault)
    → IsUnrefused cut (b ∷ bytes) → IsKeptTo (b ∷ bytes) 0 → ⊥
nothing_by cut b bytes (inl (ks, whole)) taken (ls, longest) = omega (arith, longest.greatest ks (length (b ∷ bytes)) whole.1)
nothing_by cut b bytes (inr (fault, inl (unsigned, is))) taken kept =
    taken fault (record { some = λ none. absurd cc; is_fault = inl (unsigned, is); reason = inl (ap (λ (f : Fault). f.why) is) })
nothing_by cut b bytes (inr (fault, inr (signed, rest))) taken (ls, longest) =
    omega (arith, longest.greatest _ 64 (signature_chain true (b ∷ bytes) signed))

pub nothing_kept : (cut : Bool) (file : List ℕ) → AreBytes file → IsUnrefused cut file → IsKeptTo file 0 → file ≡ []
nothing_kept cut [] bytes taken kept = refl
nothing_kept cut (b ∷ rest) bytes taken kept = absurd (nothing_by cut b rest (file_judged true (b ∷ rest) bytes) taken kept)

-- chunks up to a place, and those of records laid behind them
behind_chain : (options : WriteOptions) (file : List ℕ) (place : ℕ) (k : ChunkValue) (ks : List ChunkValue) (records : List (List ℕ))
    → options.size ≤ 2 ^ 24 → AreRecords records → IsChainOf IsWellFormedChunk (k ∷ ks) file place
    → IsWellFormed ((k ∷ ks) ++ tail_chunks options place records) (take place file ++ tail_under options place records)
behind_chain options file place k ks records small each h =
    let old : List ChunkValue = k ∷ ks in
    let tail : List ChunkValue = tail_chunks options place records in
    let back : List ℕ = tail_under options place records in
    let whole : List ℕ = take place file ++ back in
    let boundary = chain_boundary old file place h in
    let end : place ≡ end_of_chunks 0 old = omega (arith, end-AreLaid 0 old (take place file) h.laid, length-take-le place file h.within) in
    let laid : AreLaid place tail back = AreLaid-record_chunks place records options.size options.every options.pad boundary each small in
    let plain = IsPlain-record_chunks place records options.size options.every options.pad boundary each small in (
      λ none. absurd cc,
      record {
        signed = h.signed;
        each = recursion_from_All IsWellFormedChunk (old ++ tail)
            (All-append IsWellFormedChunk old tail (All-from_recursion IsWellFormedChunk old h.each)
            (All-weaker IsPlain IsWellFormedChunk (λ x is. inl is) tail (All-from_recursion IsPlain tail plain)));
        within = omega arith;
        laid = subst (AreLaid 0 (old ++ tail)) (sym (take_all (length whole) whole (omega arith)))
            (AreLaid-append 0 old tail (take place file) back h.laid (subst (λ (p : ℕ). AreLaid p tail back) end laid));
      },
    )

-- no chunk ends at 0
none_at_front : (file : List ℕ) (k : ChunkValue) (ks : List ChunkValue) → IsChainOf IsWellFormedChunk (k ∷ ks) file 0 → ⊥
none_at_front file k ks h =
    omega (
      arith,
      end-AreLaid 0 (k ∷ ks) (take 0 file) h.laid,
      length-take-le 0 file h.within,
      end_of_chunks_past (end_of_chunk 0 k) ks,
      end_of_chunk_after 0 k,
    )

first_file : (options : WriteOptions) (records : List (List ℕ)) → options.size ≤ 2 ^ 24 → AreRecords records
    → IsWellFormed (chunks_at options 0 records) (bytes_at options 0 records)
unfolding file_of
first_file options records small each =
    let is = IsReadable-file_of records options.size options.every options.pad each small in
    (is.0, IsChainOf-weaker (λ k plain. inl plain) is.1)

pub grown_well_formed : (options : WriteOptions) (file : List ℕ) (place : ℕ) (ks : List ChunkValue) (records : List (List ℕ))
    → options.size ≤ 2 ^ 24 → AreRecords records → IsChainOf IsWellFormedChunk ks file place
    → IsWellFormed (ks ++ chunks_at options place records) (grown options file place records)
grown_well_formed options file zero [] records small each h = first_file options records small each
grown_well_formed options file zero (k ∷ ks) records small each h = absurd (none_at_front file k ks h)
grown_well_formed options file (suc n) [] records small each h = absurd (omega (arith, no_chunks file (suc n) h))
grown_well_formed options file (suc n) (k ∷ ks) records small each h = behind_chain options file (suc n) k ks records small each h

-- and their records
records_laid : (options : WriteOptions) (file : List ℕ) (place : ℕ) (ks : List ChunkValue) (records : List (List ℕ))
    → options.size ≤ 2 ^ 24 → AreRecords records → IsChainOf IsWellFormedChunk ks file place → AreRecordsOf (chunks_at options place records) records
records_laid options file zero ks records small each h = AreRecordsOf-chunks_of records options.size options.every options.pad each small
records_laid options file (suc n) ks records small each h =
    AreRecordsOf-record_chunks (suc n) records options.size options.every options.pad (chain_boundary ks file (suc n) h) each small

pub grown_records : (options : WriteOptions) (file : List ℕ) (place : ℕ) (ks : List ChunkValue) (old records : List (List ℕ))
    → options.size ≤ 2 ^ 24 → AreRecords records → IsChainOf IsWellFormedChunk ks file place → AreRecordsOf ks old
    → AreRecordsOf (ks ++ chunks_at options place records) (old ++ records)
grown_records options file place ks old records small each h held =
    AreRecordsOf-append ks (chunks_at options place records) old records held (records_laid options file place ks records small each h)
