-- What reading has shown of a file once it has passed some chunks: the next one, the file's fault, or that it has none.
use Rattle.std.proofs.Common.{◌≡◌, ◌∙◌, ℕ, ◌+◌, ◌<◌, ◌≤◌, Bool, true, false, List, [], ◌∷◌, ◌++◌, length, refl, sym, ap, subst, inl, inr, arith}
use Rattle.std.specs.Prelude.{slice_range, if◌then◌else◌}
use Rattle.std.specs.List.{sum_by}
use Rattle.std.proofs.lemmas.Bool.{cases_eq, cases_Bool, cond-true, cond-false}
use Rattle.std.proofs.lemmas.List.Sums.{sum_by-cons, count_by-le-length}
use Rattle.block_layout.proofs.ChunkEnds.{chunk_end_of_boundary, chunk_end_of_past_bytes, chunk_end_of_past_records}
use Rattle.block_layout.proofs.Ends.{end_of_mono}
use Rattle.block_layout.specs.Layout.{end_of}
use Rattle.block_layout.specs.NextPlaces.{IsOnBoundary}
use Rattle.chunk_header.specs.Chunks.{ChunkValue}
use Rattle.record_values.specs.declared.file_totals.Totals.{Totals}
use Rattle.meta_chunk.specs.Laid.{IsLaid, end_of_chunk}
use Rattle.meta_chunk.specs.Files.{IsChainOf, end_of_chunks, is_unread, totals_of}
use Rattle.meta_chunk.proofs.LaidChunks.{end_of_chunk_after}
use Rattle.chunk_reader.specs.Reasons.{Applies, NoneOf, strict_reasons}
use Rattle.chunk_reader.specs.Faults.{IsAllowed, IsVerdict, IsLongest, BeginsWithSignature, HasNoFault, IsFault}
use Rattle.chunk_reader.specs.declared.reasons.Why.TheVariants as why
use Rattle.chunk_reader.specs.declared.reasons.Fault.{Fault}
use Rattle.chunk_reader.specs.Places.{end_at, chunk_at}
use Rattle.chunk_reader.specs.Progress.{totals_with_chunk, AreInBounds}
use Rattle.chunk_reader.proofs.LaidAt.{end_at-laid}
use Rattle.chunk_reader.proofs.NoReason.{no_reason}
use Rattle.chunk_reader.proofs.NoReasonLaid.{allowed_where_none}
use Rattle.chunk_reader.proofs.SignedFiles.{signed_length, begins_signed}
use Rattle.chunk_reader.proofs.ChainSteps.{bytes-chain, totals_of-push, chain_goes_on, no_chunks, further_on, longest_where_refused}
use Rattle.chunk_reader.proofs.FileFaults.{longest_is_one}

-- a verdict behind a chain is the file's fault
pub fault_here : (unread_ok : Bool) (ks : List ChunkValue) (file : List ℕ) (place : ℕ) (fault : Fault)
    → BeginsWithSignature file → IsChainOf (IsAllowed unread_ok) ks file place → place < length file → IsVerdict unread_ok file place fault
    → IsFault unread_ok file fault
fault_here unread_ok ks file place fault begins h below verdict =
    inr (begins, (ks, place, longest_where_refused unread_ok ks file place fault.why h verdict.0, below, verdict))

-- and the file's fault is the verdict behind the longest chain
pub verdict_here : (unread_ok : Bool) (ks : List ChunkValue) (file : List ℕ) (place : ℕ) (fault : Fault)
    → BeginsWithSignature file → IsLongest (IsAllowed unread_ok) ks file place → IsFault unread_ok file fault → IsVerdict unread_ok file place fault
verdict_here unread_ok ks file place fault begins h (inl (unsigned, is)) = absurd (unsigned begins)
verdict_here unread_ok ks file place fault begins h (inr (signed, (ls, other, longest, below, verdict))) =
    subst (λ (p : ℕ). IsVerdict unread_ok file p fault) (longest_is_one ls ks file other place longest h) verdict

-- a file that doesn't begin with the signature has this fault
pub fault_unsigned : (unread_ok : Bool) (file : List ℕ) → ¬ BeginsWithSignature file → IsFault unread_ok file (record { at = 0; why = why.NoSignature })
fault_unsigned unread_ok file unsigned = inl (unsigned, refl)

-- where a chain of chunks reaches further, no reason applies behind the shorter one
pub no_reason_before : (unread_ok : Bool) (ks others : List ChunkValue) (file : List ℕ) (place other : ℕ)
    → IsChainOf (IsAllowed unread_ok) ks file place → IsChainOf (IsAllowed unread_ok) others file other → place < other
    → NoneOf (Applies file place) (strict_reasons unread_ok)
no_reason_before unread_ok ks others file place other h longer below =
    let next = further_on (IsAllowed unread_ok) ks others file place other h.within h.laid longer below in
    no_reason unread_ok place next.0 file next.1 next.3 next.2

-- so none does in a file without fault, up to its end
pub no_reason_without_fault : (unread_ok : Bool) (ks : List ChunkValue) (file : List ℕ) (place : ℕ)
    → HasNoFault unread_ok file → IsChainOf (IsAllowed unread_ok) ks file place → place < length file
    → NoneOf (Applies file place) (strict_reasons unread_ok)
no_reason_without_fault unread_ok ks file place (others, (some, whole)) h below =
    no_reason_before unread_ok ks others file place (length file) h whole below

-- a chain to the end of the file shows that it has none
pub no_fault_here : (unread_ok : Bool) (ks : List ChunkValue) (file : List ℕ)
    → BeginsWithSignature file → IsChainOf (IsAllowed unread_ok) ks file (length file) → HasNoFault unread_ok file
no_fault_here unread_ok ks file begins h = (
  ks,
  (
    λ none. omega (
      arith,
      signed_length file begins,
      no_chunks file (length file) (subst (λ (xs : List ChunkValue). IsChainOf (IsAllowed unread_ok) xs file (length file)) none h),
    ),
    h,
  ),
)

-- no count of chunks passes their bytes
counts-le : (place : ℕ) (ks : List ChunkValue)
    → (place + length ks ≤ end_of_chunks place ks)
    × (place + sum_by (λ k. if is_unread k then 0 else k.num_records) ks ≤ end_of_chunks place ks)
counts-le place [] = (omega arith, omega arith)
counts-le place (k ∷ ks) =
    let read_of : ChunkValue → ℕ = λ (x : ChunkValue). if is_unread x then 0 else x.num_records in
    let rest = counts-le (end_of_chunk place k) ks in
    let records : read_of k ≤ k.num_records = elim (cases_Bool (is_unread k)) [
      | inl unread ↦ omega (arith, cond-true (is_unread k) 0 k.num_records unread)
      | inr read ↦ omega (arith, cond-false (is_unread k) 0 k.num_records read)
    ] in (
      omega (arith, rest.0, end_of_chunk_after place k),
      omega (arith, rest.1, sum_by-cons read_of k ks, records, chunk_end_of_past_records place (40 + length k.«data») k.num_records),
    )

pub totals-le : (ks : List ChunkValue)
    → ((totals_of ks).chunks ≤ (totals_of ks).bytes) × ((totals_of ks).records ≤ (totals_of ks).bytes) × ((totals_of ks).unread ≤ (totals_of ks).chunks)
totals-le ks =
    let counts = counts-le 0 ks in
    (omega (arith, counts.0), omega (arith, counts.1), count_by-le-length is_unread ks)

-- a file with chunks up to a place behind its front begins as files do
pub begins_here : (unread_ok : Bool) (ks : List ChunkValue) (file : List ℕ) (place : ℕ)
    → IsChainOf (IsAllowed unread_ok) ks file place → 0 < place → BeginsWithSignature file
begins_here unread_ok [] file place h some = absurd (omega (arith, no_chunks file place h))
begins_here unread_ok (k ∷ ks) file place h some = begins_signed k ks file place h

-- the chain with the chunk behind it, which no reason refuses, and what is counted of it
pub next_read : (unread_ok : Bool) (ks : List ChunkValue) (file : List ℕ) (place end : ℕ) (k : ChunkValue) (unread : Bool)
    → BeginsWithSignature file → IsChainOf (IsAllowed unread_ok) ks file place
    → k ≡ chunk_at file place → end ≡ end_at file place
    → IsLaid place (chunk_at file place) (slice_range file place (end_at file place))
    → NoneOf (Applies file place) (strict_reasons unread_ok) → unread ≡ is_unread k
    → IsChainOf (IsAllowed unread_ok) (ks ++ k ∷ []) file end
    × (totals_with_chunk (totals_of ks) end k.num_records unread ≡ totals_of (ks ++ k ∷ []))
next_read unread_ok ks file place end k unread begins h chunk_is end_is laid none tested =
    let longer : IsChainOf (IsAllowed unread_ok) (ks ++ k ∷ []) file end =
    subst (λ (e : ℕ). IsChainOf (IsAllowed unread_ok) (ks ++ k ∷ []) file e) (sym end_is)
    (subst (λ (c : ChunkValue). IsChainOf (IsAllowed unread_ok) (ks ++ c ∷ []) file (end_at file place)) (sym chunk_is)
    (chain_goes_on unread_ok ks file place h begins laid (allowed_where_none unread_ok file place none))) in
    let ends : end_of_chunk (totals_of ks).bytes k ≡ end =
    ap (λ (c : ChunkValue). end_of_chunk (totals_of ks).bytes c) chunk_is
    ∙ ap (λ (p : ℕ). end_of_chunk p (chunk_at file place)) (bytes-chain ks file place h)
    ∙ sym (end_at-laid place (chunk_at file place) file (end_at file place) laid)
    ∙ sym end_is in (
      longer,
      ap (totals_with_chunk (totals_of ks) end k.num_records) tested
          ∙ sym (totals_of-push ks k ∙ ap (λ (e : ℕ). totals_with_chunk (totals_of ks) e k.num_records (is_unread k)) ends),
    )

-- a chunk ends at a boundary, 64 bytes behind the front or further
end_on_boundary : (place : ℕ) (k : ChunkValue) → IsOnBoundary (end_of_chunk place k)
end_on_boundary place k inside =
    elim (chunk_end_of_boundary place (40 + length k.«data») k.num_records) [ inl block ↦ omega arith | inr behind ↦ behind ]

first_header_end : end_of 0 40 ≡ 64
unfolding end_of
first_header_end = refl

end_behind : (place : ℕ) (k : ChunkValue) → (0 < place → 64 ≤ place) → 64 ≤ end_of_chunk place k
end_behind place k behind =
    elim (cases_eq place 0) [
      | inl front ↦
          subst (λ (p : ℕ). 64 ≤ end_of_chunk p k) (sym front)
          (omega (arith, first_header_end, end_of_mono 0 40 (40 + length k.«data») (omega arith), chunk_end_of_past_bytes 0 (40 + length k.«data») k.num_records))
      | inr further ↦ omega (arith, behind (omega arith), end_of_chunk_after place k)
    ]

-- totals of a front keep their bounds with one chunk more
pub next-le : (bytes end records more : ℕ) (unread : Bool) → bytes + more ≤ end → records ≤ bytes → records + (if unread then 0 else more) ≤ end
next-le bytes end records more true past few = omega arith
next-le bytes end records more false past few = omega arith

pub unread-le : (bytes end unread_ones : ℕ) (unread : Bool) → bytes + 40 ≤ end → unread_ones ≤ bytes → unread_ones + (if unread then 1 else 0) ≤ end
unread-le bytes end unread_ones true past few = omega arith
unread-le bytes end unread_ones false past few = omega arith

pub AreInBounds-next : (size end : ℕ) (totals : Totals) (k : ChunkValue) (unread : Bool)
    → AreInBounds size totals → end ≡ end_of_chunk totals.bytes k → end ≤ size
    → AreInBounds size (totals_with_chunk totals end k.num_records unread)
AreInBounds-next size end totals k unread h ends within =
    let past : totals.bytes + 40 ≤ end = omega (arith, ends, end_of_chunk_after totals.bytes k) in
    let records : totals.bytes + k.num_records ≤ end =
    omega (arith, ends, chunk_end_of_past_records totals.bytes (40 + length k.«data») k.num_records) in
    record {
      within = within;
      boundary = subst IsOnBoundary (sym ends) (end_on_boundary totals.bytes k);
      signed = λ some. omega (arith, ends, end_behind totals.bytes k h.signed);
      chunks = omega (arith, h.chunks);
      records = next-le totals.bytes end totals.records k.num_records unread records h.records;
      unread = unread-le totals.bytes end totals.unread unread past h.unread;
    }

-- so no sum of the count is too large
pub totals_with_chunk-room : (totals : Totals) (end : ℕ) (k : ChunkValue) → end ≡ end_of_chunk totals.bytes k → totals.bytes + k.num_records ≤ end
totals_with_chunk-room totals end k ends =
    omega (arith, ends, chunk_end_of_past_records totals.bytes (40 + length k.«data») k.num_records)
