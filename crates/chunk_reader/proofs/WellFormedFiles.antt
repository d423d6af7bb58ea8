-- Strict reading, and reading that lets unread chunks through.
use Rattle.std.proofs.Common.{◌≡◌, ◌∙◌, ◌↔◌, ℕ, ◌+◌, ◌<◌, true, false, List, [], ◌∷◌, Some, length, take, refl, sym, subst, inl, inr, arith}
use Rattle.std.specs.Prelude.{slice_get, slice_range}
use Rattle.std.specs.List.{AllByRecursion}
use Rattle.std.proofs.lemmas.Option.{none-some}
use Rattle.chunk_header.specs.Chunks.{ChunkValue}
use Rattle.chunk_header.specs.SimpleChunks.{IsCompressed}
use Rattle.meta_chunk.specs.Laid.{IsLaid}
use Rattle.meta_chunk.specs.Files.{IsPlain, IsWellFormedChunk, IsUnread, IsTransposed, IsChainOf, IsReadable, IsWellFormed, begin_of}
use Rattle.meta_chunk.proofs.LaidChunks.{end_of_chunk_after}
use Rattle.meta_chunk.proofs.Begins.{IsLaid-in_file}
use Rattle.meta_chunk.proofs.Chains.{IsChainOf-take, IsChainOf-weaker, AreLaid-one}
use Rattle.meta_chunk.proofs.OneLaying.{IsReadable-plain}
use Rattle.chunk_reader.specs.Places.{chunk_at}
use Rattle.chunk_reader.specs.Reasons.{Applies, IsFirstOf, strict_reasons}
use Rattle.chunk_reader.specs.Faults.{IsVerdict, IsLongest, BeginsWithSignature, IsFault}
use Rattle.chunk_reader.specs.declared.reasons.Why.{Why}
use Rattle.chunk_reader.specs.declared.reasons.Why.TheVariants as why
use Rattle.chunk_reader.specs.declared.reasons.Fault.{Fault}
use Rattle.chunk_reader.proofs.LaidAt.{chunk_at-laid}
use Rattle.chunk_reader.proofs.NoReason.{not_short, not_header_hash, not_truncated, not_too_large, not_block_header, not_data_hash, not_contents, end-laid_in}
use Rattle.chunk_reader.proofs.SignedFiles.{begins_signed}
use Rattle.chunk_reader.proofs.ChainSteps.{longest_where_refused}
use Rattle.chunk_reader.proofs.FileFaults.{longest_is_one}

-- a readable chain is well formed, and a well-formed one in which all chunks are plain is readable
pub plain_of_well_formed : (ks : List ChunkValue) (file : List ℕ) (place : ℕ) → IsChainOf IsWellFormedChunk ks file place → AllByRecursion IsPlain ks
    → IsChainOf IsPlain ks file place
plain_of_well_formed ks file place h plain = record { signed = h.signed; each = plain; within = h.within; laid = h.laid }

pub well_formed_of_plain : (ks : List ChunkValue) (file : List ℕ) (place : ℕ) → IsChainOf IsPlain ks file place → IsChainOf IsWellFormedChunk ks file place
well_formed_of_plain ks file place h = IsChainOf-weaker (λ k plain. inl plain) h

pub readable_of_well_formed : (ks : List ChunkValue) (file : List ℕ) → (IsWellFormed ks file × AllByRecursion IsPlain ks) ↔ IsReadable ks file
readable_of_well_formed ks file = (
  λ h. (h.0.0, plain_of_well_formed ks file (length file) h.0.1 h.1),
  λ h. ((h.0, well_formed_of_plain ks file (length file) h.1), h.1.each),
)

-- a well-formed file has one list of chunks
pub well_formed_is_one : (ks ls : List ChunkValue) (file : List ℕ) → IsWellFormed ks file → IsWellFormed ls file → ks ≡ ls
well_formed_is_one ks ls file h g = AreLaid-one ks ls file (length file) h.1.within h.1.laid g.1.laid

-- and plain chunks have one file
pub file_is_one : (ks : List ChunkValue) (a b : List ℕ) → IsReadable ks a → IsReadable ks b → a ≡ b
file_is_one ks a b h g = IsReadable-plain ks a h ∙ sym (IsReadable-plain ks b g)

-- chains up to one place have the same chunks
pub chain_is_one : {P : ChunkValue → Type 0} (ks ls : List ChunkValue) (file : List ℕ) (place : ℕ)
    → IsChainOf P ks file place → IsChainOf P ls file place → ks ≡ ls
chain_is_one ks ls file place h g = AreLaid-one ks ls file place h.within h.laid g.laid

-- a longest well-formed chain in which all chunks are plain is a longest readable one
pub longest_plain : (ks : List ChunkValue) (file : List ℕ) (place : ℕ) → IsLongest IsWellFormedChunk ks file place → AllByRecursion IsPlain ks
    → IsLongest IsPlain ks file place
longest_plain ks file place h plain = record {
  chain = plain_of_well_formed ks file place h.chain plain;
  greatest = λ others other longer. h.greatest others other (well_formed_of_plain others file other longer);
}

-- a chunk of no name is neither compressed nor transposed
first_strict : (P : Why → Type 0) (w : Why) → ¬ (P why.UnknownKind × P why.Compressed) → ¬ (P why.UnknownKind × P why.Transposed)
    → IsFirstOf P (strict_reasons true) w → IsFirstOf P (strict_reasons false) w
first_strict P w c t (inl short) = inl short
first_strict P w c t (inr (a, inl header)) = inr (a, inl header)
first_strict P w c t (inr (a, inr (b, inl cut))) = inr (a, inr (b, inl cut))
first_strict P w c t (inr (a, inr (b, inr (d, inl large)))) = inr (a, inr (b, inr (d, inl large)))
first_strict P w c t (inr (a, inr (b, inr (d, inr (e, inl block))))) = inr (a, inr (b, inr (d, inr (e, inl block))))
first_strict P w c t (inr (a, inr (b, inr (d, inr (e, inr (f, inl hash)))))) = inr (a, inr (b, inr (d, inr (e, inr (f, inl hash)))))
first_strict P w c t (inr (a, inr (b, inr (d, inr (e, inr (f, inr (g, inl contents))))))) =
    inr (a, inr (b, inr (d, inr (e, inr (f, inr (g, inl contents))))))
first_strict P w c t (inr (a, inr (b, inr (d, inr (e, inr (f, inr (g, inr (i, inl (unknown, is))))))))) =
    inr (
      a,
      inr (
        b,
        inr (
          d,
          inr (
            e,
            inr (
              f,
              inr (
                g,
                inr (
                  i,
                  inr (λ compressed. c (unknown, compressed), inr (λ transposed. t (unknown, transposed), inl (unknown, is))),
                ),
              ),
            ),
          ),
        ),
      ),
    )
first_strict P w c t (inr (a, inr (b, inr (d, inr (e, inr (f, inr (g, inr (i, inr (j, never))))))))) = absurd never

-- so a verdict that lets unread chunks through is the strict one
pub verdict_strict : (file : List ℕ) (place : ℕ) (fault : Fault) → IsVerdict true file place fault → IsVerdict false file place fault
verdict_strict file place fault (first, at) =
    (first_strict (Applies file place) fault.why (λ both. both.0.simple both.1.0) (λ both. both.0.transposed both.1) first, at)

-- and where all chunks before the fault of a file that isn't well formed are plain, it is the
-- file's fault in strict reading
pub fault_strict : (ks : List ChunkValue) (file : List ℕ) (place : ℕ) (fault : Fault)
    → IsFault true file fault → IsLongest IsWellFormedChunk ks file place → AllByRecursion IsPlain ks → IsFault false file fault
fault_strict ks file place fault (inl unsigned) h plain = inl unsigned
fault_strict ks file place fault (inr (signed, (ls, other, longest, below, verdict))) h plain =
    let same : other ≡ place = longest_is_one ls ks file other place longest h in
    inr (
      signed,
      (
        ks,
        place,
        longest_plain ks file place h plain,
        subst (λ (p : ℕ). p < length file) same below,
        verdict_strict file place fault (subst (λ (p : ℕ). IsVerdict true file p fault) same verdict),
      ),
    )

-- a chunk is of one kind
kinds_differ : (k : ChunkValue) → k.kind ≡ 0x74 → k.kind ≡ 0x72 → ⊥
kinds_differ k transposed simple = omega arith

-- a file with a chunk at its front begins as files do
signed_chain : (ks : List ChunkValue) (file : List ℕ) (place j : ℕ) (k : ChunkValue)
    → IsChainOf IsWellFormedChunk ks file place → slice_get ks j ≡ Some k → BeginsWithSignature file
signed_chain [] file place j k h at = absurd (none-some k at)
signed_chain (x ∷ ks) file place j k h at = begins_signed x ks file place h

-- where a chunk is laid that is left unread, the reasons before that one don't apply
first_unread : (begin : ℕ) (k : ChunkValue) (file : List ℕ) (end : ℕ) (first : Why)
    → IsLaid begin k (slice_range file begin end) → IsUnread k
    → IsFirstOf (Applies file begin) (why.Compressed ∷ why.Transposed ∷ why.UnknownKind ∷ []) first
    → IsFirstOf (Applies file begin) (strict_reasons false) first
first_unread begin k file end first h unread later =
    inr (
      not_short begin k file end h,
      inr (
        not_header_hash begin k file end h,
        inr (
          not_truncated begin k file end h,
          inr (
            not_too_large true begin k file end h (inr unread),
            inr (
              not_block_header begin k file end h,
              inr (
                not_data_hash begin k file end h,
                inr (not_contents true begin k file end h (inr unread), later),
              ),
            ),
          ),
        ),
      ),
    )

-- so the strict verdict on it is its name
pub verdict_compressed : (begin : ℕ) (k : ChunkValue) (file : List ℕ) (end : ℕ) → IsLaid begin k (slice_range file begin end)
    → IsUnread k → IsCompressed k → IsVerdict false file begin (record { at = begin; why = why.Compressed })
verdict_compressed begin k file end laid unread compressed =
    let there : IsCompressed (chunk_at file begin) = subst IsCompressed (sym (chunk_at-laid begin k file end laid)) compressed in
    (first_unread begin k file end why.Compressed laid unread (inl (there, refl)), refl)

pub verdict_transposed : (begin : ℕ) (k : ChunkValue) (file : List ℕ) (end : ℕ) → IsLaid begin k (slice_range file begin end)
    → IsUnread k → IsTransposed k → IsVerdict false file begin (record { at = begin; why = why.Transposed })
verdict_transposed begin k file end laid unread transposed =
    let there : IsTransposed (chunk_at file begin) = subst IsTransposed (sym (chunk_at-laid begin k file end laid)) transposed in (
      first_unread begin k file end why.Transposed laid unread
          (inr (λ compressed. kinds_differ (chunk_at file begin) there compressed.0, inl (there, refl))),
      refl,
    )

-- a chunk behind plain ones on which the strict verdict is a fault at its begin: that is the file's fault
fault_behind : (ks : List ChunkValue) (file : List ℕ) (place j : ℕ) (k : ChunkValue) (w : Why)
    → IsChainOf IsWellFormedChunk ks file place → slice_get ks j ≡ Some k → AllByRecursion IsPlain (take j ks)
    → IsVerdict false file (begin_of ks j) (record { at = begin_of ks j; why = w })
    → IsFault false file (record { at = begin_of ks j; why = w })
fault_behind ks file place j k w h at plain verdict =
    let begin : ℕ = begin_of ks j in
    let end : ℕ = begin_of ks (j + 1) in
    let laid : IsLaid begin k (slice_range file begin end) = IsLaid-in_file ks file place j k h.within h.laid at in
    let front : IsChainOf IsPlain (take j ks) file begin =
    plain_of_well_formed (take j ks) file begin (IsChainOf-take j ks file place h) plain in
    inr (
      signed_chain ks file place j k h at,
      (
        take j ks,
        begin,
        longest_where_refused false (take j ks) file begin w front verdict.0,
        omega (arith, end-laid_in begin k file end laid, end_of_chunk_after begin k),
        verdict,
      ),
    )

-- so it is with the first chunk of a well-formed file that is left unread
pub fault_compressed : (ks : List ChunkValue) (file : List ℕ) (place j : ℕ) (k : ChunkValue)
    → IsChainOf IsWellFormedChunk ks file place → slice_get ks j ≡ Some k → AllByRecursion IsPlain (take j ks)
    → IsUnread k → IsCompressed k
    → IsFault false file (record { at = begin_of ks j; why = why.Compressed })
fault_compressed ks file place j k h at plain unread compressed =
    let laid = IsLaid-in_file ks file place j k h.within h.laid at in
    fault_behind ks file place j k why.Compressed h at plain
    (verdict_compressed (begin_of ks j) k file (begin_of ks (j + 1)) laid unread compressed)

pub fault_transposed : (ks : List ChunkValue) (file : List ℕ) (place j : ℕ) (k : ChunkValue)
    → IsChainOf IsWellFormedChunk ks file place → slice_get ks j ≡ Some k → AllByRecursion IsPlain (take j ks)
    → IsUnread k → IsTransposed k
    → IsFault false file (record { at = begin_of ks j; why = why.Transposed })
fault_transposed ks file place j k h at plain unread transposed =
    let laid = IsLaid-in_file ks file place j k h.within h.laid at in
    fault_behind ks file place j k why.Transposed h at plain
    (verdict_transposed (begin_of ks j) k file (begin_of ks (j + 1)) laid unread transposed)
