-- Chains of well-formed chunks go on by a chunk that no reason refuses, and end where one does.
use Rattle.std.proofs.Common.{◌≡◌, ◌∙◌, ℕ, zero, suc, ◌+◌, ◌<◌, ◌≤◌, Bool, List, [], ◌∷◌, ◌++◌, Some, length, take, refl, sym, ap, subst, inl, inr, arith}
use Rattle.std.specs.Prelude.{slice_get, slice_range, if◌then◌else◌}
use Rattle.std.specs.List.{AllByRecursion, sum_by}
use Rattle.std.proofs.lemmas.Bool.{cases_lt}
use Rattle.std.proofs.lemmas.List.{take_all, length-append, length-take-le}
use Rattle.std.proofs.lemmas.List.Sums.{sum_by-append}
use Rattle.std.proofs.lemmas.Option.{slice_get_cases, none-some, same_Some}
use Rattle.block_layout.specs.Layout.{IsBoundary}
use Rattle.record_values.specs.declared.file_totals.Totals.{Totals}
use Rattle.chunk_header.specs.Chunks.{ChunkValue}
use Rattle.meta_chunk.specs.Laid.{IsLaid, end_of_chunk}
use Rattle.meta_chunk.specs.Files.{signature, BeginsSigned, AreLaid, IsChainOf, begin_of, end_of_chunks, is_unread, totals_of}
use Rattle.meta_chunk.proofs.Joins.{end_of_chunks-append, end-AreLaid}
use Rattle.meta_chunk.proofs.Begins.{begin_of_boundary, begin_of-place, IsLaid-in_file}
use Rattle.meta_chunk.proofs.Chains.{IsChainOf-push, AreLaid-front_of}
use Rattle.chunk_reader.specs.Places.{end_at, chunk_at}
use Rattle.chunk_reader.specs.Reasons.{Applies, NoneOf, IsFirstOf, strict_reasons}
use Rattle.chunk_reader.specs.Faults.{IsAllowed, IsLongest, BeginsWithSignature}
use Rattle.chunk_reader.specs.declared.reasons.Why.{Why}
use Rattle.chunk_reader.proofs.NoReason.{within-laid, no_reason, none_is_first}
use Rattle.chunk_reader.proofs.SignedFiles.{IsAllowed-signature, IsLaid-signature, signed_length, chunk_at-signature}

-- a chain of no chunks ends at 0
pub no_chunks : {P : ChunkValue → Type 0} (file : List ℕ) (place : ℕ) → IsChainOf P [] file place → place ≡ 0
no_chunks file place h = omega (arith, ap length h.laid, length-take-le place file h.within)

-- a chain ends at a boundary
pub chain_boundary : {P : ChunkValue → Type 0} (ks : List ChunkValue) (file : List ℕ) (place : ℕ) → IsChainOf P ks file place → IsBoundary place
chain_boundary ks file place h =
    subst IsBoundary (begin_of-place ks file place h.within h.laid) (begin_of_boundary ks (length ks))

-- the empty chain
pub IsChainOf-nil : {P : ChunkValue → Type 0} (file : List ℕ) → IsChainOf P [] file 0
IsChainOf-nil file = record { signed = tt; each = tt; within = omega arith; laid = refl }

-- the signature alone is a chain of a file that begins with it
pub signature_chain : (unread_ok : Bool) (file : List ℕ) → BeginsWithSignature file → IsChainOf (IsAllowed unread_ok) (signature ∷ []) file 64
signature_chain unread_ok file begins =
    IsChainOf-push [] signature file 0 64 (IsChainOf-nil file) refl (IsAllowed-signature unread_ok) (signed_length file begins)
    (IsLaid-signature file begins)

-- in a file that begins with the signature, a chunk behind a chain makes a list that begins with it
signed_on : {P : ChunkValue → Type 0} (ks : List ChunkValue) (file : List ℕ) (place : ℕ) → IsChainOf P ks file place → BeginsWithSignature file
    → BeginsSigned (ks ++ chunk_at file place ∷ [])
signed_on [] file place h begins = ap (chunk_at file) (no_chunks file place h) ∙ chunk_at-signature file begins
signed_on (k ∷ ks) file place h begins = h.signed

-- the chain goes on by the chunk at its end, where that is laid and allowed
pub chain_goes_on : (unread_ok : Bool) (ks : List ChunkValue) (file : List ℕ) (place : ℕ)
    → IsChainOf (IsAllowed unread_ok) ks file place → BeginsWithSignature file
    → IsLaid place (chunk_at file place) (slice_range file place (end_at file place)) → IsAllowed unread_ok (chunk_at file place)
    → IsChainOf (IsAllowed unread_ok) (ks ++ chunk_at file place ∷ []) file (end_at file place)
chain_goes_on unread_ok ks file place h begins laid allowed =
    IsChainOf-push ks (chunk_at file place) file place (end_at file place) h (signed_on ks file place h begins) allowed
    (within-laid place (chunk_at file place) file (end_at file place) laid) laid

-- totals of equal counts are equal
same_totals : (a b c d a' b' c' d' : ℕ) → a ≡ a' → b ≡ b' → c ≡ c' → d ≡ d'
    → let t : Totals = record { chunks = a; records = b; bytes = c; unread = d } in
    t ≡ record { chunks = a'; records = b'; bytes = c'; unread = d' }
same_totals a b c d a' b' c' d' p q r s = rw (p, q, r, s)

-- what is counted of one chunk more
pub totals_of-push : (ks : List ChunkValue) (k : ChunkValue)
    → totals_of (ks ++ k ∷ []) ≡ record {
      chunks = (totals_of ks).chunks + 1;
      records = (totals_of ks).records + (if is_unread k then 0 else k.num_records);
      bytes = end_of_chunk (totals_of ks).bytes k;
      unread = (totals_of ks).unread + (if is_unread k then 1 else 0);
    }
totals_of-push ks k =
    let counted : ChunkValue → ℕ = λ (x : ChunkValue). if is_unread x then 0 else x.num_records in
    let left : ChunkValue → ℕ = λ (x : ChunkValue). if is_unread x then 1 else 0 in
    same_totals _ _ _ _
    ((totals_of ks).chunks + 1) ((totals_of ks).records + counted k) (end_of_chunk (totals_of ks).bytes k) ((totals_of ks).unread + left k)
    (length-append ks (k ∷ []))
    (sum_by-append counted ks (k ∷ []) ∙ ap (λ (n : ℕ). sum_by counted ks + n) (omega arith))
    (end_of_chunks-append 0 ks (k ∷ []))
    (sum_by-append left ks (k ∷ []) ∙ ap (λ (n : ℕ). sum_by left ks + n) (omega arith))

-- the totals of a chain have its end
pub bytes-chain : {P : ChunkValue → Type 0} (ks : List ChunkValue) (file : List ℕ) (place : ℕ) → IsChainOf P ks file place
    → (totals_of ks).bytes ≡ place
bytes-chain ks file place h =
    omega (arith, end-AreLaid 0 ks (take place file) h.laid, length-take-le place file h.within)

-- an element of a list of which each meets P
pub each_at : (P : ChunkValue → Type 0) (ks : List ChunkValue) (j : ℕ) (k : ChunkValue) → AllByRecursion P ks → slice_get ks j ≡ Some k → P k
each_at P [] j k h at = absurd (none-some k at)
each_at P (x ∷ ks) zero k h at = subst P (same_Some x k at) h.0
each_at P (x ∷ ks) (suc j) k h at = each_at P ks j k h.1 at

-- where a chain reaches further than laid chunks, the chunk behind these is laid and meets P
pub further_on : (P : ChunkValue → Type 0) (ks others : List ChunkValue) (file : List ℕ) (place other : ℕ)
    → place ≤ length file → AreLaid 0 ks (take place file) → IsChainOf P others file other → place < other
    → (k : ChunkValue) × (end : ℕ) × P k × IsLaid place k (slice_range file place end)
further_on P ks others file place other within laid h further =
    let front : ks ≡ take (length ks) others =
    AreLaid-front_of ks others file place other h.within (omega arith) laid h.laid in
    let here : end_of_chunks 0 ks ≡ place =
    omega (arith, end-AreLaid 0 ks (take place file) laid, length-take-le place file within) in
    elim (slice_get_cases others (length ks)).1 [
      | inl (k, inside, at, same) ↦
          let begin : begin_of others (length ks) ≡ place = ap (end_of_chunks 0) (sym front) ∙ here in
          let end : ℕ = begin_of others (length ks + 1) in (
            k,
            end,
            each_at P others (length ks) k h.each at,
            subst (λ (b : ℕ). IsLaid b k (slice_range file b end)) begin
                (IsLaid-in_file others file other (length ks) k h.within h.laid at),
          )
      | inr (past, none) ↦
          let all : ks ≡ others = front ∙ take_all (length ks) others past in
          absurd (omega (
            arith,
            here,
            ap (end_of_chunks 0) all,
            end-AreLaid 0 others (take other file) h.laid,
            length-take-le other file h.within,
          ))
    ]

-- so where a reason applies at the end of a chain, no chain is longer
pub no_longer : (unread_ok : Bool) (ks : List ChunkValue) (file : List ℕ) (place : ℕ)
    → IsChainOf (IsAllowed unread_ok) ks file place → ¬ NoneOf (Applies file place) (strict_reasons unread_ok)
    → IsLongest (IsAllowed unread_ok) ks file place
no_longer unread_ok ks file place h refused = record {
  chain = h;
  greatest = λ others other longer.
      elim (cases_lt place other) [
        | inl further ↦
            let next = further_on (IsAllowed unread_ok) ks others file place other h.within h.laid longer further in
            absurd (refused (no_reason unread_ok place next.0 file next.1 next.3 next.2))
        | inr at_most ↦ at_most
      ];
}

-- where one of them is the first that does, not none of them does
pub longest_where_refused : (unread_ok : Bool) (ks : List ChunkValue) (file : List ℕ) (place : ℕ) (first : Why)
    → IsChainOf (IsAllowed unread_ok) ks file place → IsFirstOf (Applies file place) (strict_reasons unread_ok) first
    → IsLongest (IsAllowed unread_ok) ks file place
longest_where_refused unread_ok ks file place first h refused =
    no_longer unread_ok ks file place h (λ none. none_is_first (Applies file place) (strict_reasons unread_ok) first none refused)

-- a chain to the end of the file is the longest
pub longest_where_whole : (P : ChunkValue → Type 0) (ks : List ChunkValue) (file : List ℕ) → IsChainOf P ks file (length file)
    → IsLongest P ks file (length file)
longest_where_whole P ks file h = record { chain = h; greatest = λ others other longer. longer.within }
