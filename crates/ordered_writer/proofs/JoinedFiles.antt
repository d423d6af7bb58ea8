-- A file behind another and its padding.
use Rattle.std.proofs.Common.{◌≡◌, ◌≢◌, ◌∙◌, ℕ, ◌+◌, ◌*◌, ◌/◌, cond, false, List, [], ◌∷◌, ◌++◌, length, refl, sym, ap, subst, inl, inr, arith}
use Rattle.std.specs.Prelude.{not, slice_index, ◌==◌, ◌&&◌, ◌||◌}
use Rattle.std.specs.List.{AllByRecursion, sum_by}
use Rattle.std.proofs.lemmas.Bool.{cond-false}
use Rattle.std.proofs.lemmas.List.{append-nil, append_assoc, length-append, take_all}
use Rattle.std.proofs.lemmas.List.Elements.{All-append, All-from_recursion, All-weaker, recursion_from_All}
use Rattle.std.proofs.lemmas.List.Sums.{sum_by-append, sum_by-cons}
use Rattle.block_layout.specs.Layout.{IsBlock, IsBoundary}
use Rattle.record_values.specs.declared.file_totals.Totals.{Totals}
use Rattle.chunk_header.specs.Chunks.{ChunkValue}
use Rattle.chunk_header.specs.SimpleChunks.{IsSimpleChunk}
use Rattle.meta_chunk.specs.Files.{is_unread, totals_of, AreLaid, AreRecordsOf, BeginsSigned, IsFileOf, IsWellFormed, IsPlain, end_of_chunks}
use Rattle.meta_chunk.specs.Kinds.{IsPadding}
use Rattle.meta_chunk.specs.PaddingSizes.{padding_at}
use Rattle.meta_chunk.proofs.Begins.{end_of_chunks_boundary}
use Rattle.meta_chunk.proofs.Held.{AreRecordsOf-append}
use Rattle.meta_chunk.proofs.Joins.{AreLaid-append, end-AreLaid, end-laid_each, end_of_chunks-append}
use Rattle.meta_chunk.proofs.LaidChunks.{AreLaid-laid_each}
use Rattle.meta_chunk.proofs.PaddingLemmas.{IsBlock-padding_at, padding_at_are_chunks, padding_at_are_padding, padding_at_are_plain}
use Rattle.ordered_writer.specs.Padding.{padding_bytes}
use Rattle.ordered_writer.proofs.Moves.{AreLaid-alike, end_of_chunks-further}

-- the chunks of a file are laid from its front, and it ends where they do
laid_whole : {P : ChunkValue → Type 0} (ks : List ChunkValue) (file : List ℕ) → IsFileOf P ks file → AreLaid 0 ks file
laid_whole ks file h = subst (AreLaid 0 ks) (take_all (length file) file (omega arith)) h.1.laid

pub length-file : {P : ChunkValue → Type 0} (ks : List ChunkValue) (file : List ℕ) → IsFileOf P ks file → end_of_chunks 0 ks ≡ length file
length-file ks file h = omega (arith, end-AreLaid 0 ks file (laid_whole ks file h))

-- which is a boundary
pub IsBoundary-file : {P : ChunkValue → Type 0} (ks : List ChunkValue) (file : List ℕ) → IsFileOf P ks file → IsBoundary (length file)
IsBoundary-file ks file h = subst IsBoundary (length-file ks file h) (end_of_chunks_boundary 0 ks (inl refl))

-- chunks that begin with a signature do so with others behind them
signed_more : (ks more : List ChunkValue) → ks ≢ [] → BeginsSigned ks → BeginsSigned (ks ++ more)
signed_more [] more some signed = absurd (some refl)
signed_more (k ∷ ks) more some signed = signed

some_more : (ks more : List ChunkValue) → ks ≢ [] → ks ++ more ≢ []
some_more [] more some = absurd (some refl)
some_more (k ∷ ks) more some = λ none. absurd cc

-- the padding and the other file are laid behind the first
laid_behind : (place : ℕ) (more : List ChunkValue) (other : List ℕ) → IsBoundary place → AreLaid 0 more other
    → AreLaid place (padding_at place ++ more) (padding_bytes place ++ other)
laid_behind place more other boundary h =
    let block : IsBlock (end_of_chunks place (padding_at place)) = IsBlock-padding_at place boundary in
    AreLaid-append place (padding_at place) more (padding_bytes place) other
    (AreLaid-laid_each place (padding_at place) (padding_at_are_chunks place boundary))
    (AreLaid-alike 0 (end_of_chunks place (padding_at place)) more other (omega (arith, block)) h)

-- so they are one file, where padding meets what the chunks meet
pub IsFileOf-joined : {P : ChunkValue → Type 0} (ks more : List ChunkValue) (file other : List ℕ)
    → ((k : ChunkValue) → IsPlain k → P k) → IsFileOf P ks file → IsFileOf P more other
    → IsFileOf P (ks ++ padding_at (length file) ++ more) (file ++ padding_bytes (length file) ++ other)
IsFileOf-joined {P} ks more file other plain h g =
    let place : ℕ = length file in
    let behind : List ChunkValue = padding_at place ++ more in
    let chunks : List ChunkValue = ks ++ padding_at place ++ more in
    let whole : List ℕ = file ++ padding_bytes place ++ other in
    let same_chunks : chunks ≡ ks ++ behind = append_assoc ks (padding_at place) more in
    let same_bytes : whole ≡ file ++ (padding_bytes place ++ other) = append_assoc file (padding_bytes place) other in
    let boundary : IsBoundary place = IsBoundary-file ks file h in
    let pads = All-weaker IsPlain P plain (padding_at place) (All-from_recursion IsPlain (padding_at place) (padding_at_are_plain place boundary)) in
    let laid : AreLaid 0 chunks whole =
    subst (λ (xs : List ChunkValue). AreLaid 0 xs whole) (sym same_chunks)
    (subst (AreLaid 0 (ks ++ behind)) (sym same_bytes)
    (AreLaid-append 0 ks behind file (padding_bytes place ++ other) (laid_whole ks file h)
    (subst (λ (p : ℕ). AreLaid p behind (padding_bytes place ++ other)) (sym (length-file ks file h))
    (laid_behind place more other boundary (laid_whole more other g))))) in (
      subst (λ (xs : List ChunkValue). xs ≢ []) (sym same_chunks) (some_more ks behind h.0),
      record {
        signed = subst BeginsSigned (sym same_chunks) (signed_more ks behind h.0 h.1.signed);
        each = recursion_from_All P chunks
            (All-append P (ks ++ padding_at place) more
            (All-append P ks (padding_at place) (All-from_recursion P ks h.1.each) pads)
            (All-from_recursion P more g.1.each));
        within = omega arith;
        laid = subst (AreLaid 0 chunks) (sym (take_all (length whole) whole (omega arith))) laid;
      },
    )

-- its length
pub length-joined : (file other : List ℕ)
    → length (file ++ padding_bytes (length file) ++ other) ≡ end_of_chunks (length file) (padding_at (length file)) + length other
length-joined file other =
    let place : ℕ = length file in
    omega (
      arith,
      length-append (file ++ padding_bytes place) other,
      length-append file (padding_bytes place),
      end-laid_each place (padding_at place),
    )

-- padding chunks hold no records
padding_holds : (ks : List ChunkValue) → AllByRecursion IsPadding ks → AreRecordsOf ks []
padding_holds [] each = ([], refl, refl)
padding_holds (k ∷ ks) each =
    let rest = padding_holds ks each.1 in
    let none : ¬ IsSimpleChunk k = λ has. absurd (omega (arith, has.1.kind, each.0.0)) in
    ([] ∷ rest.0, (inr (none, refl), rest.1), rest.2)

-- so the records are those of both files
pub records-joined : (ks more : List ChunkValue) (a b : List (List ℕ)) (place : ℕ) → IsBoundary place → AreRecordsOf ks a → AreRecordsOf more b
    → AreRecordsOf (ks ++ padding_at place ++ more) (a ++ b)
records-joined ks more a b place boundary h g =
    let padded : AreRecordsOf (ks ++ padding_at place) (a ++ []) =
    AreRecordsOf-append ks (padding_at place) a [] h (padding_holds (padding_at place) (padding_at_are_padding place boundary)) in
    AreRecordsOf-append (ks ++ padding_at place) more a b (subst (AreRecordsOf (ks ++ padding_at place)) (append-nil a) padded) g

-- nor are they counted as unread
padding_read : (k : ChunkValue) → IsPadding k → is_unread k ≡ false
padding_read k is = ap (λ (kind : ℕ). (kind == 0x74) || ((kind == 0x72) && not (slice_index k.«data» 0 == 0))) is.0

abbrev counted : ChunkValue → ℕ
counted k = cond (is_unread k) 0 k.num_records

abbrev one_unread : ChunkValue → ℕ
one_unread k = cond (is_unread k) 1 0

padding_counts : (ks : List ChunkValue) → AllByRecursion IsPadding ks → (sum_by counted ks ≡ 0) × (sum_by one_unread ks ≡ 0)
padding_counts [] each = (refl, refl)
padding_counts (k ∷ ks) each =
    let rest = padding_counts ks each.1 in
    let read : is_unread k ≡ false = padding_read k each.0 in
    let none : k.num_records ≡ 0 = (each.0.1.padding refl).0 in (
      omega (arith, sum_by-cons counted k ks, cond-false {A = ℕ} (is_unread k) 0 k.num_records read, none, rest.0),
      omega (arith, sum_by-cons one_unread k ks, cond-false {A = ℕ} (is_unread k) 1 0 read, rest.1),
    )

-- and the totals are those of both, and the padding chunk
same_totals : (t u : Totals) → t.chunks ≡ u.chunks → t.records ≡ u.records → t.bytes ≡ u.bytes → t.unread ≡ u.unread → t ≡ u
same_totals t u chunks records bytes unread =
    ap (λ (n : ℕ). record { chunks = n; records = t.records; bytes = t.bytes; unread = t.unread }) chunks
    ∙ ap (λ (n : ℕ). record { chunks = u.chunks; records = n; bytes = t.bytes; unread = t.unread }) records
    ∙ ap (λ (n : ℕ). record { chunks = u.chunks; records = u.records; bytes = n; unread = t.unread }) bytes
    ∙ ap (λ (n : ℕ). record { chunks = u.chunks; records = u.records; bytes = u.bytes; unread = n }) unread

pub totals-joined : (ks more : List ChunkValue) (file : List ℕ) → IsWellFormed ks file
    → totals_of (ks ++ padding_at (length file) ++ more) ≡ record {
      chunks = (totals_of ks).chunks + length (padding_at (length file)) + (totals_of more).chunks;
      records = (totals_of ks).records + (totals_of more).records;
      bytes = end_of_chunks (length file) (padding_at (length file)) + (totals_of more).bytes;
      unread = (totals_of ks).unread + (totals_of more).unread;
    }
totals-joined ks more file h =
    let place : ℕ = length file in
    let pads : List ChunkValue = padding_at place in
    let boundary : IsBoundary place = IsBoundary-file ks file h in
    let end : ℕ = end_of_chunks place pads in
    let block : IsBlock end = IsBlock-padding_at place boundary in
    let none = padding_counts pads (padding_at_are_padding place boundary) in
    let from : end ≡ 0 + end / 65536 * 65536 = omega (arith, block) in
    let bytes : end_of_chunks 0 (ks ++ pads ++ more) ≡ end_of_chunks 0 more + end / 65536 * 65536 =
    end_of_chunks-append 0 (ks ++ pads) more
    ∙ ap (λ (p : ℕ). end_of_chunks p more) (end_of_chunks-append 0 ks pads)
    ∙ ap (λ (p : ℕ). end_of_chunks (end_of_chunks p pads) more) (length-file ks file h)
    ∙ ap (λ (p : ℕ). end_of_chunks p more) from
    ∙ end_of_chunks-further 0 (end / 65536) more in
    same_totals (totals_of (ks ++ pads ++ more))
    (record {
      chunks = (totals_of ks).chunks + length pads + (totals_of more).chunks;
      records = (totals_of ks).records + (totals_of more).records;
      bytes = end + (totals_of more).bytes;
      unread = (totals_of ks).unread + (totals_of more).unread;
    })
    (length-append (ks ++ pads) more ∙ ap (λ (n : ℕ). n + length more) (length-append ks pads))
    (omega (arith, sum_by-append counted (ks ++ pads) more, sum_by-append counted ks pads, none.0))
    (omega (arith, bytes, from))
    (omega (arith, sum_by-append one_unread (ks ++ pads) more, sum_by-append one_unread ks pads, none.1))
