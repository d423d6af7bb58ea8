-- At a place of a file that is not its end one piece begins, which ends past it.
use Rattle.std.proofs.Common.{◌≡◌, ◌≢◌, ◌∙◌, ◌⊎◌, ℕ, ◌+◌, ◌<◌, ◌≤◌, Bool, true, false, List, length, get_or, refl, sym, ap, subst, inl, inr, arith}
use Rattle.block_layout.proofs.ChunkEnds.{chunk_end_of_boundary}
use Rattle.chunk_header.specs.Chunks.{ChunkValue}
use Rattle.chunk_header.specs.SimpleChunks.{IsSimple, IsCompressed}
use Rattle.chunk_header.proofs.OneList.{records_are_one}
use Rattle.chunk_header.proofs.Decided.{IsDecided}
use Rattle.meta_chunk.specs.Files.{IsTransposed}
use Rattle.meta_chunk.specs.Kinds.{IsSignature, IsMetadata, IsPadding}
use Rattle.chunk_reader.specs.Places.{header_at, end_at, chunk_at}
use Rattle.chunk_reader.specs.Reasons.{NoneOf, IsFirstOf, content_reasons}
use Rattle.chunk_reader.specs.declared.reasons.Why.{Why}
use Rattle.chunk_reader.specs.declared.reasons.Why.TheVariants as why
use Rattle.chunk_reader.proofs.Blocks.{stands_within}
use Rattle.chunk_reader.proofs.PassedChunks.{end_at_after}
use Rattle.chunk_reader.proofs.FileFaults.{first_is_one, first_applies}
use Rattle.chunk_reader.proofs.FaultsDecided.{reason_decided, first_or_none}
use Rattle.chunk_reader.proofs.NoReason.{none_is_first}
use Rattle.chunk_reader.proofs.NoReasonLaid.{content_where_none}
use Rattle.chunk_reader.proofs.AllowedChunks.{IsPassed}
use Rattle.damage_skip.specs.Resyncs.{Contradicts, landing}
use Rattle.damage_skip.specs.Pieces.{PieceKind, Records, Kept, SignatureOrPadding, Skipped, SkipsFor, walk_reasons, SkipsTo, IsFoundAs, IsPieceOf}
use Rattle.damage_skip.specs.Steps.{IsOnward}
use Rattle.damage_skip.proofs.PlacesFurtherOn.{onward-landing, landing_same, first_block_one, first_block_of, resync_past, resync_one, resync_of, says_against, against_decided, some_against_decided}

-- whether a reason passes over
pub passes_decided : (file : List ℕ) (place : ℕ) (w : Why) → IsDecided (SkipsFor file place w)
passes_decided file place why.Contradicted = some_against_decided file place (end_at file place)
passes_decided file place other = reason_decided file place other

-- where it does, bytes are passed over up to a place
skips_of : (file : List ℕ) (place : ℕ) (w : Why) → SkipsFor file place w → (to : ℕ) × SkipsTo file place w to
skips_of file place why.Short h = resync_of file place
skips_of file place why.HeaderHash h = resync_of file place
skips_of file place why.Contradicted (b, p, n, h) =
    let against = Contradicts file place (end_at file place) in
    let first = first_block_of against (against_decided file place (end_at file place)) b p n h in
    (landing (length file) place first.0 first.1 first.2, (first.0, first.1, first.2, first.3, refl))
skips_of file place why.Truncated h = (length file, refl)
skips_of file place other h = (end_at file place, refl)

-- which is one
skips_one : (file : List ℕ) (place : ℕ) (w : Why) (to other : ℕ) → SkipsTo file place w to → SkipsTo file place w other → to ≡ other
skips_one file place why.Short to other h g = resync_one file place to other h g
skips_one file place why.HeaderHash to other h g = resync_one file place to other h g
skips_one file place why.Contradicted to other (b, p, n, first, is) (c, q, m, also, there) =
    is
    ∙ landing_same (length file) place b p n c q m
    (first_block_one (Contradicts file place (end_at file place)) (says_against file place (end_at file place)) b p n c q m first also)
    ∙ sym there
skips_one file place why.Truncated to other is there = is ∙ sym there
skips_one file place w to other is there = is ∙ sym there

-- the end of a chunk that the file has whole
end_past : (file : List ℕ) (place : ℕ) → end_at file place ≤ length file → IsOnward (length file) place (end_at file place)
end_past file place whole = record {
  past = omega (arith, end_at_after file place);
  within = whole;
  boundary = inl (chunk_end_of_boundary place (40 + (header_at file place).data_size) (header_at file place).num_records);
}

-- a reason behind the first four is the first only of a chunk that the file has whole
pub whole_later : (unread_ok : Bool) (file : List ℕ) (place : ℕ) (w : Why) → w ≢ why.Short → w ≢ why.HeaderHash → w ≢ why.Contradicted → w ≢ why.Truncated
    → IsFirstOf (SkipsFor file place) (walk_reasons unread_ok) w → end_at file place ≤ length file
whole_later unread_ok file place w short header against cut (inl (applies, is)) = absurd (short is)
whole_later unread_ok file place w short header against cut (inr (not, inl (applies, is))) = absurd (header is)
whole_later unread_ok file place w short header against cut (inr (not, inr (nor, inl (applies, is)))) = absurd (against is)
whole_later unread_ok file place w short header against cut (inr (not, inr (nor, inr (also, inl (applies, is))))) = absurd (cut is)
whole_later unread_ok file place w short header against cut (inr (not, inr (nor, inr (also, inr (whole, later))))) = omega (arith, whole)

-- it is past the place that is passed over
pub skips_past : (unread_ok : Bool) (file : List ℕ) (place : ℕ) (w : Why) (to : ℕ) → place < length file
    → IsFirstOf (SkipsFor file place) (walk_reasons unread_ok) w → SkipsTo file place w to → IsOnward (length file) place to
skips_past unread_ok file place why.Short to below first h = resync_past file place to below h
skips_past unread_ok file place why.HeaderHash to below first h = resync_past file place to below h
skips_past unread_ok file place why.Contradicted to below first (b, p, n, against, is) =
    subst (IsOnward (length file) place) (sym is)
    (onward-landing (length file) place b p n against.holds.stands.sane against.holds.from
    (omega (arith, stands_within file b p n against.holds.stands)))
skips_past unread_ok file place why.Truncated to below first is =
    record { past = omega (arith, is); within = omega (arith, is); boundary = inr is }
skips_past unread_ok file place other to below first is =
    subst (IsOnward (length file) place) (sym is)
    (end_past file place (whole_later unread_ok file place other (λ e. cc) (λ e. cc) (λ e. cc) (λ e. cc) first))

-- a chunk of records is none that is kept, nor one that is left out
pub given_or_kept : (unread_ok : Bool) (k : ChunkValue) (records : List (List ℕ)) → IsSimple k records
    → (IsMetadata k ⊎ ((unread_ok ≡ true) × (IsCompressed k ⊎ IsTransposed k))) → ⊥
given_or_kept unread_ok k records simple (inl metadata) =
    let r : k.kind ≡ 0x72 = simple.kind in let m : k.kind ≡ 0x6d = metadata.0 in omega arith
given_or_kept unread_ok k records simple (inr (kept, inl compressed)) =
    compressed.2 (ap (λ (xs : List ℕ). get_or xs 0 0) simple.«data»)
given_or_kept unread_ok k records simple (inr (kept, inr transposed)) =
    let r : k.kind ≡ 0x72 = simple.kind in let t : k.kind ≡ 0x74 = transposed in omega arith

kind_left_out : (k : ChunkValue) → (IsSignature k ⊎ IsPadding k) → (k.kind ≡ 0x73) ⊎ (k.kind ≡ 0x70)
kind_left_out k (inl is) = inl is.0
kind_left_out k (inr is) = inr is.0

pub given_or_left_out : (k : ChunkValue) (records : List (List ℕ)) → IsSimple k records → (IsSignature k ⊎ IsPadding k) → ⊥
given_or_left_out k records simple left_out =
    let r : k.kind ≡ 0x72 = simple.kind in elim (kind_left_out k left_out) [ inl s ↦ omega arith | inr p ↦ omega arith ]

-- nor is one that is kept left out
kind_kept : (unread_ok : Bool) (k : ChunkValue) → (IsMetadata k ⊎ ((unread_ok ≡ true) × (IsCompressed k ⊎ IsTransposed k)))
    → (k.kind ≡ 0x6d) ⊎ (k.kind ≡ 0x72) ⊎ (k.kind ≡ 0x74)
kind_kept unread_ok k (inl is) = inl is.0
kind_kept unread_ok k (inr (kept, inl compressed)) = inr (inl compressed.0)
kind_kept unread_ok k (inr (kept, inr transposed)) = inr (inr transposed)

kept_or_left_out : (unread_ok : Bool) (k : ChunkValue) → (IsMetadata k ⊎ ((unread_ok ≡ true) × (IsCompressed k ⊎ IsTransposed k)))
    → (IsSignature k ⊎ IsPadding k) → ⊥
kept_or_left_out unread_ok k kept left_out =
    elim (kind_kept unread_ok k kept) [
      | inl m ↦ elim (kind_left_out k left_out) [ inl s ↦ omega arith | inr p ↦ omega arith ]
      | inr (inl r) ↦ elim (kind_left_out k left_out) [ inl s ↦ omega arith | inr p ↦ omega arith ]
      | inr (inr t) ↦ elim (kind_left_out k left_out) [ inl s ↦ omega arith | inr p ↦ omega arith ]
    ]

-- what an intact chunk is found as is one
pub found_one : (unread_ok : Bool) (k : ChunkValue) (a b : PieceKind) → IsFoundAs unread_ok k a → IsFoundAs unread_ok k b → a ≡ b
found_one unread_ok k (Records records c) (Records others d) (simple, is) (also, there) =
    ap (λ (xs : List (List ℕ)). Records xs c) (records_are_one k records others simple also) ∙ ap (Records others) (is ∙ sym there)
found_one unread_ok k (Records records c) (Kept d) (simple, is) (kept, there) = absurd (given_or_kept unread_ok k records simple kept)
found_one unread_ok k (Records records c) SignatureOrPadding (simple, is) left_out = absurd (given_or_left_out k records simple left_out)
found_one unread_ok k (Kept c) (Records records d) (kept, is) (simple, there) = absurd (given_or_kept unread_ok k records simple kept)
found_one unread_ok k (Kept c) (Kept d) (kept, is) (also, there) = ap Kept (is ∙ sym there)
found_one unread_ok k (Kept c) SignatureOrPadding (kept, is) left_out = absurd (kept_or_left_out unread_ok k kept left_out)
found_one unread_ok k SignatureOrPadding (Records records d) left_out (simple, there) = absurd (given_or_left_out k records simple left_out)
found_one unread_ok k SignatureOrPadding (Kept d) left_out (kept, there) = absurd (kept_or_left_out unread_ok k kept left_out)
found_one unread_ok k SignatureOrPadding SignatureOrPadding left_out also = refl
found_one unread_ok k (Skipped w) b h g = absurd h
found_one unread_ok k a (Skipped w) h g = absurd g

-- a piece is passed over for the first reason that applies, or a chunk to which none does
abbrev pub IsSkip : Bool → List ℕ → (begin end : ℕ) → PieceKind → Type 0
IsSkip unread_ok file begin end what =
    (w : Why) × (what ≡ Skipped w) × IsFirstOf (SkipsFor file begin) (walk_reasons unread_ok) w × SkipsTo file begin w end

abbrev pub IsWhole : Bool → List ℕ → (begin end : ℕ) → PieceKind → Type 0
IsWhole unread_ok file begin end what =
    NoneOf (SkipsFor file begin) (walk_reasons unread_ok) × (end ≡ end_at file begin) × IsFoundAs unread_ok (chunk_at file begin) what

pub piece_cases : (unread_ok : Bool) (file : List ℕ) (begin end : ℕ) (what : PieceKind) → IsPieceOf unread_ok file begin end what
    → IsSkip unread_ok file begin end what ⊎ IsWhole unread_ok file begin end what
piece_cases unread_ok file begin end (Records records c) h = inr h
piece_cases unread_ok file begin end (Kept c) h = inr h
piece_cases unread_ok file begin end SignatureOrPadding h = inr h
piece_cases unread_ok file begin end (Skipped w) (first, to) = inl (w, refl, first, to)

pub piece_whole : (unread_ok : Bool) (file : List ℕ) (begin end : ℕ) (what : PieceKind) → IsWhole unread_ok file begin end what
    → IsPieceOf unread_ok file begin end what
piece_whole unread_ok file begin end (Records records c) h = h
piece_whole unread_ok file begin end (Kept c) h = h
piece_whole unread_ok file begin end SignatureOrPadding h = h
piece_whole unread_ok file begin end (Skipped w) h = absurd h.2

-- so at a place one piece begins at most
pub piece_one : (unread_ok : Bool) (file : List ℕ) (begin end other : ℕ) (what that : PieceKind)
    → IsPieceOf unread_ok file begin end what → IsPieceOf unread_ok file begin other that → (end ≡ other) × (what ≡ that)
piece_one unread_ok file begin end other what that h g =
    let reasons = walk_reasons unread_ok in
    elim (piece_cases unread_ok file begin end what h) [
      | inl (w, is, first, to) ↦ elim (piece_cases unread_ok file begin other that g) [
        | inl (v, there, also, at) ↦
            let same : w ≡ v = first_is_one (SkipsFor file begin) reasons w v first also in
            (skips_one file begin v end other (subst (λ (x : Why). SkipsTo file begin x end) same to) at, is ∙ ap Skipped same ∙ sym there)
        | inr whole ↦ absurd (none_is_first (SkipsFor file begin) reasons w whole.0 first)
      ]
      | inr whole ↦ elim (piece_cases unread_ok file begin other that g) [
        | inl (v, there, also, at) ↦ absurd (none_is_first (SkipsFor file begin) reasons v whole.0 also)
        | inr other_whole ↦
            (whole.1 ∙ sym other_whole.1, found_one unread_ok (chunk_at file begin) what that whole.2 other_whole.2)
      ]
    ]

-- it ends past the place
pub piece_past : (unread_ok : Bool) (file : List ℕ) (begin end : ℕ) (what : PieceKind) → begin < length file
    → IsPieceOf unread_ok file begin end what → IsOnward (length file) begin end
piece_past unread_ok file begin end what below h =
    elim (piece_cases unread_ok file begin end what h) [
      | inl (w, is, first, to) ↦ skips_past unread_ok file begin w end below first to
      | inr whole ↦ subst (IsOnward (length file) begin) (sym whole.1) (end_past file begin (omega (arith, whole.0.1.1.1.0)))
    ]

-- where no reason passes over a chunk, it is found
found_plain : (unread_ok : Bool) (k : ChunkValue) → IsPassed false k → (what : PieceKind) × IsFoundAs unread_ok k what
found_plain unread_ok k (inl (records, simple)) = (Records records k, (simple, refl))
found_plain unread_ok k (inr (inl s)) = (SignatureOrPadding, inl s)
found_plain unread_ok k (inr (inr (inl m))) = (Kept k, (inl m, refl))
found_plain unread_ok k (inr (inr (inr p))) = (SignatureOrPadding, inr p)

pub found_of : (unread_ok : Bool) (k : ChunkValue) → IsPassed unread_ok k → (what : PieceKind) × IsFoundAs unread_ok k what
found_of false k plain = found_plain false k plain
found_of true k (inl plain) = found_plain true k plain
found_of true k (inr (inl t)) = (Kept k, (inr (refl, inr t), refl))
found_of true k (inr (inr c)) = (Kept k, (inr (refl, inl c), refl))

content_passed : (unread_ok : Bool) (file : List ℕ) (place : ℕ) → NoneOf (SkipsFor file place) (content_reasons unread_ok)
    → IsPassed unread_ok (chunk_at file place)
content_passed false file place none = content_where_none false file place none
content_passed true file place none = content_where_none true file place none

-- so at each place a piece begins
pub piece_of_place : (unread_ok : Bool) (file : List ℕ) (place : ℕ) → (end : ℕ) × (what : PieceKind) × IsPieceOf unread_ok file place end what
piece_of_place unread_ok file place =
    elim (first_or_none (SkipsFor file place) (passes_decided file place) (walk_reasons unread_ok)) [
      | inl (w, first) ↦
          let to = skips_of file place w (first_applies (SkipsFor file place) (walk_reasons unread_ok) w first) in
          (to.0, Skipped w, (first, to.1))
      | inr none ↦
          let found = found_of unread_ok (chunk_at file place) (content_passed unread_ok file place none.1.1.1.1.1) in
          (end_at file place, found.0, piece_whole unread_ok file place (end_at file place) found.0 (none, refl, found.1))
    ]
