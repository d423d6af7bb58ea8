-- A chunk that was judged with unread ones let through, as strict reading judges it.
use Rattle.std.proofs.Common.{◌≡◌, ◌≢◌, ◌∙◌, ◌⊎◌, ℕ, Bool, true, false, Option, Some, None, IfSome, List, [], ◌∷◌, ◌++◌, refl, sym, ap, subst, inl, inr, arith}
use Rattle.std.proofs.lemmas.Bool.{both_ways}
use Rattle.chunk_header.specs.Chunks.{ChunkValue}
use Rattle.chunk_header.specs.Kinds.{transposed_kind}
use Rattle.chunk_header.specs.SimpleChunks.{IsCompressed}
use Rattle.meta_chunk.specs.Files.{IsPlain, IsTransposed, IsUnread, is_unread}
use Rattle.meta_chunk.proofs.Totals.{is_unread-iff}
use Rattle.chunk_reader.specs.Faults.{IsPlaceOf, IsVerdict}
use Rattle.chunk_reader.specs.Pieces.{IsVerifiedIn}
use Rattle.chunk_reader.specs.Places.{chunk_at}
use Rattle.chunk_reader.specs.Reasons.{Applies, NoneOf, IsFirstOf, strict_reasons}
use Rattle.chunk_reader.specs.declared.reasons.Fault.{Fault}
use Rattle.chunk_reader.specs.declared.reasons.Why.{Why}
use Rattle.chunk_reader.specs.declared.reasons.Why.TheVariants as why
use Rattle.chunk_reader.specs.declared.verifying.Verified.{Verified}
use Rattle.chunk_reader.proofs.AllowedChunks.{plain_read}
use Rattle.chunk_reader.proofs.NoReasonLaid.{allowed_where_none}
use Rattle.chunk_reader.proofs.Verdicts.{first_behind, is_unread-unread, none_behind}

-- the reasons that are judged alike, and those behind them where unread chunks are refused
abbrev alike : List Why
alike = why.Short ∷ why.HeaderHash ∷ why.Truncated ∷ why.TooLarge ∷ why.BlockHeader ∷ why.DataHash ∷ why.Contents ∷ []

abbrev further : List Why
further = why.Compressed ∷ why.Transposed ∷ why.UnknownKind ∷ []

-- the first reason is the same where others stand behind some
first_through : (P : Why → Type 0) (reasons more others : List Why) (first : Why) → (IsFirstOf P more first → IsFirstOf P others first)
    → IsFirstOf P (reasons ++ more) first → IsFirstOf P (reasons ++ others) first
first_through P [] more others first go is = go is
first_through P (w ∷ reasons) more others first go (inl here) = inl here
first_through P (w ∷ reasons) more others first go (inr (not, later)) = inr (not, first_through P reasons more others first go later)

-- a chunk of a kind without a name is neither compressed nor transposed
unknown_further : (file : List ℕ) (at : ℕ) (first : Why) → IsFirstOf (Applies file at) (why.UnknownKind ∷ []) first
    → IsFirstOf (Applies file at) further first
unknown_further file at first (inl (unknown, is)) =
    inr ((λ compressed. unknown.simple compressed.0), inr ((λ transposed. unknown.transposed transposed), inl (unknown, is)))
unknown_further file at first (inr (not, none)) = absurd none

-- so a verdict is the strict one
pub verdict_for : (unread_ok : Bool) (bytes : Option (List ℕ)) (at : ℕ) (fault : Fault) → IfSome bytes (λ file. IsVerdict true file at fault)
    → IfSome bytes (λ file. IsVerdict unread_ok file at fault)
verdict_for true bytes at fault verdict = verdict
verdict_for false None at fault verdict = tt
verdict_for false (Some file) at fault (first, place) =
    (first_through (Applies file at) alike (why.UnknownKind ∷ []) further fault.why (unknown_further file at fault.why) first, place)

none_alike : (P : Why → Type 0) → NoneOf P (strict_reasons true) → NoneOf P alike
none_alike P (short, (head, (truncated, (large, (block, (hash, (contents, (unknown, end)))))))) =
    (short, (head, (truncated, (large, (block, (hash, (contents, tt)))))))

none_unknown : (P : Why → Type 0) → NoneOf P (strict_reasons true) → ¬ P why.UnknownKind
none_unknown P (short, (head, (truncated, (large, (block, (hash, (contents, (unknown, end)))))))) = unknown

-- a chunk that isn't left unread is plain
read_plain : (file : List ℕ) (at : ℕ) (v : Verified) → IsVerifiedIn true file at v → v.unread ≡ false → IsPlain (chunk_at file at)
read_plain file at v here read = elim (allowed_where_none true file at here.none) [
  | inl plain ↦ plain
  | inr unread ↦ absurd (both_ways (is_unread (chunk_at file at)) (sym here.unread ∙ read) (is_unread-unread (chunk_at file at) unread))
]

-- and passes strict reading too
pub verified_for : (unread_ok : Bool) (bytes : Option (List ℕ)) (at : ℕ) (v : Verified) → (unread_ok ≡ false → v.unread ≡ false)
    → IfSome bytes (λ file. IsVerifiedIn true file at v) → IfSome bytes (λ file. IsVerifiedIn unread_ok file at v)
verified_for true bytes at v read here = here
verified_for false None at v read here = tt
verified_for false (Some file) at v read here =
    let other : ¬ (IsTransposed (chunk_at file at) ⊎ IsCompressed (chunk_at file at)) =
    plain_read (chunk_at file at) (read_plain file at v here (read refl)) in
    record {
      laid = here.laid;
      none = none_behind (Applies file at) alike further (none_alike (Applies file at) here.none)
          ((λ compressed. other (inr compressed)), ((λ transposed. other (inl transposed)), (none_unknown (Applies file at) here.none, tt)));
      end = here.end;
      header = here.header;
      unread = here.unread;
    }

-- one that is left unread is refused strictly, by what it is
pub refused_unread : (unread_ok : Bool) (bytes : Option (List ℕ)) (at : ℕ) (v : Verified) (fault : Fault) → unread_ok ≡ false → v.unread ≡ true
    → IfSome bytes (λ file. IsVerifiedIn true file at v) → fault.at ≡ at
    → (v.header.kind ≡ transposed_kind → fault.why ≡ why.Transposed) → (v.header.kind ≢ transposed_kind → fault.why ≡ why.Compressed)
    → IfSome bytes (λ file. IsVerdict unread_ok file at fault)
refused_unread true bytes at v fault strict unread here place transposed other = absurd (cc strict)
refused_unread false None at v fault strict unread here place transposed other = tt
refused_unread false (Some file) at v fault strict unread here place if_transposed if_other =
    let k : ChunkValue = chunk_at file at in
    let kind : v.header.kind ≡ k.kind = ap (λ (c : ChunkValue). c.kind) here.header in
    let is : IsUnread k = (is_unread-iff k (allowed_where_none true file at here.none)).0 (sym here.unread ∙ unread) in
    let none : NoneOf (Applies file at) alike = none_alike (Applies file at) here.none in
    elim is.1 [
      | inl transposed ↦
          let reason : fault.why ≡ why.Transposed = if_transposed (kind ∙ transposed) in (
            first_behind (Applies file at) alike further fault.why none
                (inr ((λ compressed. omega (arith, compressed.0, transposed)), inl (transposed, reason))),
            subst (λ (w : Why). IsPlaceOf file at w fault.at) (sym reason) place,
          )
      | inr compressed ↦
          let reason : fault.why ≡ why.Compressed = if_other (λ transposed. omega (arith, kind, compressed.0, transposed)) in (
            first_behind (Applies file at) alike further fault.why none (inl (compressed, reason)),
            subst (λ (w : Why). IsPlaceOf file at w fault.at) (sym reason) place,
          )
    ]
