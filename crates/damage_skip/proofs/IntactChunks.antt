-- A chunk that is read or left unread, and intact, is a piece: it is found, or passed over by its name.
use Rattle.std.proofs.Common.{◌↔◌, ◌≡◌, ◌⊎◌, ℕ, Bool, true, false, List, refl, sym, subst, inl, inr}
use Rattle.std.specs.Prelude.{slice_range}
use Rattle.chunk_header.specs.Chunks.{ChunkValue}
use Rattle.chunk_header.specs.SimpleChunks.{IsCompressed}
use Rattle.chunk_header.specs.Kinds.{IsOfNoName}
use Rattle.meta_chunk.specs.Laid.{IsLaid, end_of_chunk}
use Rattle.meta_chunk.specs.Files.{IsTransposed, IsWellFormedChunk}
use Rattle.chunk_reader.specs.Places.{end_at, chunk_at}
use Rattle.chunk_reader.specs.Reasons.{HasBadContents, Applies, NoneOf, IsFirstOf, content_reasons}
use Rattle.chunk_reader.specs.declared.reasons.Why.{Why}
use Rattle.chunk_reader.specs.declared.reasons.Why.TheVariants as why
use Rattle.chunk_reader.proofs.AllowedChunks.{allowed_good, allowed_named, plain_read}
use Rattle.chunk_reader.proofs.LaidAt.{chunk_at-laid, end_at-laid}
use Rattle.damage_skip.specs.Pieces.{PieceKind, Skipped, SkipsFor, IsFoundAs, IsPieceOf}
use Rattle.damage_skip.specs.Damage.{DamageLeaves}
use Rattle.damage_skip.proofs.OnePiece.{found_of, piece_whole}
use Rattle.damage_skip.proofs.FoundPieces.{none_passes_over}
use Rattle.damage_skip.proofs.Reached.{compressed_or_transposed}

-- a chunk that is read or left unread is found, or one of its names is the first reason
IsNamed : Bool → (Why → Type 0) → ChunkValue → Why → Type 0
IsNamed unread_ok P k w = IsFirstOf P (content_reasons unread_ok) w × DamageLeaves unread_ok true true k (Skipped w)

IsReadOrNamed : Bool → (Why → Type 0) → ChunkValue → Type 0
IsReadOrNamed unread_ok P k =
    (NoneOf P (content_reasons unread_ok) × ((what : PieceKind) × IsFoundAs unread_ok k what × DamageLeaves unread_ok true true k what))
    ⊎ (IsNamed unread_ok P k why.Compressed ⊎ IsNamed unread_ok P k why.Transposed)

read_or_named : (unread_ok : Bool) (P : Why → Type 0) (k : ChunkValue) → IsWellFormedChunk k → ¬ P why.DataHash → ¬ P why.Contents → ¬ P why.UnknownKind
    → (P why.Compressed ↔ IsCompressed k) → (P why.Transposed ↔ IsTransposed k) → IsReadOrNamed unread_ok P k
unfolding IsReadOrNamed IsNamed
read_or_named true P k formed hash good named c t =
    let found = found_of true k (elim formed [ inl plain ↦ inl plain.1 | inr unread ↦ inr unread.1 ]) in
    inl ((hash, (good, (named, tt))), (found.0, found.1, found.1))
read_or_named false P k (inl plain) hash good named c t =
    let found = found_of false k plain.1 in
    let read : ¬ (IsTransposed k ⊎ IsCompressed k) = plain_read k plain in
    inl (
      (hash, (good, ((λ is. read (inr (c.0 is))), ((λ is. read (inl (t.0 is))), (named, tt))))),
      (found.0, found.1, inl found.1),
    )
read_or_named false P k (inr (small, inl transposed)) hash good named c t =
    inr (inr (
      inr (hash, inr (good, inr ((λ is. compressed_or_transposed k (c.0 is) transposed), inl (t.1 transposed, refl)))),
      inr (inr (transposed, refl)),
    ))
read_or_named false P k (inr (small, inr compressed)) hash good named c t =
    inr (inl (inr (hash, inr (good, inl (c.1 compressed, refl))), inr (inl (compressed, refl))))

-- what is true of a chunk is true of an equal one, and the other way round
same_for : (P : ChunkValue → Type 0) (k l : ChunkValue) → k ≡ l → P k ↔ P l
same_for P k l same = (λ h. subst P same h, λ h. subst P (sym same) h)

-- the chunk at a place is this one, its header and its data are right, the file has it whole, it isn't too large, and no block
-- header within says otherwise
pub record IsIntactAt (file : List ℕ) (place : ℕ) (k : ChunkValue) : Type 0 where
  pub long : ¬ SkipsFor file place why.Short
  pub header : ¬ SkipsFor file place why.HeaderHash
  pub agrees : ¬ SkipsFor file place why.Contradicted
  pub whole : ¬ SkipsFor file place why.Truncated
  pub small : ¬ SkipsFor file place why.TooLarge
  pub hash : ¬ SkipsFor file place why.DataHash
  pub chunk : chunk_at file place ≡ k

-- what piece it is
pub intact_piece : (unread_ok : Bool) (file : List ℕ) (place : ℕ) (k : ChunkValue) → IsWellFormedChunk k → IsIntactAt file place k
    → (what : PieceKind) × IsPieceOf unread_ok file place (end_at file place) what × DamageLeaves unread_ok true true k what
unfolding IsReadOrNamed IsNamed
intact_piece unread_ok file place k formed h =
    let there : ChunkValue = chunk_at file place in
    let good : ¬ Applies file place why.Contents = λ bad. allowed_good true k formed (subst HasBadContents h.chunk bad) in
    let named : ¬ Applies file place why.UnknownKind =
    λ none. allowed_named true k formed (subst (λ (c : ChunkValue). IsOfNoName c.kind) h.chunk none) in
    elim (read_or_named unread_ok (SkipsFor file place) k formed h.hash good named
    (same_for IsCompressed there k h.chunk) (same_for IsTransposed there k h.chunk)) [
      | inl (none, (what, found, left)) ↦ (
        what,
        piece_whole unread_ok file place (end_at file place) what (
          (h.long, (h.header, (h.agrees, (h.whole, (h.small, none))))),
          refl,
          subst (λ (c : ChunkValue). IsFoundAs unread_ok c what) (sym h.chunk) found,
        ),
        left,
      )
      | inr (inl (first, left)) ↦ (
        Skipped why.Compressed,
        (inr (h.long, inr (h.header, inr (h.agrees, inr (h.whole, inr (h.small, first))))), refl),
        left,
      )
      | inr (inr (first, left)) ↦ (
        Skipped why.Transposed,
        (inr (h.long, inr (h.header, inr (h.agrees, inr (h.whole, inr (h.small, first))))), refl),
        left,
      )
    ]

-- one that is laid is intact
pub laid_piece : (unread_ok : Bool) (file : List ℕ) (place : ℕ) (k : ChunkValue) (end : ℕ) → IsWellFormedChunk k → IsLaid place k (slice_range file place end)
    → (what : PieceKind) × IsPieceOf unread_ok file place (end_of_chunk place k) what × DamageLeaves unread_ok true true k what
laid_piece unread_ok file place k end formed laid =
    let none = none_passes_over true place k file end laid formed in
    let piece = intact_piece unread_ok file place k formed (record {
      long = none.0;
      header = none.1.0;
      agrees = none.1.1.0;
      whole = none.1.1.1.0;
      small = none.1.1.1.1.0;
      hash = none.1.1.1.1.1.0;
      chunk = chunk_at-laid place k file end laid;
    }) in
    (piece.0, subst (λ (e : ℕ). IsPieceOf unread_ok file place e piece.0) (end_at-laid place k file end laid) piece.1, piece.2)
