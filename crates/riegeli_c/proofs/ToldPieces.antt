-- Pieces that are told to C, one after another.
use Rattle.std.proofs.Common.{◌≡◌, ◌∙◌, ℕ, ◌^◌, ◌<◌, ◌≤◌, ◌⊎◌, true, List, [], ◌∷◌, length, refl, sym, ap, subst, inl, inr, arith}
use Rattle.std.specs.List.{concat}
use Rattle.chunk_header.specs.Chunks.{ChunkValue}
use Rattle.chunk_header.specs.SimpleChunks.{IsCompressed}
use Rattle.meta_chunk.specs.Files.{IsTransposed}
use Rattle.meta_chunk.specs.Kinds.{IsMetadata}
use Rattle.damage_skip.specs.Pieces.{PieceKind, Records, Kept, SignatureOrPadding, Skipped, Piece, IsFoundAs, IsPieceOf, AreTiles, records_of}
use Rattle.damage_skip.proofs.OnePiece.{piece_one, piece_past}
use Rattle.riegeli_c.specs.Reasons.{reason_number}
use Rattle.riegeli_c.specs.Pieces.{AreToldFrom}
use Rattle.riegeli_c.specs.Recovers.{IsBadBegin, IsNumbered, TellsPiece}
use Rattle.riegeli_c.specs.declared.recovering.PieceTold.{PieceTold}

-- the front of a file may be asked for
pub front_is_fine : (file : List ℕ) → length file ≤ 2 ^ 60 → ¬ IsBadBegin file 0
front_is_fine file short (inl long) = omega (arith, short, long)
front_is_fine file short (inr (inl past)) = omega (arith, past)
front_is_fine file short (inr (inr (below, apart))) = apart (inl refl)

-- and so may the place where a piece ends
pub goes_onward : (file : List ℕ) (place : ℕ) (kind : PieceKind) (told : PieceTold) → ¬ IsBadBegin file place → place < length file
    → TellsPiece file place kind told → (place < told.end) × (¬ IsBadBegin file told.end)
goes_onward file place kind told fine below tells =
    let past = piece_past true file place told.end kind below tells.piece in (
      past.past,
      λ bad. elim bad [
        | inl long ↦ fine (inl long)
        | inr (inl behind) ↦ omega (arith, behind, past.within)
        | inr (inr (inside, apart)) ↦ elim past.boundary [ inl boundary ↦ apart boundary | inr end ↦ omega (arith, inside, end) ]
      ],
    )

-- a kept chunk isn't both metadata and left unread
metadata_or_unread : (k : ChunkValue) → IsMetadata k → IsCompressed k ⊎ IsTransposed k → ⊥
metadata_or_unread k metadata (inl compressed) =
    let m : k.kind ≡ 0x6d = metadata.0 in let r : k.kind ≡ 0x72 = compressed.0 in omega arith
metadata_or_unread k metadata (inr transposed) =
    let m : k.kind ≡ 0x6d = metadata.0 in let t : k.kind ≡ 0x74 = transposed in omega arith

-- so the numbers of what a piece is are one
numbers_one : (kind : PieceKind) (what why other reason : ℕ) → IsNumbered kind what why → IsNumbered kind other reason
    → (what ≡ other) × (why ≡ reason)
numbers_one (Records records k) what why other reason h g = (h.0 ∙ sym g.0, h.1 ∙ sym g.1)
numbers_one (Kept k) what why other reason (inl (metadata, n), r) (inl (also, m), s) = (n ∙ sym m, r ∙ sym s)
numbers_one (Kept k) what why other reason (inl (metadata, n), r) (inr (unread, m), s) = absurd (metadata_or_unread k metadata unread)
numbers_one (Kept k) what why other reason (inr (unread, n), r) (inl (metadata, m), s) = absurd (metadata_or_unread k metadata unread)
numbers_one (Kept k) what why other reason (inr (unread, n), r) (inr (also, m), s) = (n ∙ sym m, r ∙ sym s)
numbers_one SignatureOrPadding what why other reason h g = (h.0 ∙ sym g.0, h.1 ∙ sym g.1)
numbers_one (Skipped w) what why other reason h g = (h.0 ∙ sym g.0, h.1 ∙ sym g.1)

-- what is told of a piece is its fields
told_same : (a b : PieceTold) → a.begin ≡ b.begin → a.end ≡ b.end → a.records ≡ b.records → a.bytes ≡ b.bytes → a.what ≡ b.what → a.why ≡ b.why
    → a ≡ b
told_same a b begin end records bytes what why =
    ap (λ (x : ℕ). record { begin = x; end = a.end; records = a.records; bytes = a.bytes; what = a.what; why = a.why }) begin
    ∙ ap (λ (x : ℕ). record { begin = b.begin; end = x; records = a.records; bytes = a.bytes; what = a.what; why = a.why }) end
    ∙ ap (λ (x : ℕ). record { begin = b.begin; end = b.end; records = x; bytes = a.bytes; what = a.what; why = a.why }) records
    ∙ ap (λ (x : ℕ). record { begin = b.begin; end = b.end; records = b.records; bytes = x; what = a.what; why = a.why }) bytes
    ∙ ap (λ (x : ℕ). record { begin = b.begin; end = b.end; records = b.records; bytes = b.bytes; what = x; why = a.why }) what
    ∙ ap (λ (x : ℕ). record { begin = b.begin; end = b.end; records = b.records; bytes = b.bytes; what = b.what; why = x }) why

-- of one kind one thing is told
told_alike : (file : List ℕ) (place : ℕ) (kind : PieceKind) (told other : PieceTold) → told.end ≡ other.end → TellsPiece file place kind told
    → TellsPiece file place kind other → told ≡ other
told_alike file place kind told other end h g =
    let numbers = numbers_one kind told.what told.why other.what other.why h.numbers g.numbers in
    told_same told other (h.begin ∙ sym g.begin) end (h.count ∙ sym g.count) (h.bytes ∙ sym g.bytes) numbers.0 numbers.1

-- so at a place one thing is told
pub told_one : (file : List ℕ) (place : ℕ) (kind that : PieceKind) (told other : PieceTold) → TellsPiece file place kind told
    → TellsPiece file place that other → (kind ≡ that) × (told ≡ other)
told_one file place kind that told other h g =
    let one = piece_one true file place told.end other.end kind that h.piece g.piece in (
      one.1,
      told_alike file place kind told other one.0 h (subst (λ (k : PieceKind). TellsPiece file place k other) (sym one.1) g),
    )

-- pieces that are told are those of the file
pub told_tiles : (file : List ℕ) (place : ℕ) (told : List PieceTold) (pieces : List Piece) → AreToldFrom file place told pieces
    → AreTiles true file place (length file) pieces
told_tiles file place [] pieces (end, none) = subst (λ (ps : List Piece). AreTiles true file place (length file) ps) (sym none) end
told_tiles file place (t ∷ told) [] h = absurd h
told_tiles file place (t ∷ told) (p ∷ pieces) (below, tells, begin, end, rest) = (
  begin,
  below,
  subst (λ (e : ℕ). IsPieceOf true file place e p.what) (sym end) tells.piece,
  subst (λ (e : ℕ). AreTiles true file e (length file) pieces) (sym end) (told_tiles file t.end told pieces rest),
)

-- and each piece of a file can be told
kept_numbered : (k c : ChunkValue) → IsFoundAs true k (Kept c) → (what : ℕ) × (why : ℕ) × IsNumbered (Kept c) what why
kept_numbered k c (inl metadata, is) = (2, 0, (inl (subst IsMetadata (sym is) metadata, refl), refl))
kept_numbered k c (inr (kept, unread), is) =
    (3, 0, (inr (subst (λ (x : ChunkValue). IsCompressed x ⊎ IsTransposed x) (sym is) unread, refl), refl))

numbered : (file : List ℕ) (place end : ℕ) (kind : PieceKind) → IsPieceOf true file place end kind → (what : ℕ) × (why : ℕ) × IsNumbered kind what why
numbered file place end (Records records k) piece = (1, 0, (refl, refl))
numbered file place end (Kept k) piece = kept_numbered _ k piece.2
numbered file place end SignatureOrPadding piece = (2, 0, (refl, refl))
numbered file place end (Skipped w) piece = (4, reason_number w, (refl, refl))

pub told_of_tiles : (file : List ℕ) (place : ℕ) (pieces : List Piece) → AreTiles true file place (length file) pieces
    → (told : List PieceTold) × AreToldFrom file place told pieces
told_of_tiles file place [] end = ([], (end, refl))
told_of_tiles file place (p ∷ pieces) (begin, below, piece, rest) =
    let numbers = numbered file place p.end p.what piece in
    let told : PieceTold = record {
      begin = place;
      end = p.end;
      records = length (records_of p.what);
      bytes = length (concat (records_of p.what));
      what = numbers.0;
      why = numbers.1;
    } in
    let others = told_of_tiles file p.end pieces rest in (
      told ∷ others.0,
      (below, record { begin = refl; piece = piece; numbers = numbers.2; count = refl; bytes = refl }, begin, refl, others.1),
    )
