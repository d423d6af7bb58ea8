-- The pieces of a file where unread chunks are passed over.
use Rattle.std.proofs.Common.{◌≡◌, ◌∙◌, ℕ, Bool, true, false, ◌⊎◌, List, [], ◌∷◌, ◌++◌, length, refl, sym, ap, subst, inl, inr, arith}
use Rattle.std.specs.Prelude.{map, ◌==◌, if◌then◌else◌}
use Rattle.std.specs.List.{enumerate_from}
use Rattle.chunk_header.specs.Chunks.{ChunkValue}
use Rattle.chunk_header.specs.Kinds.{simple_kind, transposed_kind}
use Rattle.chunk_header.specs.SimpleChunks.{IsSimple, IsCompressed}
use Rattle.meta_chunk.specs.Files.{IsTransposed}
use Rattle.meta_chunk.specs.Kinds.{IsSignature, IsMetadata, IsPadding}
use Rattle.chunk_reader.specs.Places.{chunk_at}
use Rattle.chunk_reader.specs.Reasons.{NoneOf, IsFirstOf}
use Rattle.chunk_reader.specs.declared.reasons.Why.{Why}
use Rattle.chunk_reader.specs.declared.reasons.Why.TheVariants as why
use Rattle.damage_skip.specs.FilePieces.{ArePieces, placed_in}
use Rattle.damage_skip.specs.Pieces.{PieceKind, Records, Kept, SignatureOrPadding, Skipped, Piece, SkipsFor, walk_reasons, IsFoundAs, IsPieceOf, AreTiles, events_in, AreEvents, records_of, records_in}
use Rattle.damage_skip.proofs.FoundRecords.{records_in_events, placed_in_events}
use Rattle.damage_skip.proofs.KeptChunks.{compressed_holds_none}
use Rattle.damage_skip.proofs.Tiles.{events_one}
use Rattle.riegeli_c.specs.Pieces.{unkept_as, unkept_kind, unkept}

-- a chunk that isn't left unread
abbrev IsRead : ChunkValue → Type 0
IsRead k = (¬ IsCompressed k) × (¬ IsTransposed k)

-- no reason to pass over it is added where unread chunks are passed over
none_added : (file : List ℕ) (place : ℕ) → IsRead (chunk_at file place) → NoneOf (SkipsFor file place) (walk_reasons true)
    → NoneOf (SkipsFor file place) (walk_reasons false)
none_added file place read (short, (header, (against, (cut, (large, (hash, (contents, (unknown, end)))))))) =
    (short, (header, (against, (cut, (large, (hash, (contents, (read.0, (read.1, (unknown, end))))))))))

simple_read : (k : ChunkValue) (records : List (List ℕ)) → IsSimple k records → IsRead k
simple_read k records simple = (
  λ compressed. compressed_holds_none k compressed (records, simple),
  λ transposed. let r : k.kind ≡ 0x72 = simple.kind in let t : k.kind ≡ 0x74 = transposed in omega arith,
)

other_read : (k : ChunkValue) (kind : ℕ) → k.kind ≡ kind → ¬ (kind ≡ 0x72) → ¬ (kind ≡ 0x74) → IsRead k
other_read k kind is simple transposed = (λ compressed. simple (sym is ∙ compressed.0), λ t. transposed (sym is ∙ t))

left_out_read : (k : ChunkValue) → IsSignature k ⊎ IsPadding k → IsRead k
left_out_read k (inl signature) = other_read k 0x73 signature.0 (λ e. omega (arith, e)) (λ e. omega (arith, e))
left_out_read k (inr padding) = other_read k 0x70 padding.0 (λ e. omega (arith, e)) (λ e. omega (arith, e))

-- what a kept chunk becomes is by its kind
abbrev by_kind : ℕ → ChunkValue → PieceKind
by_kind kind k = if kind == transposed_kind then Skipped why.Transposed else if kind == simple_kind then Skipped why.Compressed else Kept k

unkept_metadata : (k : ChunkValue) → IsMetadata k → unkept_as k ≡ Kept k
unkept_metadata k metadata = ap (λ (kind : ℕ). by_kind kind k) metadata.0

unkept_compressed : (k : ChunkValue) → IsCompressed k → unkept_as k ≡ Skipped why.Compressed
unkept_compressed k compressed = ap (λ (kind : ℕ). by_kind kind k) compressed.0

unkept_transposed : (k : ChunkValue) → IsTransposed k → unkept_as k ≡ Skipped why.Transposed
unkept_transposed k transposed = ap (λ (kind : ℕ). by_kind kind k) transposed

-- a chunk to which no other reason applies is passed over for being compressed or transposed
first_compressed : (file : List ℕ) (place : ℕ) → IsCompressed (chunk_at file place) → NoneOf (SkipsFor file place) (walk_reasons true)
    → IsFirstOf (SkipsFor file place) (walk_reasons false) why.Compressed
first_compressed file place is (short, (header, (against, (cut, (large, (hash, (contents, (unknown, end)))))))) =
    inr (short, inr (header, inr (against, inr (cut, inr (large, inr (hash, inr (contents, inl (is, refl))))))))

first_transposed : (file : List ℕ) (place : ℕ) → IsTransposed (chunk_at file place) → NoneOf (SkipsFor file place) (walk_reasons true)
    → IsFirstOf (SkipsFor file place) (walk_reasons false) why.Transposed
first_transposed file place is (short, (header, (against, (cut, (large, (hash, (contents, (unknown, end)))))))) =
    let simple : ¬ IsCompressed (chunk_at file place) =
    λ compressed. let t : (chunk_at file place).kind ≡ 0x74 = is in let r : (chunk_at file place).kind ≡ 0x72 = compressed.0 in omega arith in
    inr (short, inr (header, inr (against, inr (cut, inr (large, inr (hash, inr (contents, inr (simple, inl (is, refl)))))))))

-- a first reason is the first among more
first_kept : (file : List ℕ) (place : ℕ) (w : Why) → IsFirstOf (SkipsFor file place) (walk_reasons true) w
    → IsFirstOf (SkipsFor file place) (walk_reasons false) w
first_kept file place w (inl first) = inl first
first_kept file place w (inr (short, inl first)) = inr (short, inl first)
first_kept file place w (inr (short, inr (header, inl first))) = inr (short, inr (header, inl first))
first_kept file place w (inr (short, inr (header, inr (against, inl first)))) = inr (short, inr (header, inr (against, inl first)))
first_kept file place w (inr (short, inr (header, inr (against, inr (cut, inl first))))) =
    inr (short, inr (header, inr (against, inr (cut, inl first))))
first_kept file place w (inr (short, inr (header, inr (against, inr (cut, inr (large, inl first)))))) =
    inr (short, inr (header, inr (against, inr (cut, inr (large, inl first)))))
first_kept file place w (inr (short, inr (header, inr (against, inr (cut, inr (large, inr (hash, inl first))))))) =
    inr (short, inr (header, inr (against, inr (cut, inr (large, inr (hash, inl first))))))
first_kept file place w (inr (short, inr (header, inr (against, inr (cut, inr (large, inr (hash, inr (contents, inl (unknown, is))))))))) =
    let read : IsRead (chunk_at file place) = (λ compressed. unknown.simple compressed.0, λ transposed. unknown.transposed transposed) in
    inr (short, inr (header, inr (against, inr (cut, inr (large, inr (hash, inr (contents, inr (read.0, inr (read.1, inl (unknown, is))))))))))
first_kept file place w (inr (short, inr (header, inr (against, inr (cut, inr (large, inr (hash, inr (contents, inr (unknown, none))))))))) = absurd none

-- so is a piece of a file the piece there
unkept_kept : (file : List ℕ) (begin end : ℕ) (k : ChunkValue) → NoneOf (SkipsFor file begin) (walk_reasons true) → IsPieceOf true file begin end (Kept k)
    → IsFoundAs true k (Kept k) → k ≡ chunk_at file begin → IsPieceOf false file begin end (unkept_as k)
unkept_kept file begin end k none piece (inl metadata, same) is =
    let there : IsMetadata (chunk_at file begin) = subst IsMetadata is metadata in
    subst (IsPieceOf false file begin end) (sym (unkept_metadata k metadata))
    (none_added file begin (other_read (chunk_at file begin) 0x6d there.0 (λ e. omega (arith, e)) (λ e. omega (arith, e))) none, piece.1, (inl there, is))
unkept_kept file begin end k none piece (inr (kept, inl compressed), same) is =
    subst (IsPieceOf false file begin end) (sym (unkept_compressed k compressed))
    (first_compressed file begin (subst IsCompressed is compressed) none, piece.1)
unkept_kept file begin end k none piece (inr (kept, inr transposed), same) is =
    subst (IsPieceOf false file begin end) (sym (unkept_transposed k transposed))
    (first_transposed file begin (subst IsTransposed is transposed) none, piece.1)

unkept_piece : (file : List ℕ) (begin end : ℕ) (kind : PieceKind) → IsPieceOf true file begin end kind → IsPieceOf false file begin end (unkept_kind kind)
unkept_piece file begin end (Records records k) (none, ends, found) =
    (none_added file begin (simple_read (chunk_at file begin) records found.0) none, ends, found)
unkept_piece file begin end (Kept k) (none, ends, found) =
    unkept_kept file begin end k none (none, ends, found)
    (subst (λ (c : ChunkValue). IsFoundAs true c (Kept c)) (sym found.1) (found.0, refl)) found.1
unkept_piece file begin end SignatureOrPadding (none, ends, found) =
    (none_added file begin (left_out_read (chunk_at file begin) found) none, ends, found)
unkept_piece file begin end (Skipped w) (first, to) = (first_kept file begin w first, to)

pub unkept_tiles : (file : List ℕ) (begin end : ℕ) (pieces : List Piece) → AreTiles true file begin end pieces → AreTiles false file begin end (map unkept pieces)
unkept_tiles file begin end [] same = same
unkept_tiles file begin end (p ∷ pieces) (begins, below, piece, rest) =
    (begins, below, unkept_piece file begin p.end p.what piece, unkept_tiles file p.end end pieces rest)

-- the records that a piece gives stay
records_by : (k : ChunkValue) (transposed simple : Bool)
    → records_of (if transposed then Skipped why.Transposed else if simple then Skipped why.Compressed else Kept k) ≡ []
records_by k true simple = refl
records_by k false true = refl
records_by k false false = refl

unkept_records : (kind : PieceKind) → records_of (unkept_kind kind) ≡ records_of kind
unkept_records (Records records k) = refl
unkept_records (Kept k) = records_by k (k.kind == transposed_kind) (k.kind == simple_kind)
unkept_records SignatureOrPadding = refl
unkept_records (Skipped w) = refl

all_records : (pieces : List Piece) → records_in (map unkept pieces) ≡ records_in pieces
all_records [] = refl
all_records (p ∷ pieces) =
    ap (λ (rs : List (List ℕ)). rs ++ records_in (map unkept pieces)) (unkept_records p.what)
    ∙ ap (λ (rs : List (List ℕ)). records_of p.what ++ rs) (all_records pieces)

all_placed : (pieces : List Piece) → placed_in (map unkept pieces) ≡ placed_in pieces
all_placed [] = refl
all_placed (p ∷ pieces) =
    ap (λ (rs : List (List ℕ)). enumerate_from p.begin rs ++ placed_in (map unkept pieces)) (unkept_records p.what)
    ∙ ap (λ (rs : List (ℕ × List ℕ)). enumerate_from p.begin (records_of p.what) ++ rs) (all_placed pieces)

-- so the events of a file where unread chunks are passed over are these
pub unkept_events : (file : List ℕ) (pieces events : List Piece) → ArePieces true file pieces → AreEvents false file events
    → events ≡ events_in (map unkept pieces)
unkept_events file pieces events are these =
    events_one false file events (events_in (map unkept pieces)) these
    (map unkept pieces, unkept_tiles file 0 (length file) pieces are, refl)

pub unkept_event_records : (file : List ℕ) (pieces events : List Piece) → ArePieces true file pieces → AreEvents false file events
    → records_in events ≡ records_in pieces
unkept_event_records file pieces events are these =
    ap records_in (unkept_events file pieces events are these) ∙ records_in_events (map unkept pieces) ∙ all_records pieces

pub unkept_event_placed : (file : List ℕ) (pieces events : List Piece) → ArePieces true file pieces → AreEvents false file events
    → placed_in events ≡ placed_in pieces
unkept_event_placed file pieces events are these =
    ap placed_in (unkept_events file pieces events are these) ∙ placed_in_events (map unkept pieces) ∙ all_placed pieces
