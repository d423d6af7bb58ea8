-- Promise. The pieces that a file comes apart in where damage is passed over. Own.
use Rattle.std.specs.Prelude.{◌≡◌, ℕ, ◌<◌, ◌⊎◌, Bool, true, false, List, [], ◌∷◌, length, filter}
use Rattle.std.specs.List.{flat_map}
use Rattle.chunk_header.specs.Chunks.{ChunkValue}
use Rattle.chunk_header.specs.SimpleChunks.{IsSimple, IsCompressed}
use Rattle.meta_chunk.specs.Files.{IsTransposed}
use Rattle.meta_chunk.specs.Kinds.{IsSignature, IsMetadata, IsPadding}
use Rattle.chunk_reader.specs.Places.{end_at, chunk_at}
use Rattle.chunk_reader.specs.Reasons.{Applies, NoneOf, IsFirstOf, content_reasons}
use Rattle.chunk_reader.specs.declared.reasons.Why.{Why}
use Rattle.chunk_reader.specs.declared.reasons.Why.TheVariants as why
use Rattle.damage_skip.specs.Resyncs.{IsFirstBlock, Contradicts, IsResync, landing}

-- what a piece is: a chunk that gives records, one that is kept as it is, one that is neither given nor told of, or bytes
-- that are passed over for a reason
pub data PieceKind : Type 0 where
  Records : List (List ℕ) → ChunkValue → PieceKind
  Kept : ChunkValue → PieceKind
  SignatureOrPadding : PieceKind
  Skipped : Why → PieceKind

-- a piece of a file
pub record Piece : Type 0 where
  pub begin : ℕ
  pub end : ℕ
  pub what : PieceKind

-- a reason to pass over what stands at a place: the headers of blocks within a chunk are not compared with its own, but one
-- that is right and sane may say another chunk
abbrev pub SkipsFor : List ℕ → ℕ → Why → Type 0
SkipsFor file place why.Contradicted =
    (block previous next : ℕ) × Contradicts file place (end_at file place) block previous next
SkipsFor file place other = Applies file place other

-- these reasons, in their order: where unread chunks are let through, fewer
abbrev pub walk_reasons : (unread_ok : Bool) → List Why
walk_reasons unread_ok =
    why.Short ∷ why.HeaderHash ∷ why.Contradicted ∷ why.Truncated ∷ why.TooLarge ∷ content_reasons unread_ok

-- where the bytes end that are passed over from a place for a reason
abbrev pub SkipsTo : List ℕ → ℕ → Why → ℕ → Type 0
SkipsTo file place why.Short to = IsResync file place to
SkipsTo file place why.HeaderHash to = IsResync file place to
SkipsTo file place why.Contradicted to =
    (block previous next : ℕ) × IsFirstBlock (Contradicts file place (end_at file place)) block previous next
    × (to ≡ landing (length file) place block previous next)
SkipsTo file place why.Truncated to = to ≡ length file
SkipsTo file place other to = to ≡ end_at file place

-- what a chunk is that no reason passes over
abbrev pub IsFoundAs : (unread_ok : Bool) → ChunkValue → PieceKind → Type 0
IsFoundAs unread_ok k (Records records chunk) = IsSimple k records × (chunk ≡ k)
IsFoundAs unread_ok k (Kept chunk) =
    (IsMetadata k ⊎ ((unread_ok ≡ true) × (IsCompressed k ⊎ IsTransposed k))) × (chunk ≡ k)
IsFoundAs unread_ok k SignatureOrPadding = IsSignature k ⊎ IsPadding k
IsFoundAs unread_ok k (Skipped why) = ⊥

-- what the piece is that begins at a place of a file, and where it ends
abbrev pub IsPieceOf : (unread_ok : Bool) → List ℕ → (begin end : ℕ) → PieceKind → Type 0
IsPieceOf unread_ok file begin end (Skipped why) =
    IsFirstOf (SkipsFor file begin) (walk_reasons unread_ok) why × SkipsTo file begin why end
IsPieceOf unread_ok file begin end what =
    NoneOf (SkipsFor file begin) (walk_reasons unread_ok) × (end ≡ end_at file begin)
    × IsFoundAs unread_ok (chunk_at file begin) what

-- the pieces of a file from a place up to another, each of which begins where the one before ends
abbrev pub AreTiles : (unread_ok : Bool) → List ℕ → (from to : ℕ) → List Piece → Type 0
AreTiles unread_ok file from to [] = from ≡ to
AreTiles unread_ok file from to (piece ∷ pieces) =
    (piece.begin ≡ from) × (from < length file) × IsPieceOf unread_ok file from piece.end piece.what
    × AreTiles unread_ok file piece.end to pieces

-- whether a piece is an event: given, kept or skipped
abbrev pub is_event : PieceKind → Bool
is_event SignatureOrPadding = false
is_event other = true

-- the pieces that are events
abbrev pub events_in : List Piece → List Piece
events_in pieces = filter (λ piece. is_event piece.what) pieces

-- the file was walked from a place up to another, and these are the events between
abbrev pub GoesOn : (unread_ok : Bool) → List ℕ → (from to : ℕ) → List Piece → Type 0
GoesOn unread_ok file from to events =
    (pieces : List Piece) × AreTiles unread_ok file from to pieces × (events_in pieces ≡ events)

-- the events of a file, in order
abbrev pub AreEvents : (unread_ok : Bool) → List ℕ → List Piece → Type 0
AreEvents unread_ok file events = GoesOn unread_ok file 0 (length file) events

-- the records that a piece gives
abbrev pub records_of : PieceKind → List (List ℕ)
records_of (Records records chunk) = records
records_of other = []

-- the records that pieces give, joined
abbrev pub records_in : List Piece → List (List ℕ)
records_in pieces = flat_map (λ piece. records_of piece.what) pieces
