-- Inside. The pieces of a whole file as they are told to C, and as they are where unread chunks are passed over. Own.
use Rattle.std.specs.Prelude.{◌≡◌, ℕ, ◌<◌, ◌==◌, if◌then◌else◌, List, [], ◌∷◌, length}
use Rattle.chunk_header.specs.Chunks.{ChunkValue}
use Rattle.chunk_header.specs.Kinds.{simple_kind, transposed_kind}
use Rattle.chunk_reader.specs.declared.reasons.Why.TheVariants as why
use Rattle.damage_skip.specs.Pieces.{PieceKind, Kept, Skipped, Piece}
use Rattle.riegeli_c.specs.Recovers.{TellsPiece}
use Rattle.riegeli_c.specs.declared.recovering.PieceTold.{PieceTold}

-- the pieces of a file from a place to its end, and what is told of each, where the next place is the end that is told
abbrev pub AreToldFrom : List ℕ → (place : ℕ) → List PieceTold → List Piece → Type 0
AreToldFrom file place [] pieces = (place ≡ length file) × (pieces ≡ [])
AreToldFrom file place (told ∷ others) [] = ⊥
AreToldFrom file place (told ∷ others) (piece ∷ pieces) =
    (place < length file) × TellsPiece file place piece.what told × (piece.begin ≡ place) × (piece.end ≡ told.end)
    × AreToldFrom file told.end others pieces

-- what a chunk that is kept is where unread ones are passed over
abbrev pub unkept_as : ChunkValue → PieceKind
unkept_as k =
    if k.kind == transposed_kind then Skipped why.Transposed else if k.kind == simple_kind then Skipped why.Compressed else Kept k

abbrev pub unkept_kind : PieceKind → PieceKind
unkept_kind (Kept k) = unkept_as k
unkept_kind other = other

-- the piece that is one where unread chunks are kept, as it is where they are passed over
abbrev pub unkept : Piece → Piece
unkept piece = record piece { what = unkept_kind piece.what }
