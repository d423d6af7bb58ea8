-- Promise. The pieces of a file that is read on past damage, as they are told to C. Own.
use Rattle.std.specs.Prelude.{◌≡◌, ℕ, ◌^◌, ◌<◌, ◌⊎◌, true, List, length}
use Rattle.std.specs.List.{concat}
use Rattle.block_layout.specs.Layout.{IsBoundary}
use Rattle.chunk_header.specs.SimpleChunks.{IsCompressed}
use Rattle.meta_chunk.specs.Files.{IsTransposed}
use Rattle.meta_chunk.specs.Kinds.{IsMetadata}
use Rattle.damage_skip.specs.Pieces.{PieceKind, Records, Kept, SignatureOrPadding, Skipped, IsPieceOf, records_of}
use Rattle.riegeli_c.specs.Chunks.{IsStatusFor}
use Rattle.riegeli_c.specs.Reasons.{reason_number}
use Rattle.riegeli_c.specs.declared.recovering.PieceTold.{PieceTold}

-- a place that isn't asked for: of a file of more than 2 ^ 60 bytes, behind its end, or before it where no piece can begin
abbrev pub IsBadBegin : List ℕ → ℕ → Type 0
IsBadBegin file place = (2 ^ 60 < length file) ⊎ (length file < place) ⊎ ((place < length file) × (¬ IsBoundary place))

-- by these numbers it is told what a piece is, and for what reason bytes are passed over, 0 where none are
abbrev pub IsNumbered : PieceKind → (what why : ℕ) → Type 0
IsNumbered (Records records k) what why = (what ≡ 1) × (why ≡ 0)
IsNumbered (Kept k) what why =
    ((IsMetadata k × (what ≡ 2)) ⊎ ((IsCompressed k ⊎ IsTransposed k) × (what ≡ 3))) × (why ≡ 0)
IsNumbered SignatureOrPadding what why = (what ≡ 2) × (why ≡ 0)
IsNumbered (Skipped reason) what why = (what ≡ 4) × (why ≡ reason_number reason)

-- what the piece is that begins at a place of a file, where unread chunks are kept, and what is told of it
pub record TellsPiece (file : List ℕ) (place : ℕ) (kind : PieceKind) (told : PieceTold) : Type 0 where
  pub begin : told.begin ≡ place
  pub piece : IsPieceOf true file place told.end kind
  pub numbers : IsNumbered kind told.what told.why
  pub count : told.records ≡ length (records_of kind)
  pub bytes : told.bytes ≡ length (concat (records_of kind))

-- the status by which a piece is told: of a region 1, and of a chunk that by which its records are given; or 3 for want of memory
abbrev pub IsStatusOf : PieceKind → (values ends : List ℕ) → (status : ℕ) → Type 0
IsStatusOf (Skipped reason) values ends status = (status ≡ 1) ⊎ (status ≡ 3)
IsStatusOf kind values ends status = IsStatusFor (records_of kind) values ends status
