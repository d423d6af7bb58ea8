-- Promise. How many bytes of a file a walk takes, by the pieces that it passes and stands at. Own.
use Rattle.std.specs.Prelude.{ℕ, ◌+◌, ◌-◌, ◌*◌, ◌≤◌, ◌⊎◌, min, max, Bool, List, [], ◌∷◌, length}
use Rattle.block_layout.specs.Layout.{block_header_size, chunk_header_size, blocks_below, end_of}
use Rattle.chunk_reader.specs.Places.{end_at}
use Rattle.chunk_reader.specs.Reasons.{Applies, NoneOf, header_reasons, loading_reasons}
use Rattle.damage_skip.specs.Pieces.{Piece, AreTiles}
use Rattle.damage_skip.specs.Regions.{IsWalkedTo}
use Rattle.damage_skip.specs.Resyncs.{StandsFrom, Contradicts}
use Rattle.damage_skip.specs.declared.regions.Region.{Region}

-- so many bytes are taken of the headers of the blocks from a place up to another, and of none behind a block of which P holds
pub record LooksAtBlocks (P : (block previous next : ℕ) → Type 0) (from to taken : ℕ) : Type 0 where
  pub up_to : ℕ
  pub within : up_to ≤ to
  pub first : (block previous next : ℕ) → P block previous next → up_to ≤ block + 1
  pub few : taken ≤ block_header_size * (blocks_below up_to - blocks_below from)

-- where no chunk header can be read: one, or the file's rest if that is less, and the headers of blocks up to the first that stands
abbrev pub MayTakeUnread : List ℕ → (place taken : ℕ) → Type 0
MayTakeUnread file place taken =
    (¬ NoneOf (Applies file place) header_reasons)
    × LooksAtBlocks (StandsFrom file place) place (length file) (taken - min chunk_header_size (length file - place))

-- where a chunk header can be read, of a chunk that the file hasn't to its end or whose data is too large: that header, and those
-- of the blocks within the chunk up to the first that contradicts it
abbrev pub MayTakeUnloaded : List ℕ → (place taken : ℕ) → Type 0
MayTakeUnloaded file place taken =
    NoneOf (Applies file place) header_reasons × (¬ NoneOf (Applies file place) loading_reasons)
    × LooksAtBlocks (Contradicts file place (end_at file place)) place (min (end_at file place) (length file)) (taken - chunk_header_size)

-- where a chunk stands that can be loaded: no more than it has
abbrev pub MayTakeLoaded : List ℕ → (place taken : ℕ) → Type 0
MayTakeLoaded file place taken = NoneOf (Applies file place) loading_reasons × (place + taken ≤ end_at file place)

-- so many bytes may be taken of a file at a place, by what stands there
abbrev pub MayTakeAt : List ℕ → (place taken : ℕ) → Type 0
MayTakeAt file place taken = MayTakeUnread file place taken ⊎ MayTakeUnloaded file place taken ⊎ MayTakeLoaded file place taken

-- no byte up to a place stands behind a block that contradicts a chunk from a begin to an end, but in the chunk's header
abbrev pub StopsInChunk : List ℕ → (begin end to : ℕ) → Type 0
StopsInChunk file begin end to =
    (block previous next : ℕ) → Contradicts file begin end block previous next
    → to ≤ max (end_of begin chunk_header_size) (block + block_header_size)

-- so none is taken at a place of a chunk that can be loaded
abbrev pub StopsWhereContradicted : List ℕ → (place taken : ℕ) → Type 0
StopsWhereContradicted file place taken =
    NoneOf (Applies file place) loading_reasons → StopsInChunk file place (end_at file place) (place + taken)

-- so many bytes may be taken for the piece at a place, once it is passed
abbrev pub MayTakeFor : List ℕ → (place taken : ℕ) → Type 0
MayTakeFor file place taken = MayTakeAt file place taken × StopsWhereContradicted file place taken

-- pieces account for so many bytes: each for what may be taken for it
abbrev pub AccountFor : List ℕ → List Piece → ℕ → Type 0
AccountFor file [] taken = taken ≤ 0
AccountFor file (piece ∷ pieces) taken = (here : ℕ) × MayTakeFor file piece.begin here × AccountFor file pieces (taken - here)

-- the pieces of a file from a place up to another account for so many bytes
abbrev pub IsTakenFrom : (unread_ok : Bool) → List ℕ → (from to taken : ℕ) → Type 0
IsTakenFrom unread_ok file from to taken =
    (pieces : List Piece) × AreTiles unread_ok file from to pieces × AccountFor file pieces taken

-- these and what may be taken at the place where they end do
abbrev pub IsTakenUpTo : (unread_ok : Bool) → List ℕ → (from to taken : ℕ) → Type 0
IsTakenUpTo unread_ok file from to taken =
    (passed : ℕ) × IsTakenFrom unread_ok file from to passed × MayTakeAt file to (taken - passed)

-- so many bytes are taken by a walk up to some place, past regions of which P holds: the pieces up to there account for them, and
-- the one there
pub record IsTakenByWalk (unread_ok : Bool) (P : Region → Type 0) (file : List ℕ)
    (taken : ℕ) : Type 0 where
  pub place : ℕ
  pub events : List Piece
  pub walked : IsWalkedTo unread_ok P file place events
  pub account : IsTakenUpTo unread_ok file 0 place taken
