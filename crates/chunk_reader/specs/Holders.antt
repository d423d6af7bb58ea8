-- Promise. Which chunk of a file holds a position, as the headers of blocks and of chunks tell. Own.
use Rattle.std.specs.Prelude.{◌≡◌, ℕ, ◌-◌, ◌<◌, ◌≤◌, ◌⊎◌, Option, Some, None, List, [], ◌∷◌, length}
use Rattle.block_layout.specs.Layout.{block_of, IsBlock}
use Rattle.block_layout.specs.BlockHeaders.{StandsAt}
use Rattle.block_layout.specs.declared.block_header.BlockHeader.{BlockHeader}
use Rattle.chunk_reader.specs.Places.{end_at}
use Rattle.chunk_reader.specs.Reasons.{Applies, NoneOf, IsFirstOf, unpassed_reasons}
use Rattle.chunk_reader.specs.declared.reasons.Fault.{Fault}
use Rattle.chunk_reader.specs.declared.reasons.Why.TheVariants as why

-- the places of the chunks between one place of a file and another, in order: each chunk has a right header, lies in the
-- file, and ends where the next one is
abbrev pub ArePlacesBetween : List ℕ → (from to : ℕ) → List ℕ → Type 0
ArePlacesBetween file from to [] = from ≡ to
ArePlacesBetween file from to (place ∷ places) =
    (place ≡ from) × NoneOf (Applies file from) unpassed_reasons × ArePlacesBetween file (end_at file from) to places

-- at a block stands a header that is right and sane, and it tells that the chunk there begins at this place
abbrev pub TellsBegin : List ℕ → (block begin : ℕ) → Type 0
TellsBegin file block begin = (previous next : ℕ) × StandsAt file block previous next × (begin ≡ block - previous)

-- a place at or before a position of the file to which chunks lead, from the begin that the block at or before the position
-- tells
pub record IsOnWay (file : List ℕ) (position place : ℕ) : Type 0 where
  pub begin : ℕ
  pub places : List ℕ
  pub below : position < length file
  pub told : TellsBegin file (block_of position) begin
  pub between : ArePlacesBetween file begin place places
  pub before : place ≤ position

-- the chunk at a place on the way to a position holds it: its header is right, it lies in the file, and it ends past the
-- position
pub record IsHolder (file : List ℕ) (position place : ℕ) : Type 0 where
  pub on_way : IsOnWay file position place
  pub whole : NoneOf (Applies file place) unpassed_reasons
  pub within : position < end_at file place

-- the header that stands at a block, if one does that is right and sane
abbrev pub IsSaneHeaderAt : List ℕ → ℕ → Option BlockHeader → Type 0
IsSaneHeaderAt file block None = (previous next : ℕ) → ¬ StandsAt file block previous next
IsSaneHeaderAt file block (Some header) = StandsAt file block header.previous header.next

-- the fault of a block below the file's end at which no such header stands
pub record IsBlockFault (file : List ℕ) (block : ℕ) (fault : Fault) : Type 0 where
  pub is_block : IsBlock block
  pub below : block < length file
  pub unread : IsSaneHeaderAt file block None
  pub is_fault : fault ≡ record { at = block; why = why.BlockHeader }

-- why no chunk is found to hold a position below the file's end: the block at or before it tells no begin, or on the way a
-- chunk has no right header or doesn't lie in the file, of which the first is told that applies
abbrev pub IsHolderFault : List ℕ → ℕ → Fault → Type 0
IsHolderFault file position fault =
    ((position < length file) × IsBlockFault file (block_of position) fault)
    ⊎ (IsOnWay file position fault.at × IsFirstOf (Applies file fault.at) unpassed_reasons fault.why)
