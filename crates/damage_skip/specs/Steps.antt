-- Inside. What the steps of a walk find. Own.
use Rattle.std.proofs.Common.{inl, inr}
use Rattle.std.specs.Prelude.{◌≡◌, ◌↔◌, ℕ, ◌+◌, ◌^◌, ◌<◌, ◌≤◌, ◌⊎◌, Option, Some, None, MatchOption, ⊤, Result, Ok, Err, Bool, true, false, IsTrue, min, List, length}
use Rattle.record_io.specs.Calls.{HasSize}
use Rattle.block_layout.specs.Layout.{IsBoundary}
use Rattle.chunk_header.specs.Chunks.{ChunkValue, IsChunk}
use Rattle.chunk_header.proofs.Decided.{IsDecided}
use Rattle.chunk_header.proofs.DecidedRecords.{records_decided}
use Rattle.chunk_header.specs.SimpleChunks.{IsSimple, IsSimpleChunk, IsCompressed}
use Rattle.chunk_header.specs.Views.{HasRightHash, value_of_chunk, value_of_header}
use Rattle.chunk_header.specs.declared.Header.{Header}
use Rattle.chunk_header.specs.declared.Chunk.{Chunk}
use Rattle.meta_chunk.specs.Files.{is_unread, max_data_size, IsTransposed}
use Rattle.meta_chunk.specs.Kinds.{IsMetadata}
use Rattle.meta_chunk.specs.Laid.{end_of_chunk}
use Rattle.chunk_reader.specs.Places.{data_at, end_by}
use Rattle.chunk_reader.specs.Reasons.{ContentApplies, NoneOf, IsFirstOf, content_reasons}
use Rattle.chunk_reader.specs.declared.reasons.Why.{Why}
use Rattle.chunk_reader.specs.declared.reasons.Why.TheVariants as reason
use Rattle.damage_skip.specs.Resyncs.{IsFirstBlock, Contradicts, landing}
use Rattle.damage_skip.specs.Pieces as pieces
use Rattle.damage_skip.specs.Takings.{MayTakeAt, MayTakeFor}
use Rattle.damage_skip.specs.declared.chunk_loads.Loaded.{Loaded}
use Rattle.damage_skip.specs.declared.chunk_loads.Loaded.TheVariants as load
use Rattle.damage_skip.specs.declared.pieces.NextPiece.{NextPiece}
use Rattle.damage_skip.specs.declared.pieces.Found.{Found}
use Rattle.damage_skip.specs.declared.pieces.Found.TheVariants as what
use Rattle.damage_skip.specs.declared.progress.Progress.{Progress}

-- a place behind another of a file of so many bytes: a boundary, or the file's end
pub record IsOnward (size from to : ℕ) : Type 0 where
  pub past : from < to
  pub within : to ≤ size
  pub boundary : IsBoundary to ⊎ (to ≡ size)

-- the end of a chunk, where one past 2 ^ 63 is not told
abbrev pub IsEndOf : Option ℕ → ℕ → Type 0
IsEndOf told end = MatchOption told (2 ^ 63 < end) (λ e. e ≡ end)

-- the blocks within a chunk that a file of so many bytes has lie below this place
abbrev pub limit_of : (size : ℕ) → Option ℕ → ℕ
limit_of size None = size
limit_of size (Some end) = min end size

-- at a block from a place up to another a header contradicts a chunk from a begin to an end
pub record ContradictsIn (file : List ℕ) (begin end from to block previous next : ℕ) : Type 0 where
  pub contradicts : Contradicts file begin end block previous next
  pub from_place : from ≤ block
  pub below : block < to

-- where the first of these leads, if there is one
abbrev pub LeadsTo : List ℕ → (begin end from to : ℕ) → Option ℕ → Type 0
LeadsTo file begin end from to None = (block previous next : ℕ) → ¬ ContradictsIn file begin end from to block previous next
LeadsTo file begin end from to (Some place) =
    (block previous next : ℕ) × IsFirstBlock (ContradictsIn file begin end from to) block previous next
    × (place ≡ landing (length file) begin block previous next)

-- the header at a block doesn't contradict the chunk from a begin to its end, whatever that is, and what the header leads to
-- that does
abbrev pub AgreesAt : (begin : ℕ) → Option ℕ → List ℕ → ℕ → Type 0
AgreesAt begin told file block = (end : ℕ) → IsEndOf told end → LeadsTo file begin end block (block + 1) None

abbrev pub DisagreesAt : (begin : ℕ) → Option ℕ → List ℕ → (block place : ℕ) → Type 0
DisagreesAt begin told file block place = (end : ℕ) → IsEndOf told end → LeadsTo file begin end block (block + 1) (Some place)

-- a file of so many bytes has what is, by this header, a chunk from a begin to an end
pub record IsChunkWithin (told : Option ℕ) (size begin end : ℕ) (header : Header) : Type 0 where
  pub sized : HasSize told size
  pub from_boundary : IsBoundary begin
  pub is_end : end ≡ end_by begin (value_of_header header)
  pub within : end ≤ size

-- a chunk that can be read, whose data has its hash
pub record IsIntact (chunk : Chunk) : Type 0 where
  pub right : HasRightHash chunk
  pub sound : IsChunk (value_of_chunk chunk)
  pub small : length chunk.bytes ≤ max_data_size

-- what was loaded is a chunk of this header, told whether it has the data's hash, or a place further on
abbrev pub IsLoadOf : (size begin : ℕ) → Header → Loaded → Type 0
IsLoadOf size begin header (load.Whole chunk right) =
    (chunk.header ≡ header) × IsChunk (value_of_chunk chunk) × (IsTrue right ↔ HasRightHash chunk)
IsLoadOf size begin header (load.Contradicted to) = IsOnward size begin to

-- it is the chunk in a file, of which no block within tells otherwise, or where the first one leads that does
abbrev pub IsLoadIn : List ℕ → (begin end : ℕ) → Header → Loaded → Type 0
IsLoadIn file begin end header (load.Whole chunk right) = (chunk.bytes ≡ data_at file begin header.data_size) × LeadsTo file begin end begin end None
IsLoadIn file begin end header (load.Contradicted to) = LeadsTo file begin end begin end (Some to)

-- what an intact chunk is that is kept, as the definition has it: with its records, where it was only judged whether it has some
abbrev pub kept_by : (k : ChunkValue) → IsDecided (IsSimpleChunk k) → pieces.PieceKind
kept_by k (inl (records, simple)) = pieces.Records records k
kept_by k (inr none) = pieces.Kept k

abbrev pub kept_as : ChunkValue → pieces.PieceKind
kept_as k = kept_by k (records_decided k)

-- what a piece is, as the definition has it
abbrev pub value_of_found : Found → pieces.PieceKind
value_of_found (what.Records records chunk) = pieces.Records records (value_of_chunk chunk)
value_of_found (what.Kept chunk unread) = kept_as (value_of_chunk chunk)
value_of_found what.SignatureOrPadding = pieces.SignatureOrPadding
value_of_found (what.Skipped why) = pieces.Skipped why

-- a piece is the one at a place of a file
abbrev pub IsPieceThere : (unread_ok : Bool) → ℕ → NextPiece → List ℕ → Type 0
IsPieceThere unread_ok at piece file =
    pieces.IsPieceOf unread_ok file at piece.end (value_of_found piece.what)

-- a chunk that is kept is one that is left unread, or metadata, or one of records where these aren't decoded
abbrev pub IsKeptAs : (decodes : Bool) → ChunkValue → (unread : Bool) → Type 0
IsKeptAs decodes k true = IsCompressed k ⊎ IsTransposed k
IsKeptAs decodes k false = IsMetadata k ⊎ ((decodes ≡ false) × IsSimpleChunk k)

-- the chunk that a piece has is this one
abbrev pub HasChunk : (decodes : Bool) → Chunk → Found → Type 0
HasChunk decodes chunk (what.Records records same) = same ≡ chunk
HasChunk decodes chunk (what.Kept same unread) = (same ≡ chunk) × IsKeptAs decodes (value_of_chunk chunk) unread
HasChunk decodes chunk other = ⊤

-- where records are decoded a chunk that is kept holds none
abbrev pub KeepsNone : (decodes : Bool) → Chunk → Type 0
KeepsNone decodes chunk = decodes ≡ true → ¬ IsSimpleChunk (value_of_chunk chunk)

-- the chunk of a piece from a place up to another is intact, ends there, and holds the records that are given or is known to be
-- left unread
abbrev pub HasIntact : (decodes : Bool) → (begin end : ℕ) → Found → Type 0
HasIntact decodes begin end (what.Records records chunk) =
    (end ≡ end_of_chunk begin (value_of_chunk chunk)) × IsIntact chunk × IsSimple (value_of_chunk chunk) records
HasIntact decodes begin end (what.Kept chunk unread) =
    (end ≡ end_of_chunk begin (value_of_chunk chunk)) × IsIntact chunk × (unread ≡ is_unread (value_of_chunk chunk))
    × KeepsNone decodes chunk
HasIntact decodes begin end other = ⊤

-- what a chunk is that was read: the first reason of its content to pass over it, or what it holds
abbrev pub IsReadAs : Progress → Chunk → Found → Type 0
IsReadAs walk chunk (what.Skipped why) =
    IsFirstOf (ContentApplies chunk.header.data_hash (value_of_chunk chunk)) (content_reasons walk.unread_ok) why
IsReadAs walk chunk other =
    NoneOf (ContentApplies chunk.header.data_hash (value_of_chunk chunk)) (content_reasons walk.unread_ok)
    × pieces.IsFoundAs walk.unread_ok (value_of_chunk chunk) (value_of_found other)
    × HasChunk walk.decodes chunk other

-- a piece up to a place for a reason, or where a block before it leads that tells of another chunk
abbrev pub IsUnloaded : List ℕ → (begin end to : ℕ) → Why → NextPiece → Type 0
IsUnloaded file begin end to why piece =
    ((piece.what ≡ what.Skipped reason.Contradicted) × LeadsTo file begin end begin to (Some piece.end))
    ⊎ ((piece.what ≡ what.Skipped why) × (piece.end ≡ to) × LeadsTo file begin end begin to None)

-- a piece that begins where a walk is
pub record IsPieceFrom (walk : Progress) (piece : NextPiece) : Type 0 where
  pub onward : IsOnward walk.size walk.place piece.end
  pub intact : HasIntact walk.decodes walk.place piece.end piece.what

-- so many bytes may be taken at a place where a piece was looked for
abbrev pub TakesForPiece : {E : Type 0} → Result NextPiece E → List ℕ → (place taken : ℕ) → Type 0
TakesForPiece (Ok piece) file place taken = MayTakeFor file place taken
TakesForPiece (Err why) file place taken = MayTakeAt file place taken
