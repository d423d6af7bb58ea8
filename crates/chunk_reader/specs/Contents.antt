-- Inside. What strict reading makes of chunks that are well formed. Own.
use Rattle.std.specs.Prelude.{◌≡◌, ℕ, ◌<◌, ◌≤◌, ◌⊎◌, Bool, true, Result, Err, IfOk, List, [], length, slice_range}
use Rattle.block_layout.specs.Layout.{IsBoundary}
use Rattle.chunk_header.specs.Chunks.{ChunkValue, IsChunk}
use Rattle.chunk_header.specs.SimpleChunks.{IsSimple, IsCompressed}
use Rattle.chunk_header.specs.declared.Chunk.{Chunk}
use Rattle.chunk_header.specs.Views.{value_of_chunk, HasRightHash}
use Rattle.meta_chunk.specs.Kinds.{IsSignature, IsMetadata, IsPadding}
use Rattle.meta_chunk.specs.Files.{max_data_size, IsTransposed}
use Rattle.meta_chunk.specs.Laid.{IsLaid, end_of_chunk}
use Rattle.chunk_reader.specs.Places.{end_at, chunk_at}
use Rattle.chunk_reader.specs.Reasons.{Applies, ContentApplies, NoneOf, IsFirstOf, content_reasons, strict_reasons}
use Rattle.chunk_reader.specs.declared.chunk_content.Content.{Content}
use Rattle.chunk_reader.specs.declared.chunk_content.Content.TheVariants as content
use Rattle.chunk_reader.specs.declared.chunk_content.ContentEnd.{ContentEnd}
use Rattle.chunk_reader.specs.declared.chunk_content.ContentEnd.TheVariants.{Fault}
use Rattle.chunk_reader.specs.declared.reasons.Why.{Why}
use Rattle.chunk_reader.specs.declared.judging.Judged.{Judged}
use Rattle.chunk_reader.specs.declared.judging.What.{What}
use Rattle.chunk_reader.specs.declared.judging.What.TheVariants.{Records, Passive, Unread}

-- what a chunk that is read holds
abbrev pub IsContent : ChunkValue → Content → Type 0
IsContent k content.Signature = IsSignature k
IsContent k content.Metadata = IsMetadata k
IsContent k content.Padding = IsPadding k
IsContent k (content.Records records) = IsSimple k records

-- the same in short, where other chunks are left unread if these are let through
abbrev pub IsWhat : (unread_ok : Bool) → ChunkValue → What → Type 0
IsWhat unread_ok k (Records records) = IsSimple k records
IsWhat unread_ok k Passive = IsSignature k ⊎ IsMetadata k ⊎ IsPadding k
IsWhat unread_ok k Unread = (unread_ok ≡ true) × (IsCompressed k ⊎ IsTransposed k)

-- the content of a chunk is refused exactly by the first reason that applies to it, unless memory is wanting first
pub record JudgesContent {X : Type 0} (unread_ok : Bool) (chunk : Chunk)
    (result : Result X ContentEnd) : Type 0 where
  pub sound : IfOk result
      (λ _. NoneOf (ContentApplies chunk.header.data_hash (value_of_chunk chunk)) (content_reasons unread_ok))
  pub refused : (why : Why) → result ≡ Err (Fault why)
      → IsFirstOf (ContentApplies chunk.header.data_hash (value_of_chunk chunk)) (content_reasons unread_ok) why

-- the records that are given of it: none where it isn't a chunk of records
abbrev pub records_given : What → List (List ℕ)
records_given (Records records) = records
records_given other = []

-- a chunk given from a place of a file of so many bytes
pub record IsJudged (unread_ok : Bool) (size place : ℕ) (j : Judged) : Type 0 where
  pub begin : j.begin ≡ place
  pub end : j.end ≡ end_of_chunk place (value_of_chunk j.chunk)
  pub to_boundary : IsBoundary j.end
  pub after : place < j.end
  pub within : j.end ≤ size
  pub small : length j.chunk.bytes ≤ max_data_size
  pub right : HasRightHash j.chunk
  pub sound : IsChunk (value_of_chunk j.chunk)
  pub what : IsWhat unread_ok (value_of_chunk j.chunk) j.what

-- it is the chunk at a place of a file, which is laid there, and which no reason refuses
pub record IsJudgedIn (unread_ok : Bool) (file : List ℕ) (place : ℕ) (j : Judged) : Type 0 where
  pub chunk : value_of_chunk j.chunk ≡ chunk_at file place
  pub end : j.end ≡ end_at file place
  pub laid : IsLaid place (chunk_at file place) (slice_range file place (end_at file place))
  pub none : NoneOf (Applies file place) (strict_reasons unread_ok)
