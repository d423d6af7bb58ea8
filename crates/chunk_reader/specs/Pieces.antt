-- Inside. What is judged of the data of a chunk that comes in pieces. Own.
use Rattle.std.specs.Prelude.{◌≡◌, ◌≢◌, ℕ, Bool, true, Result, Ok, Err, List, MatchOption, IfSome, slice_range}
use Rattle.highway_hash.specs.Riegeli.{riegeli_key}
use Rattle.highway_hash.specs.Hashers.{hasher_of}
use Rattle.record_values.specs.Bytes.{AreBytes}
use Rattle.chunk_header.specs.Chunks.{ChunkValue}
use Rattle.chunk_header.specs.Kinds.{simple_kind}
use Rattle.chunk_header.specs.Views.{value_of}
use Rattle.simple_chunk.specs.Checkers.{HasChecked}
use Rattle.meta_chunk.specs.Files.{is_unread}
use Rattle.meta_chunk.specs.Laid.{IsLaid}
use Rattle.chunk_reader.specs.Places.{end_at, chunk_at}
use Rattle.chunk_reader.specs.Reasons.{ContentApplies, Applies, NoneOf, IsFirstOf, content_reasons, strict_reasons}
use Rattle.chunk_reader.specs.declared.piece_judge.PieceJudge.{PieceJudge}
use Rattle.chunk_reader.specs.declared.reasons.Why.{Why}
use Rattle.chunk_reader.specs.declared.verifying.Verified.{Verified}

-- the judge has taken these bytes of data: it knows their hash and, of a simple chunk, what its checker tells of them
pub record HasTaken (judge : PieceJudge) (bytes : List ℕ) : Type 0 where
  pub are_bytes : AreBytes bytes
  pub hashed : judge.hasher ≡ hasher_of riegeli_key bytes
  pub checked : MatchOption judge.checker (judge.header.kind ≢ simple_kind)
      (λ checker. (judge.header.kind ≡ simple_kind) × HasChecked checker judge.header bytes)

-- so many bytes of data are still to come, where the judge counts them
abbrev pub HasLeft : PieceJudge → ℕ → Type 0
HasLeft judge count = IfSome judge.checker (λ checker. checker.left ≡ count)

-- the answer tells of a chunk whether it is left unread, or the first reason by which its content is refused
abbrev pub TellsUnread : ℕ → ChunkValue → Result Bool Why → Type 0
TellsUnread hash k (Ok unread) = (unread ≡ is_unread k) × NoneOf (ContentApplies hash k) (content_reasons true)
TellsUnread hash k (Err why) = IsFirstOf (ContentApplies hash k) (content_reasons true) why

-- it is the chunk at a place of a file, which is laid there, which no reason refuses, and whose header this is
pub record IsVerifiedIn (unread_ok : Bool) (file : List ℕ) (place : ℕ) (v : Verified) : Type 0 where
  pub laid : IsLaid place (chunk_at file place) (slice_range file place (end_at file place))
  pub none : NoneOf (Applies file place) (strict_reasons unread_ok)
  pub end : v.end ≡ end_at file place
  pub header : value_of v.header (chunk_at file place).«data» ≡ chunk_at file place
  pub unread : v.unread ≡ is_unread (chunk_at file place)
