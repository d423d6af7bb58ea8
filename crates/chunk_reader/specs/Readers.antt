-- Inside. What a call of a reader finds in a file. Own.
use Rattle.std.specs.Prelude.{◌≡◌, ℕ, ◌+◌, ◌^◌, ◌<◌, ◌≤◌, Bool, Option, Some, Result, Ok, IfSome, List, [], ◌∷◌, ◌++◌}
use Rattle.block_layout.specs.Layout.{IsBoundary}
use Rattle.record_values.specs.declared.file_totals.Totals.{Totals}
use Rattle.chunk_header.specs.Chunks.{ChunkValue}
use Rattle.chunk_header.specs.declared.Header.{Header}
use Rattle.chunk_header.specs.Views.{value_of, value_of_chunk}
use Rattle.meta_chunk.specs.Files.{max_data_size, totals_of, IsChainOf, IsFileOf}
use Rattle.chunk_reader.specs.Contents.{IsJudged}
use Rattle.chunk_reader.specs.Faults.{BeginsWithSignature, IsAllowed, IsFault}
use Rattle.chunk_reader.specs.Heads.{IsFoundHead}
use Rattle.chunk_reader.specs.Progress.{ReaderValue, AreInBounds, AreReadFrom}
use Rattle.chunk_reader.specs.Reasons.{Applies, NoneOf, loading_reasons}
use Rattle.chunk_reader.specs.declared.file_reader.ChunkAhead.{ChunkAhead}
use Rattle.chunk_reader.specs.declared.judging.Judged.{Judged}
use Rattle.chunk_reader.specs.declared.reasons.Fault.{Fault}
use Rattle.chunk_reader.specs.declared.reasons.ReadEnd.{ReadEnd}

-- a reader stands in a file of the size that was told, behind the chunks that its totals count
pub record ReadsIn (file : Option (List ℕ)) (told : Option ℕ) (at : ReaderValue) : Type 0 where
  pub size : told ≡ Some at.size
  pub in_reach : at.size ≤ 2 ^ 60
  pub read : IfSome file (λ bytes. AreReadFrom at.unread_ok bytes at.totals)

-- a reader went on in its file
pub record ReadsOn (file : Option (List ℕ)) (before after : ReaderValue) : Type 0 where
  pub same_size : after.size ≡ before.size
  pub same_unread_ok : after.unread_ok ≡ before.unread_ok
  pub totals : AreInBounds after.size after.totals
  pub read : IfSome file (λ bytes. AreReadFrom after.unread_ok bytes after.totals)

-- where totals count some chunks, later ones count those and this one more, which stands behind them in the file
abbrev pub GoesOn : (unread_ok : Bool) → List ℕ → (before after : Totals) → ChunkValue → Type 0
GoesOn unread_ok file before after k =
    (ks : List ChunkValue) → IsChainOf (IsAllowed unread_ok) ks file before.bytes → before ≡ totals_of ks
    → IsChainOf (IsAllowed unread_ok) (ks ++ k ∷ []) file after.bytes × (after ≡ totals_of (ks ++ k ∷ []))

-- the chunk is the next one: well formed where the reader stood, and one more behind all that were given
pub record IsNextChunk (file : Option (List ℕ)) (before after : ReaderValue) (j : Judged) : Type 0 where
  pub judged : IsJudged before.unread_ok before.size before.totals.bytes j
  pub moved : after.totals.bytes ≡ j.end
  pub given : IfSome file (λ bytes. GoesOn before.unread_ok bytes before.totals after.totals (value_of_chunk j.chunk))

-- the header of the next chunk stands where the reader does, behind the signature: the file has the chunk whole, and its data
-- isn't too large
pub record IsAhead (file : Option (List ℕ)) (at : ReaderValue) (ahead : ChunkAhead) : Type 0 where
  pub behind : 0 < at.totals.bytes
  pub below : at.totals.bytes < at.size
  pub found : IsFoundHead loading_reasons file at.totals.bytes ahead.header ahead.end
  pub within : ahead.end ≤ at.size
  pub small : ahead.header.data_size ≤ max_data_size

-- the next chunk was judged and not held: it has this header, and is one more behind all that were given
pub record IsNextPassed (file : Option (List ℕ)) (before after : ReaderValue) (header : Header) : Type 0 where
  pub moved : before.totals.bytes < after.totals.bytes
  pub given : IfSome file (λ bytes. (k : ChunkValue) × (value_of header k.«data» ≡ k) × IsAllowed before.unread_ok k
      × GoesOn before.unread_ok bytes before.totals after.totals k)

-- a reader stands at the end of its file, which is the chunks that were given
pub record IsReadWhole (file : Option (List ℕ)) (at : ReaderValue) : Type 0 where
  pub at_end : at.totals.bytes ≡ at.size
  pub signed : 64 ≤ at.size
  pub boundary : IsBoundary at.size
  pub whole : IfSome file (λ bytes. (ks : List ChunkValue)
      → IsChainOf (IsAllowed at.unread_ok) ks bytes at.totals.bytes
      → IsFileOf (IsAllowed at.unread_ok) ks bytes)

-- the fault is that of the file, and all chunks before it were given
pub record IsFaultBehind (file : Option (List ℕ)) (at : ReaderValue) (fault : Fault) : Type 0 where
  pub is_fault : IfSome file (λ bytes. IsFault at.unread_ok bytes fault)
  pub all_given : IfSome file (λ bytes. (ks : List ChunkValue) (place : ℕ)
      → IsChainOf (IsAllowed at.unread_ok) ks bytes place → place ≤ at.totals.bytes)

-- at a place of a file that begins as files do is a chunk whose header is right, which lies in the file and whose data isn't too
-- large
pub record IsChunkAtHand (file : Option (List ℕ)) (place : ℕ) : Type 0 where
  pub none : IfSome file (λ bytes. NoneOf (Applies bytes place) loading_reasons)
  pub signed : IfSome file BeginsWithSignature

-- how many bytes a call takes of a file at most: up to the end of the chunk that it gives, or of the file
pub record ReadsAtMost (at : ReaderValue) (result : Result (Option Judged) ReadEnd) (handed handed_then : ℕ) : Type 0 where
  pub given : (j : Judged) → result ≡ Ok (Some j) → handed_then + at.totals.bytes ≤ handed + j.end
  pub at_most : handed_then + at.totals.bytes ≤ handed + at.size
