-- Inside. What is made of files that stores show. Own.
use Rattle.std.specs.Prelude.{◌≡◌, ℕ, ◌+◌, ◌^◌, ◌<◌, ◌≤◌, ◌⊎◌, true, Option, Result, Ok, Err, List, [], ◌∷◌, ◌++◌, length, take}
use Rattle.record_values.specs.declared.file_totals.Totals.{Totals}
use Rattle.record_io.specs.Outside.{Takes, TakesShort}
use Rattle.record_io.specs.Calls.{TakesFront}
use Rattle.record_io.specs.ManyStores.{AreTold}
use Rattle.chunk_header.specs.Chunks.{ChunkValue}
use Rattle.meta_chunk.specs.Files.{totals_of, IsWellFormed, end_of_chunks}
use Rattle.meta_chunk.specs.PaddingSizes.{padding_at}
use Rattle.ordered_writer.specs.Padding.{padding_bytes}
use Rattle.chunk_reader.specs.Faults.{HasNoFault, HaveNoFault, IsFault, IsFirstFault}
use Rattle.chunk_reader.specs.declared.reasons.Fault.{Fault}
use Rattle.record_join.specs.Joined.{joined, joined_at_most}
use Rattle.record_join.specs.declared.joins.JoinEnd.{JoinEnd}
use Rattle.record_join.specs.declared.joins.JoinEnd.TheVariants as end

-- stores told sizes by which they can be joined: there is one, and one behind another they have no more bytes than a file may
pub record CanBeJoined {S : Type 0} (told : S → Option ℕ) (stores : List S) (sizes : List ℕ) : Type 0 where
  pub some : 0 < length stores
  pub are_told : AreTold told stores sizes
  pub in_reach : joined_at_most sizes ≤ 2 ^ 60

-- the totals of files and of one more behind them, with the padding between
abbrev pub totals_joined : Totals → Totals → Totals
totals_joined before file = record {
  chunks = before.chunks + length (padding_at before.bytes) + file.chunks;
  records = before.records + file.records;
  bytes = end_of_chunks before.bytes (padding_at before.bytes) + file.bytes;
  unread = before.unread + file.unread;
}

-- one more file is well-formed chunks, and these are the totals with it behind those before
abbrev pub AreTotalsWith : Totals → List ℕ → Totals → Type 0
AreTotalsWith before file totals =
    (ks : List ChunkValue) × IsWellFormed ks file × (totals ≡ totals_joined before (totals_of ks))

-- none of the files has a fault, all were put one after another, and these are the totals of what they make
pub record AreJoined (files : List (List ℕ)) (counted : Totals) (before after : Option (List ℕ)) : Type 0 where
  pub without_fault : HaveNoFault true files
  pub chunks : List ChunkValue
  pub well_formed : IsWellFormed chunks (joined files)
  pub totals : counted ≡ totals_of chunks
  pub took : Takes before after (joined files)

-- this is the first file with a fault, and those before it were put
pub record AreJoinedUpTo (files : List (List ℕ)) (index : ℕ) (fault : Fault) (before after : Option (List ℕ)) : Type 0 where
  pub first : IsFirstFault true files index fault
  pub took : Takes before after (joined (take index files))

-- P holds of what was put of all files where none has a fault, or of those before the first that has one
pub record IsPutOfJoined (P : (before after : Option (List ℕ)) → List ℕ → Type 0) (files : List (List ℕ)) (before after : Option (List ℕ)) : Type 0 where
  pub of_all : HaveNoFault true files → P before after (joined files)
  pub of_those_before : (index : ℕ) (fault : Fault) → IsFirstFault true files index fault → P before after (joined (take index files))

-- a front of these was put
abbrev pub IsFrontJoined : List (List ℕ) → (before after : Option (List ℕ)) → Type 0
IsFrontJoined files before after = IsPutOfJoined TakesFront files before after

-- or a front and not all, so there was some
abbrev pub IsShortJoined : List (List ℕ) → (before after : Option (List ℕ)) → Type 0
IsShortJoined files before after = IsPutOfJoined TakesShort files before after

-- what was put of files by how joining them ended
abbrev pub TakesJoined : Result Totals JoinEnd → List (List ℕ) → (before after : Option (List ℕ)) → Type 0
TakesJoined (Ok totals) files before after = AreJoined files totals before after
TakesJoined (Err (end.Refused index fault)) files before after = AreJoinedUpTo files index fault before after
TakesJoined (Err end.Store) files before after = IsFrontJoined files before after
TakesJoined (Err end.Made) files before after = IsShortJoined files before after

-- the first file with a fault is told, unless a store or the sink failed; and the sink fails only where the first file has none
pub record AnswersFirst (result : Result Totals JoinEnd) (files : List (List ℕ)) : Type 0 where
  pub complete : (index : ℕ) (fault : Fault) → IsFirstFault true files index fault
      → (result ≡ Err (end.Refused index fault)) ⊎ (result ≡ Err end.Store) ⊎ (result ≡ Err end.Made)
  pub sound_first : result ≡ Err end.Made → HaveNoFault true (take 1 files)

-- of one more file nothing was put; or it has no fault, and a front of it behind some padding was put
abbrev pub IsFrontPut : (padding file : List ℕ) → (before after : Option (List ℕ)) → Type 0
IsFrontPut padding file before after =
    (after ≡ before) ⊎ (HasNoFault true file × TakesFront before after (padding ++ file))

-- one more file has no fault, and a front of it behind some padding was put and not all
abbrev pub IsShortPut : (padding file : List ℕ) → (before after : Option (List ℕ)) → Type 0
IsShortPut padding file before after = HasNoFault true file × TakesShort before after (padding ++ file)

-- what was put of one more file, of this number and behind those of these totals, by how that ended
abbrev pub TakesNext : Result Totals JoinEnd → ℕ → Totals → (file : List ℕ) → (before after : Option (List ℕ)) → Type 0
TakesNext (Ok totals) index front file before after =
    AreTotalsWith front file totals × Takes before after (padding_bytes front.bytes ++ file)
TakesNext (Err (end.Refused number fault)) index front file before after =
    (number ≡ index) × IsFault true file fault × (after ≡ before)
TakesNext (Err end.Store) index front file before after = IsFrontPut (padding_bytes front.bytes) file before after
TakesNext (Err end.Made) index front file before after = IsShortPut (padding_bytes front.bytes) file before after

-- what was put of a file that is copied, or of a piece of one
abbrev pub TakesCopied : {X : Type 0} → Result X JoinEnd → List ℕ → (before after : Option (List ℕ)) → Type 0
TakesCopied (Ok x) bytes before after = Takes before after bytes
TakesCopied (Err (end.Refused index fault)) bytes before after = ⊥
TakesCopied (Err end.Store) bytes before after = TakesFront before after bytes
TakesCopied (Err end.Made) bytes before after = TakesShort before after bytes

-- the chunks of files one after another: those of each but the last and the padding at its end, and those of the last
abbrev pub joined_chunks : List (List ChunkValue) → List ChunkValue
joined_chunks [] = []
joined_chunks (ks ∷ []) = ks
joined_chunks (ks ∷ next ∷ lists) = ks ++ padding_at (end_of_chunks 0 ks) ++ joined_chunks (next ∷ lists)
