-- Promise. The fault of a file: the longest front of well-formed chunks, and why no further chunk follows; and which of
-- several files is the first with one. Own.
use Rattle.std.specs.Prelude.{◌≡◌, ℕ, ◌<◌, ◌≤◌, Bool, true, false, ◌⊎◌, Some, List, length, slice_get, take}
use Rattle.std.specs.List.{AllByRecursion}
use Rattle.chunk_header.specs.Chunks.{ChunkValue}
use Rattle.meta_chunk.specs.Files.{signature_bytes, IsPlain, IsWellFormedChunk, IsChainOf, IsFileOf}
use Rattle.chunk_reader.specs.Reasons.{IsWrongBlock, Applies, IsFirstOf, strict_reasons}
use Rattle.chunk_reader.specs.declared.reasons.Why.{Why}
use Rattle.chunk_reader.specs.declared.reasons.Why.TheVariants as why
use Rattle.chunk_reader.specs.declared.reasons.Fault.{Fault}

-- a chunk of a file that has to be readable (false, here and below), or only well formed (true)
abbrev pub IsAllowed : (unread_ok : Bool) → ChunkValue → Type 0
IsAllowed false = IsPlain
IsAllowed true = IsWellFormedChunk

-- the place of a fault: the first wrong block, or else the chunk's begin
abbrev pub IsPlaceOf : List ℕ → ℕ → Why → ℕ → Type 0
IsPlaceOf file place why.BlockHeader at =
    IsWrongBlock file place at × ((block : ℕ) → IsWrongBlock file place block → at ≤ block)
IsPlaceOf file place other at = at ≡ place

-- the strict verdict on the chunk at a place is this fault
abbrev pub IsVerdict : (unread_ok : Bool) → List ℕ → ℕ → Fault → Type 0
IsVerdict unread_ok file place fault =
    IsFirstOf (Applies file place) (strict_reasons unread_ok) fault.why
    × IsPlaceOf file place fault.why fault.at

-- the chunks are the longest front of the file in which each meets P, and end at the place
pub record IsLongest (P : ChunkValue → Type 0) (ks : List ChunkValue) (file : List ℕ) (place : ℕ) : Type 0 where
  pub chain : IsChainOf P ks file place
  pub greatest : (others : List ChunkValue) (other : ℕ) → IsChainOf P others file other → other ≤ place

-- the file begins with the bytes that each file begins with
abbrev pub BeginsWithSignature : List ℕ → Type 0
BeginsWithSignature file = take (length signature_bytes) file ≡ signature_bytes

-- the file has no fault: it is well-formed chunks from its front to its end
abbrev pub HasNoFault : (unread_ok : Bool) → List ℕ → Type 0
HasNoFault unread_ok file = (ks : List ChunkValue) × IsFileOf (IsAllowed unread_ok) ks file

-- the fault of a file that has one: that it doesn't begin as files do, or else the verdict where its longest front of
-- well-formed chunks ends
abbrev pub IsFault : (unread_ok : Bool) → List ℕ → Fault → Type 0
IsFault unread_ok file fault =
    ((¬ BeginsWithSignature file) × (fault ≡ record { at = 0; why = why.NoSignature }))
    ⊎ (BeginsWithSignature file
    × ((ks : List ChunkValue) × (place : ℕ) × IsLongest (IsAllowed unread_ok) ks file place
    × (place < length file) × IsVerdict unread_ok file place fault))

-- none of the files has a fault
abbrev pub HaveNoFault : (unread_ok : Bool) → List (List ℕ) → Type 0
HaveNoFault unread_ok files = AllByRecursion (HasNoFault unread_ok) files

-- of the files that have a fault this is the first, by its number from 0, and this is its fault
pub record IsFirstFault (unread_ok : Bool) (files : List (List ℕ)) (index : ℕ)
    (fault : Fault) : Type 0 where
  pub before : HaveNoFault unread_ok (take index files)
  pub file : List ℕ
  pub there : slice_get files index ≡ Some file
  pub is_fault : IsFault unread_ok file fault
