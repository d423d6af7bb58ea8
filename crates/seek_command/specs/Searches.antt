-- Promise. What a search that `seek` makes may give, and the order of bytes. Own.
use Rattle.std.specs.Prelude.{◌≡◌, ℕ, ◌+◌, ◌≤◌, ◌⊎◌, Bool, Option, None, IfSome, IsTrue, List, length, slice_get}
use Rattle.std.specs.Cmp.Lexicographic.{slice_cmp}
use Rattle.std.specs.Ordering.{is_lt, nat_cmp}
use Rattle.chunk_header.specs.Chunks.{ChunkValue}
use Rattle.meta_chunk.specs.Files.{IsReadable, IsWellFormed, ArePlaced, LiesIn}
use Rattle.chunk_reader.specs.SearchBounds.{position_bound, key_bound}
use Rattle.chunk_reader.specs.PositionSearches.{SearchGives, IsSearchFault}
use Rattle.chunk_reader.specs.declared.reasons.Fault.{Fault}
use Rattle.record_seek.specs.Found.{IsAnsweringNumber, IsKeyFound, BytesStandBefore, OnlyFrontStandsBefore}
use Rattle.record_seek.specs.Met.{IsMetFault, IsMetRecord, LeadsWithoutRecords, LeadsPastAll}
use Rattle.seek_command.specs.declared.seek_words.By.{By}
use Rattle.seek_command.specs.declared.seek_words.By.TheVariants.{At, Key}

-- whether bytes are less than those of a key: the first two that differ decide, and where none do the fewer are less
abbrev pub is_below : (key bytes : List ℕ) → Bool
is_below key bytes = is_lt (slice_cmp nat_cmp bytes key)

-- they are less, and so stand before the key
abbrev pub IsBelow : (key bytes : List ℕ) → Type 0
IsBelow key bytes = IsTrue (is_below key bytes)

-- what a search for a key may find in a file, by the bytes that are less than the key
pub record MayFind (key file : List ℕ) (found : Option (ℕ × List ℕ)) : Type 0 where
  -- in a file without fault a record that isn't less, and that is the first one or has one right before it that is less; or
  -- nothing, where there is no record or the last one is less
  pub among : (ks : List ChunkValue) (placed : List (ℕ × List ℕ))
      → IsReadable ks file → ArePlaced ks placed
      → IsKeyFound (BytesStandBefore (IsBelow key)) placed found
  -- so the first that isn't less, where the records of a front are less and no others
  pub in_order : (ks : List ChunkValue) (placed : List (ℕ × List ℕ)) (count : ℕ)
      → IsReadable ks file → ArePlaced ks placed
      → OnlyFrontStandsBefore (BytesStandBefore (IsBelow key)) placed count
      → found ≡ slice_get placed count
  -- in any file a record that isn't less, of a chunk without fault to which the search may come. Those before it in the chunk
  -- are less, and where it is the chunk's first, chunks lead there from the file's front without records, or past a last one
  -- that is less
  pub apart : IfSome found (λ f. ¬ IsBelow key f.1)
  pub met : IfSome found (IsMetRecord file (IsBelow key))
  -- or nothing, where chunks lead to the file's end without records, or past a last one that is less
  pub none : found ≡ None → LeadsWithoutRecords file (length file) ⊎ LeadsPastAll file (length file) (IsBelow key)

-- with which fault it may be refused: one that it may meet, and of no file without fault
pub record IsKeyFault (file : List ℕ) (fault : Fault) : Type 0 where
  pub met : IsMetFault file fault
  pub not_whole : (ks : List ChunkValue) → ¬ IsReadable ks file

-- what may be found: for a position the one thing that a search for it gives
abbrev pub MayGive : By → (file : List ℕ) → Option (ℕ × List ℕ) → Type 0
MayGive (At position) file found = SearchGives file position found
MayGive (Key key) file found = MayFind key file found

-- with which fault the search may be refused
abbrev pub MayRefuse : By → (file : List ℕ) → Fault → Type 0
MayRefuse (At position) file fault = IsSearchFault file position fault
MayRefuse (Key key) file fault = IsKeyFault file fault

-- how many bytes are handed out at most of a file that is chunks to its end
abbrev pub TakesOf : By → (file : List ℕ) → (before after : ℕ) → Type 0
TakesOf (At position) file before after =
    (ks : List ChunkValue) (h j : ℕ) → IsWellFormed ks file → LiesIn ks position h
    → IsAnsweringNumber ks position j
    → after ≤ before + position_bound ks h j
TakesOf (Key key) file before after =
    (ks : List ChunkValue) → IsWellFormed ks file → after ≤ before + key_bound ks

-- and of any file by its size: none for a position at or past its end
abbrev pub TakesBySize : By → (size before after : ℕ) → Type 0
TakesBySize (At position) size before after = size ≤ position → after ≡ before
TakesBySize (Key key) size before after = Unit {0}
