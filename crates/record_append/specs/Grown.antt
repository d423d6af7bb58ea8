-- Promise. The file that new records make of an old one. Own.
use Rattle.std.specs.Prelude.{◌≡◌, ◌≢◌, ℕ, zero, suc, Bool, true, false, ◌⊎◌, List, [], ◌++◌, take}
use Rattle.chunk_header.specs.Chunks.{ChunkValue}
use Rattle.meta_chunk.specs.Files.{laid_each}
use Rattle.chunk_reader.specs.Faults.{IsAllowed, IsFault, IsLongest}
use Rattle.chunk_reader.specs.declared.reasons.Fault.{Fault}
use Rattle.chunk_reader.specs.declared.reasons.Why.{Why}
use Rattle.chunk_reader.specs.declared.reasons.Why.TheVariants as why
use Rattle.record_writer.specs.Written.{chunks_under, tail_chunks}
use Rattle.record_writer.specs.declared.options.WriteOptions.{WriteOptions}

-- an old file is kept up to this place, the greatest up to which it is well-formed chunks, unread ones too
abbrev pub IsKeptTo : List ℕ → ℕ → Type 0
IsKeptTo file place = (ks : List ChunkValue) × IsLongest (IsAllowed true) ks file place

-- the chunks that are laid for records from a place on: those of the whole file of the records from the front, and else their tail
abbrev pub chunks_at : WriteOptions → ℕ → List (List ℕ) → List ChunkValue
chunks_at options zero records = chunks_under options records
chunks_at options (suc n) records = tail_chunks options (suc n) records

-- their bytes
abbrev pub bytes_at : WriteOptions → ℕ → List (List ℕ) → List ℕ
bytes_at options place records = laid_each place (chunks_at options place records)

-- the grown file, of an old one that is kept up to a place: its bytes before that, and those of the records from there on. So an
-- empty file, of which nothing is kept, grows to the file of the records
abbrev pub grown : WriteOptions → List ℕ → ℕ → List (List ℕ) → List ℕ
grown options file place records = take place file ++ bytes_at options place records

-- a fault with which an old file is refused: that it doesn't begin as files do; and where nothing may be cut off, each other one
-- than that the file ends within a chunk
abbrev pub RefusesFor : Bool → Why → Type 0
RefusesFor cut reason = (reason ≡ why.NoSignature) ⊎ ((cut ≡ false) × (reason ≢ why.Short) × (reason ≢ why.Truncated))

-- an old file, which isn't empty, is refused with its fault
pub record IsRefusedToGrow (cut : Bool) (file : List ℕ) (fault : Fault) : Type 0 where
  pub some : file ≢ []
  pub is_fault : IsFault true file fault
  pub reason : RefusesFor cut fault.why

-- an old file isn't refused
abbrev pub IsUnrefused : Bool → List ℕ → Type 0
IsUnrefused cut file = (fault : Fault) → ¬ IsRefusedToGrow cut file fault
