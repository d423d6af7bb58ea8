-- Promise. Records that are found, as they are told to C. Own.
use Rattle.std.specs.Prelude.{◌≡◌, ℕ, ◌-◌, ◌≤◌, Some, List, length}
use Rattle.chunk_reader.specs.PositionSearches.{SearchGives}
use Rattle.record_seek.specs.Begins.{IsRecordOf}
use Rattle.record_seek.specs.Met.{IsMetBySearch}
use Rattle.seek_command.specs.Searches.{MayFind}
use Rattle.riegeli_c.specs.declared.seeking.FoundAt.{FoundAt}

-- what a search for a position gives, as it is told
pub record TellsSought (file : List ℕ) (position : ℕ) (told : FoundAt) (bytes : List ℕ) : Type 0 where
  pub gives : SearchGives file position (Some (told.position, bytes))
  pub behind : told.begin ≤ told.position
  pub stands : IsRecordOf file told.begin (told.position - told.begin) bytes
  pub size : told.bytes ≡ length bytes

-- what a search for a key gives, as it is told: the chunk is one to which the search may come
pub record TellsFound (file key : List ℕ) (told : FoundAt) (bytes : List ℕ) : Type 0 where
  pub finds : MayFind key file (Some (told.position, bytes))
  pub met : IsMetBySearch file told.begin
  pub behind : told.begin ≤ told.position
  pub stands : IsRecordOf file told.begin (told.position - told.begin) bytes
  pub size : told.bytes ≡ length bytes
