-- Inside. What can be relied on of real files and streams, of whose bytes nothing is shown to callers. Own.
use Rattle.std.specs.Prelude.{◌≡◌, ℕ, ◌+◌, ◌-◌, ◌^◌, ◌≤◌, min, true, Option, None, Some, Result, Ok, Err, Bool, List, length, take, IfOk, IfSome, OnOk, OnErr}
use Rattle.std.specs.Io.KnownBytes.{Appends, Consumes}
use Rattle.record_io.specs.FaultCounts.{faults_after}
use Rattle.record_io.specs.Seen.{SeenStream, SeenFile}

-- a file that is read at any place, and may be cut and grown
pub record Opened : Type 0 where
  -- its name
  pub path : List ℕ
  -- whether it could be opened, once that was tried
  pub opened : Option Bool
  -- the size that was last told, if nothing was cut or put since
  pub told : Option ℕ
  -- where it should end by what was told, cut and put, once there was such a call
  pub end : Option ℕ
  -- what the open file holds, where that is known
  pub contents : Option (List ℕ)
  -- how many bytes were handed out
  pub handed : ℕ
  -- how many faults there were
  pub faults : ℕ

-- a file of this name that is neither opened nor told its size
abbrev pub unopened : List ℕ → Opened
unopened path = record { path = path; opened = None; told = None; end = None; contents = None; handed = 0; faults = 0 }

-- what it shows: none of its bytes
abbrev pub opened_seen : Opened → SeenFile
opened_seen file = record { bytes = None; told = file.told; handed = file.handed; faults = file.faults }

-- a call counts its failure, and leaves the file's name, and whether it could be opened; where it fails, the file should end
-- where it did
pub record StaysOpen {X E : Type 0} (result : Result X E) (before after : Opened) : Type 0 where
  pub opened : OnOk result (after.opened ≡ Some true)
  pub opened_once : IfSome before.opened (λ could. after.opened ≡ Some could)
  pub same_path : after.path ≡ before.path
  pub same_end : OnErr result (after.end ≡ before.end)
  pub counted : after.faults ≡ faults_after result before.faults

-- so many bytes were put where a file should end, if that was known, and then it should end behind them
abbrev pub EndsBehind : Option ℕ → Option ℕ → ℕ → Type 0
EndsBehind before after n = (size : ℕ) × IfSome before (λ end. size ≡ end) × (after ≡ Some (min (size + n) (2 ^ 64 - 1)))

-- a file that is written from its front
pub record Writing : Type 0 where
  -- its name
  pub path : List ℕ
  -- whether it could be made, once that was tried
  pub opened : Option Bool
  -- what the open file holds, where that is known
  pub contents : Option (List ℕ)
  -- how many faults there were
  pub faults : ℕ

-- one of this name that isn't made yet
abbrev pub unmade : List ℕ → Writing
unmade path = record { path = path; opened = None; contents = None; faults = 0 }

-- a call counts its failure, and leaves the file's name, and whether it could be made
pub record StaysMade {X E : Type 0} (result : Result X E) (before after : Writing) : Type 0 where
  pub opened : OnOk result (after.opened ≡ Some true)
  pub opened_once : IfSome before.opened (λ could. after.opened ≡ Some could)
  pub same_path : after.path ≡ before.path
  pub counted : after.faults ≡ faults_after result before.faults

-- what it shows
abbrev pub writing_seen : Writing → SeenStream
writing_seen file = record { bytes = None; faults = file.faults }

-- a stream that is read
pub record Incoming : Type 0 where
  -- what its reader is still to give, where that is known
  pub remaining : Option (List ℕ)
  -- how many faults there were
  pub faults : ℕ

-- what it shows
abbrev pub incoming_seen : Incoming → SeenStream
incoming_seen stream = record { bytes = None; faults = stream.faults }

-- a stream that is written
pub record Outgoing : Type 0 where
  -- what its writer holds, where that is known
  pub contents : Option (List ℕ)
  -- how many faults there were
  pub faults : ℕ

-- what it shows
abbrev pub outgoing_seen : Outgoing → SeenStream
outgoing_seen stream = record { bytes = None; faults = stream.faults }

-- what a file holds that is opened once: nothing is known of it before, and where it could not be opened
abbrev pub written : {F E : Type 0} → (F → Option (List ℕ)) → Option (Result F E) → Option (List ℕ)
written contents None = None
written contents (Some (Ok file)) = contents file
written contents (Some (Err error)) = None

-- known bytes grew by a front of these
abbrev pub AppendsFront : Option (List ℕ) → Option (List ℕ) → List ℕ → Type 0
AppendsFront before after bytes = (n : ℕ) × (n ≤ length bytes) × Appends before after (take n bytes)

-- known bytes grew by so many of the front of a piece as the call answers, or where it failed by a front of it
pub record AppendsPiece {E : Type 0} (result : Result ℕ E) (piece : List ℕ) (before after : Option (List ℕ)) : Type 0 where
  pub appends : IfOk result (λ n. Appends before after (take n piece))
  pub front : OnErr result (AppendsFront before after piece)

-- a file gave these bytes after it was moved to a place, where its position is known
abbrev pub ReadsAt : {F : Type 0} → (F → Option ℕ) → (F → Option (List ℕ)) → F → F → ℕ → List ℕ → Type 0
ReadsAt {F} position remaining before after at bytes =
    (moved : F) × IfSome (position before) (λ _. position moved ≡ Some at) × Consumes (remaining moved) (remaining after) bytes
