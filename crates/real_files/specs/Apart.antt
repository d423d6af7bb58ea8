-- Inside. What can be relied on of files that are used apart from others, and of what is told apart from them. Own.
use Rattle.std.specs.Prelude.{◌≡◌, ℕ, Option, None, Some, Bool, true, false, is_some, Result, List, IfSome, IsErr, OnErr}
use Rattle.record_io.specs.Outside.{Lent, Rose}
use Rattle.record_io.specs.FaultCounts.{faults_after}
use Rattle.record_io.specs.Seen.{SeenFile, SeenStream}
use Rattle.record_io.specs.Edge.{Opened, Writing}

-- a file that is used where it is none of some other files
pub record ApartFrom (F : Type 0) : Type 0 where
  -- whether it is none of the others, once that was looked at
  pub apart : Option Bool
  -- the file, as it is used
  pub file : F
  -- how many faults there were
  pub faults : ℕ

-- a file before its first call
abbrev pub unused : {F : Type 0} → F → ApartFrom F
unused file = record { apart = None; file = file; faults = 0 }

-- what one shows that is read and grown: nothing of its bytes
abbrev pub apart_seen : ApartFrom Opened → SeenFile
apart_seen f = record { bytes = None; told = f.file.told; handed = f.file.handed; faults = f.faults }

-- what one shows that is made
abbrev pub made_seen : ApartFrom Writing → SeenStream
made_seen f = record { bytes = None; faults = f.faults }

-- a call is made on a file only where it is none of the others, which is looked at once, and fails where it is one; it is counted
-- where it fails
pub record KeepsApart {X E F : Type 0} (made : Type 0) (result : Result X E) (before after : ApartFrom F) : Type 0 where
  pub looked : is_some after.apart ≡ true
  pub looked_once : IfSome before.apart (λ apart. after.apart ≡ Some apart)
  pub refuses : after.apart ≡ Some false → IsErr result
  pub untouched : after.apart ≡ Some false → after.file ≡ before.file
  pub calls : after.apart ≡ Some true → made
  pub counted : after.faults ≡ faults_after result before.faults

-- what is told where that goes to no file of the call
pub record TellingApart : Type 0 where
  -- whether it goes to none
  pub apart : Bool
  -- all bytes that the sink took, where it shows them
  pub taken : Option (List ℕ)
  -- what the sink borrows
  pub lent : Lent
  -- how many faults there were
  pub faults : ℕ
  -- how many faults the sink had
  pub notes_faults : ℕ

-- what it shows
abbrev pub told_seen : TellingApart → SeenStream
told_seen told = record { bytes = told.taken; faults = told.faults }

-- a call is made on the sink only where what it takes goes to no file of the call, and fails where it does; it is counted where it
-- fails
pub record TellsApart {X E : Type 0} (result : Result X E) (before after : TellingApart) : Type 0 where
  pub same_apart : after.apart ≡ before.apart
  pub refuses : before.apart ≡ false → IsErr result
  pub untouched : before.apart ≡ false → after.notes_faults ≡ before.notes_faults
  pub notes_cause : OnErr result (before.apart ≡ true → Rose before.notes_faults after.notes_faults)
  pub counted : after.faults ≡ faults_after result before.faults
