-- Inside. What a store holds that reads ahead. Own.
use Rattle.std.specs.Prelude.{◌≡◌, ℕ, ◌+◌, ◌^◌, ◌<◌, ◌≤◌, ◌==◌, max, Bool, false, Option, Some, None, Result, IfSome, OnErr, List, length, slice_range, refl, if◌then◌else◌}
use Rattle.std.specs.Int.{next_multiple_of}
use Rattle.record_io.specs.Outside.{Rose}
use Rattle.record_io.specs.FaultCounts.{faults_after}
use Rattle.record_io.specs.Seen.{SeenFile}

-- bytes and the place where they begin
pub record Part : Type 0 where
  -- where they begin
  pub from : ℕ
  -- the bytes
  pub bytes : List ℕ

-- a place lies where a part has a byte
pub record LiesIn (part : Part) (at : ℕ) : Type 0 where
  pub begins : part.from ≤ at
  pub ends : at < part.from + length part.bytes

-- where a file shows its bytes, these stand at their place in it
abbrev pub IsPartOf : Option (List ℕ) → Part → Type 0
IsPartOf file part = IfSome file (λ bytes. part.bytes ≡ slice_range bytes part.from (part.from + length part.bytes))

-- a store or a device that reads ahead of another one
pub record ReadingAhead : Type 0 where
  -- the bytes of the file, where they are shown
  pub bytes : Option (List ℕ)
  -- the size that was said last, if nothing was cut or put since
  pub said : Option ℕ
  -- where the last answer ended, if there was one
  pub ended : Option ℕ
  -- how many bytes were handed out
  pub handed : ℕ
  -- how many bytes the other store handed out
  pub inner_handed : ℕ
  -- how many faults there were
  pub faults : ℕ
  -- how many faults the other store had
  pub inner_faults : ℕ
  -- the name of what the other store borrows
  pub name : ℕ

-- whether a request at a place goes on where the last answer ended
abbrev pub goes_on : Option ℕ → ℕ → Bool
goes_on None at = false
goes_on (Some end) at = end == at

-- how many bytes are asked for at most to answer a request of so many at a place: where it goes on, as many as can be held,
-- and else whole pages of 4 KiB
abbrev pub most_asked : (room : ℕ) (ended : Option ℕ) (at wanted : ℕ) → ℕ
most_asked room ended at wanted = if goes_on ended at then max room wanted else next_multiple_of wanted 4096

-- the size that is told once one was said: where the bytes are shown, it is how many there are
abbrev pub told_by : Option ℕ → Option (List ℕ) → Option ℕ
told_by None bytes = None
told_by (Some size) None = Some size
told_by (Some size) (Some file) = Some (length file)

-- where the bytes are shown and the size was told, the size is how many there are
pub told_by-sized : (said : Option ℕ) (bytes : Option (List ℕ)) → IfSome bytes (λ file. IfSome (told_by said bytes) (λ size. size ≡ length file))
told_by-sized said None = tt
told_by-sized None (Some file) = tt
told_by-sized (Some size) (Some file) = refl

-- what holds of a store that reads ahead: of the bytes of the other one and the size that it told, the size that was said
-- of it, what is held of it, and the count of faults
pub record IsReadingAhead (bytes : Option (List ℕ)) (told said : Option ℕ) (held : Part) (faults : ℕ) : Type 0 where
  pub asked : IfSome said (λ size. told ≡ Some size)
  pub agrees : told_by said bytes ≡ said
  pub part : IsPartOf bytes held
  pub small : faults < 2 ^ 64

-- what it shows
abbrev pub ahead_seen : ReadingAhead → SeenFile
ahead_seen s = record { bytes = s.bytes; told = told_by s.said s.bytes; handed = s.handed; faults = s.faults }

-- a call that fails is counted, and fails only where the other store failed; what that one borrows stays
pub record PassesOn {X E : Type 0} (result : Result X E) (before after : ReadingAhead) : Type 0 where
  pub counted : after.faults ≡ faults_after result before.faults
  pub inner_cause : OnErr result (Rose before.inner_faults after.inner_faults)
  pub same_name : after.name ≡ before.name
