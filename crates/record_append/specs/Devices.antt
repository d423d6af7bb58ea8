-- Inside. What is shown of a file that is cut and grown, and what a call leaves of it. Own.
use Rattle.std.specs.Prelude.{◌≡◌, ℕ, ◌+◌, ◌*◌, ◌^◌, ◌<◌, ◌≤◌, Option, IfSome, List, drop, length, take, option_map}
use Rattle.record_io.specs.Outside.{Rose}

-- of the bytes of a file those from a place on, where they are shown
abbrev pub bytes_from : ℕ → Option (List ℕ) → Option (List ℕ)
bytes_from at file = option_map (drop at) file

-- of the bytes of a file those before a place, where they are shown
abbrev pub bytes_before : ℕ → Option (List ℕ) → Option (List ℕ)
bytes_before at file = option_map (take at) file

-- one name for the loan of a device and a size below 2^64 that it told
abbrev pub name_of_sized : (loan size : ℕ) → ℕ
name_of_sized loan size = loan * 2 ^ 64 + size

-- a device is used: its count of faults never falls, and rises where the call says that the device failed
pub record CountsFaults {G : Type 0} (faults : G → ℕ) (Fails : Type 0) (before after : G) : Type 0 where
  pub cause : Fails → Rose (faults before) (faults after)
  pub never_falls : faults before ≤ faults after
  pub small : faults before < 2 ^ 64 → faults after < 2 ^ 64

-- a device ends at a place, where it shows its bytes, and told this size, if it tells one
pub record EndsAt (place size : ℕ) (bytes : Option (List ℕ)) (told : Option ℕ) : Type 0 where
  pub ends : IfSome bytes (λ file. length file ≡ place)
  pub tells : IfSome told (λ own. own ≡ size)
