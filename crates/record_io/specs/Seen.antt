-- Promise. What an object of the outside shows, and what a call says of it, each in one record. Own.
use Rattle.std.specs.Prelude.{◌≡◌, ℕ, ◌+◌, ◌-◌, ◌^◌, ◌<◌, ◌≤◌, ◌↔◌, min, Option, None, Some, is_some, Result, List, [], ◌++◌, length, take, slice_range, option_map, IfOk, IfSome, OnOk, OnErr}
use Rattle.record_io.specs.Outside.{Rose, Gives, Takes}

-- what a stream shows: the bytes that an input has left or that a sink took, where it shows them, and its count of faults
pub record SeenStream : Type 0 where
  pub bytes : Option (List ℕ)
  pub faults : ℕ

abbrev pub seen_stream : {X : Type 0} → (X → Option (List ℕ)) → (X → ℕ) → X → SeenStream
seen_stream bytes faults x = record { bytes = bytes x; faults = faults x }

-- what a file shows: its bytes, where it shows them, the size that it told the last time, how many bytes it handed out, up to
-- 2 ^ 64 - 1, and its count of faults
pub record SeenFile : Type 0 where
  pub bytes : Option (List ℕ)
  pub told : Option ℕ
  pub handed : ℕ
  pub faults : ℕ

abbrev pub seen_file : {X : Type 0} → (X → Option (List ℕ)) → (X → Option ℕ) → (X → ℕ) → (X → ℕ) → X → SeenFile
seen_file bytes told handed faults x = record { bytes = bytes x; told = told x; handed = handed x; faults = faults x }

-- a count of faults rises where the call fails, and never falls
pub record Counts {X E : Type 0} (result : Result X E) (before after : ℕ) : Type 0 where
  pub cause : OnErr result (Rose before after)
  pub never_falls : before ≤ after
  pub small : after < 2 ^ 64

-- a source gives bytes in the front of a buffer that has so much room, and none exactly at the end
pub record GivesPiece {E : Type 0} (result : Result ℕ E) (room : ℕ) (buf : List ℕ) (before after : SeenStream) : Type 0 where
  pub fits : IfOk result (λ n. n ≤ room)
  pub given : IfOk result (λ n. Gives before.bytes after.bytes (take n buf))
  pub at_end : IfOk result (λ n. IfSome before.bytes (λ bytes. (n ≡ 0) ↔ (bytes ≡ [])))
  pub told : is_some after.bytes ≡ is_some before.bytes
  pub kept : OnErr result (after.bytes ≡ before.bytes)
  pub counts : Counts result before.faults after.faults

-- a sink takes bytes from the front of a piece
pub record TakesPiece {E : Type 0} (result : Result ℕ E) (piece : List ℕ) (before after : SeenStream) : Type 0 where
  pub some : IfOk result (λ n. 0 < n)
  pub fits : IfOk result (λ n. n ≤ length piece)
  pub takes : IfOk result (λ n. Takes before.bytes after.bytes (take n piece))
  pub kept : OnErr result (after.bytes ≡ before.bytes)
  pub counts : Counts result before.faults after.faults

-- a file tells its size
pub record TellsSize {E : Type 0} (result : Result ℕ E) (before after : SeenFile) : Type 0 where
  pub tells : IfOk result (λ n. after.told ≡ Some n)
  pub exact : IfOk result (λ n. IfSome before.bytes (λ file. n ≡ length file))
  pub same_told : OnErr result (after.told ≡ before.told)
  pub same_bytes : after.bytes ≡ before.bytes
  pub same_handed : after.handed ≡ before.handed
  pub counts : Counts result before.faults after.faults

-- bytes that begin at a place of a file stand in the front of a buffer that has so much room
pub record ReadsPiece {E : Type 0} (result : Result ℕ E) (at room : ℕ) (buf : List ℕ) (before after : SeenFile) : Type 0 where
  pub some : IfOk result (λ n. 0 < n)
  pub fits : IfOk result (λ n. n ≤ room)
  pub within : IfOk result (λ n. IfSome before.told (λ size. at + n ≤ size))
  pub given : IfOk result (λ n. IfSome before.bytes (λ file. take n buf ≡ slice_range file at (at + n)))
  pub handed_out : IfOk result (λ n. after.handed ≡ min (before.handed + n) (2 ^ 64 - 1))
  pub same_handed : OnErr result (after.handed ≡ before.handed)
  pub same_bytes : after.bytes ≡ before.bytes
  pub same_told : after.told ≡ before.told
  pub told_small : IfSome before.told (λ size. size < 2 ^ 64)
  pub counts : Counts result before.faults after.faults

-- a file is left with its bytes before a place, and tells no size
pub record CutsAt {X E : Type 0} (result : Result X E) (at : ℕ) (before after : SeenFile) : Type 0 where
  pub leaves : OnOk result (after.bytes ≡ option_map (take at) before.bytes)
  pub kept : OnErr result (after.bytes ≡ before.bytes)
  pub untold : after.told ≡ None
  pub same_handed : after.handed ≡ before.handed
  pub counts : Counts result before.faults after.faults

-- bytes from the front of a piece stand behind all others of a file, which tells no size
pub record GrowsBy {E : Type 0} (result : Result ℕ E) (piece : List ℕ) (before after : SeenFile) : Type 0 where
  pub some : IfOk result (λ n. 0 < n)
  pub fits : IfOk result (λ n. n ≤ length piece)
  pub grows : IfOk result (λ n. after.bytes ≡ option_map (λ file. file ++ take n piece) before.bytes)
  pub kept : OnErr result (after.bytes ≡ before.bytes)
  pub untold : after.told ≡ None
  pub same_handed : after.handed ≡ before.handed
  pub counts : Counts result before.faults after.faults
