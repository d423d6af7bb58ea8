-- Inside. What a call leaves of the store that it asks, and what it gives to a sink. Own.
use Rattle.std.specs.Prelude.{◌≡◌, ℕ, ◌+◌, ◌^◌, ◌<◌, ◌≤◌, Option, Some, Result, IfOk, IfSome, List, ◌++◌, [], OnOk, OnErr, IsErr, length, take}
use Rattle.record_io.specs.Outside.{Rose, Takes, TakesShort}
use Rattle.record_io.specs.Buffers.{TakesAndHolds}

-- a call that answers how many bytes it handled handled at least one, and at most so many
pub record HandlesSome {E : Type 0} (result : Result ℕ E) (most : ℕ) : Type 0 where
  pub some : IfOk result (λ n. 0 < n)
  pub fits : IfOk result (λ n. n ≤ most)

-- a store is only asked: its bytes, the size that it told and what it borrows stay, and its count of faults never falls, and
-- rises where the call says that the store failed
pub record OnlyAsks {S L : Type 0} (bytes : S → Option (List ℕ)) (told : S → Option ℕ) (name : S → L) (faults : S → ℕ)
    (Fails : Type 0) (before after : S) : Type 0 where
  pub same_bytes : bytes after ≡ bytes before
  pub same_told : told after ≡ told before
  pub same_name : name after ≡ name before
  pub cause : Fails → Rose (faults before) (faults after)
  pub never_falls : faults before ≤ faults after
  pub small : faults before < 2 ^ 64 → faults after < 2 ^ 64

-- a store is only asked, and hands out at most what stands between two places
pub record AsksWithin {S L : Type 0} (bytes : S → Option (List ℕ)) (told : S → Option ℕ) (handed_by : S → ℕ) (name : S → L) (faults : S → ℕ)
    (Fails : Type 0) (from to : ℕ) (before after : S) : Type 0 where
  pub asks : OnlyAsks bytes told name faults Fails before after
  pub handed : handed_by after + from ≤ handed_by before + to

-- a store is only asked, and hands out at most so many bytes
pub record AsksUpTo {S L : Type 0} (bytes : S → Option (List ℕ)) (told : S → Option ℕ) (handed_by : S → ℕ) (name : S → L) (faults : S → ℕ)
    (Fails : Type 0) (most : ℕ) (before after : S) : Type 0 where
  pub asks : OnlyAsks bytes told name faults Fails before after
  pub handed : handed_by after ≤ handed_by before + most

-- so many bytes were told of a file, within the limit of files
pub record HasSize (told : Option ℕ) (size : ℕ) : Type 0 where
  pub is_told : told ≡ Some size
  pub in_reach : size ≤ 2 ^ 60

-- the bytes of a file stay, and what it borrows
pub record KeepsFile {S L : Type 0} (bytes : S → Option (List ℕ)) (name : S → L) (before after : S) : Type 0 where
  pub same_bytes : bytes after ≡ bytes before
  pub same_name : name after ≡ name before

-- of an object that is used this stays: what it borrows; and its count of faults never falls, and rises where the call says
-- that the object failed
pub record OnlyCounts {M L : Type 0} (lent : M → L) (faults : M → ℕ) (Fails : Type 0) (before after : M) : Type 0 where
  pub same_lent : lent after ≡ lent before
  pub cause : Fails → Rose (faults before) (faults after)
  pub never_falls : faults before ≤ faults after
  pub small : faults before < 2 ^ 64 → faults after < 2 ^ 64

-- bytes go to a sink: all of them, or where that fails a front of them and not all, and then the sink is the cause
pub record PutsTo {M L X E : Type 0} (taken : M → Option (List ℕ)) (lent : M → L) (faults : M → ℕ)
    (result : Result X E) (bytes : List ℕ) (before after : M) : Type 0 where
  pub whole : OnOk result (Takes (taken before) (taken after) bytes)
  pub front : OnErr result (TakesShort (taken before) (taken after) bytes)
  pub counts : OnlyCounts lent faults (IsErr result) before after

-- the same by way of what is held beside the sink: these bytes before, and those after
pub record PutsThrough {M L X E : Type 0} (taken : M → Option (List ℕ)) (lent : M → L) (faults : M → ℕ)
    (result : Result X E) (held held_then bytes : List ℕ) (before after : M) : Type 0 where
  pub whole : OnOk result (TakesAndHolds (taken before) (taken after) (held ++ bytes) held_then)
  pub front : OnErr result (TakesShort (taken before) (taken after) (held ++ bytes))
  pub emptied : OnErr result (held_then ≡ [])
  pub counts : OnlyCounts lent faults (IsErr result) before after

-- the same by way of a buffer that holds at most so many bytes, and no more than that afterwards
pub record PutsWithin {M L X E : Type 0} (taken : M → Option (List ℕ)) (lent : M → L) (faults : M → ℕ)
    (result : Result X E) (room : ℕ) (held held_then bytes : List ℕ) (before after : M) : Type 0 where
  pub through : PutsThrough taken lent faults result held held_then bytes before after
  pub fits : length held ≤ room → length held_then ≤ room

-- where a sink showed what it had taken, it took a front of these bytes more
abbrev pub TakesFront : Option (List ℕ) → Option (List ℕ) → List ℕ → Type 0
TakesFront before after bytes =
    IfSome before (λ taken. (n : ℕ) × (n ≤ length bytes) × (after ≡ Some (taken ++ take n bytes)))
