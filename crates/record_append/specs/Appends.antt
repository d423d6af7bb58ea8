-- Promise. What a device holds where records are put behind those of an old file. Own.
use Rattle.std.specs.Prelude.{◌≡◌, ℕ, ◌≤◌, Bool, ◌⊎◌, Option, Some, List, ◌++◌, length, take}
use Rattle.record_writer.specs.declared.options.WriteOptions.{WriteOptions}
use Rattle.record_append.specs.Grown.{IsKeptTo, IsUnrefused, bytes_at, grown}

-- the old file isn't refused, it is kept up to this place, and a device holds it grown by these records
pub record HoldsGrown (options : WriteOptions) (cut : Bool) (file : List ℕ) (place : ℕ) (records : List (List ℕ)) (held : Option (List ℕ)) : Type 0 where
  pub taken : IsUnrefused cut file
  pub kept : IsKeptTo file place
  pub grown : held ≡ Some (grown options file place records)

-- the old file isn't refused, and a device holds what is kept of it, and of the bytes of these records behind it a front
pub record HoldsGrownInPart (options : WriteOptions) (cut : Bool) (file : List ℕ) (records : List (List ℕ)) (held : Option (List ℕ)) : Type 0 where
  pub place : ℕ
  pub count : ℕ
  pub taken : IsUnrefused cut file
  pub kept : IsKeptTo file place
  pub front : count ≤ length (bytes_at options place records)
  pub grown : held ≡ Some (take place file ++ take count (bytes_at options place records))

-- the old file isn't refused, it is kept up to this place, and a device holds what is kept of it and bytes behind that
abbrev pub GrowsFrom : Bool → List ℕ → ℕ → List ℕ → Type 0
GrowsFrom cut file place held = IsUnrefused cut file × IsKeptTo file place × ((rest : List ℕ) × (held ≡ take place file ++ rest))

-- no byte that is kept of an old file changes: a device holds that file or, where it isn't refused, that of it and more
abbrev pub KeepsFront : Bool → List ℕ → List ℕ → Type 0
KeepsFront cut file held = (held ≡ file) ⊎ ((place : ℕ) × GrowsFrom cut file place held)

-- a device holds the old file, which isn't refused, grown by these records
abbrev pub HoldsAppended : WriteOptions → Bool → List ℕ → List (List ℕ) → Option (List ℕ) → Type 0
HoldsAppended options cut file records held = (place : ℕ) × HoldsGrown options cut file place records held
