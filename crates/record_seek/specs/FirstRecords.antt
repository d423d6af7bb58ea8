-- Inside. The first record at or past a position. Own.
use Rattle.std.specs.Prelude.{◌≡◌, ℕ, ◌<◌, ◌≤◌, Option, Some, None, List, slice_get}

-- of records with their positions, the one of least position that is at least so much, or nothing where there is none
abbrev pub IsFirstAt : List (ℕ × List ℕ) → ℕ → Option (ℕ × List ℕ) → Type 0
IsFirstAt placed position (Some found) =
    ((i : ℕ) × (slice_get placed i ≡ Some found)) × (position ≤ found.0)
    × ((i : ℕ) (other : ℕ × List ℕ) → slice_get placed i ≡ Some other → position ≤ other.0 → found.0 ≤ other.0)
IsFirstAt placed position None =
    (i : ℕ) (other : ℕ × List ℕ) → slice_get placed i ≡ Some other → other.0 < position
