-- Inside. Which spelling of a number is the shortest. Source: the Riegeli/records file format specification,
-- "Conventions".
use Rattle.std.specs.Prelude.{ℕ, ◌≤◌, List, length}
use Rattle.varint_wire.specs.Varint.{Spells}

-- the bytes are the spelling of least length
pub record IsShortest (value : ℕ) (bytes : List ℕ) : Type 0 where
  pub spells : Spells value bytes
  pub least : (others : List ℕ) → Spells value others → length bytes ≤ length others
