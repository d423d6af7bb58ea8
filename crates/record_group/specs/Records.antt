-- Inside. Records that can be written. Own.
use Rattle.std.specs.Prelude.{ℕ, ◌^◌, ◌≤◌, List, length}
use Rattle.std.specs.List.{AllByRecursion}
use Rattle.record_values.specs.Bytes.{AreBytes}

-- a record: bytes, and at most 2 ^ 24 of them
pub record IsRecord (record_bytes : List ℕ) : Type 0 where
  pub are_bytes : AreBytes record_bytes
  pub at_most : length record_bytes ≤ 2 ^ 24

abbrev pub AreRecords : List (List ℕ) → Type 0
AreRecords = AllByRecursion IsRecord
