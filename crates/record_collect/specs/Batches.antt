-- Inside. Records in the batches that they were read in. Own.
use Rattle.std.specs.Prelude.{◌≡◌, ℕ, ◌^◌, ◌<◌, Some, List, length, slice_get}
use Rattle.std.specs.List.{flat_map, range_with_len}
use Rattle.record_collect.specs.declared.span.Span.{Span}
use Rattle.record_collect.specs.Gatherings.{GatheredValue}

-- the records of lists, one list behind another
abbrev pub in_turn : List (List (List ℕ)) → List (List ℕ)
in_turn lists = flat_map (λ list. list) lists

-- neighbouring numbers
abbrev pub numbers_in_span : Span → List ℕ
numbers_in_span span = range_with_len span.first span.count

-- those of several spans
abbrev pub numbers_in : List Span → List ℕ
numbers_in spans = flat_map numbers_in_span spans

-- the records of batches, one batch behind another, and for each pass these numbers
abbrev pub gathered_in : List (List (List ℕ)) → List (List ℕ) → GatheredValue
gathered_in batches numbers = record { records = in_turn batches; numbers = numbers }

-- a record of more than 2 ^ 24 bytes is among them
pub record HasLong (records : List (List ℕ)) : Type 0 where
  pub number : ℕ
  pub long : List ℕ
  pub there : slice_get records number ≡ Some long
  pub too_long : 2 ^ 24 < length long
