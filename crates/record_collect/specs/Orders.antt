-- Inside. The batches of all passes in one list, each with its receipt and the number of its pass. Own.
use Rattle.std.specs.Prelude.{◌≡◌, ◌≢◌, ℕ, ◌+◌, ◌<◌, ◌≤◌, ◌==◌, if◌then◌else◌, Some, List, [], ◌∷◌, ◌++◌, length, map, slice_get}
use Rattle.std.specs.List.{AllByRecursion, filter, range_with_len, sum_by}
use Rattle.simple_chunk.specs.Costs.{cost_of}
use Rattle.atomic_table.specs.Table.{Me}
use Rattle.number_shares.specs.Least.{IsLeast}
use Rattle.number_shares.specs.declared.table.SeatView.{SeatView}
use Rattle.number_shares.specs.declared.table.Piece.{Piece}
use Rattle.record_collect.specs.declared.collector.Batch.{Batch}
use Rattle.record_collect.specs.declared.placed.Placed.{Placed}
use Rattle.record_collect.specs.Batches.{in_turn}
use Rattle.record_collect.specs.Gatherings.{GatheredValue}
use Rattle.record_collect.specs.Limits.{limit}
use Rattle.record_collect.specs.Passes.{IsShort, PassValue, Rises, ends_of}

-- a batch of a pass in the list of all
abbrev pub place_in : ℕ → Batch → Placed
place_in pass b = record { at = b.at; pass = pass; records = b.records }

-- its piece
abbrev pub piece_at : Placed → Piece
piece_at e = record { at = e.at; cost = cost_of e.records }

-- the batches of a pass in the list of all
abbrev pub of_pass : ℕ → List Placed → List Placed
of_pass pass es = filter (λ e. e.pass == pass) es

-- the receipt of each batch is what all before it cost, and so much more
abbrev pub ReceiptsAddUp : ℕ → List Placed → Type 0
ReceiptsAddUp at [] = Unit {0}
ReceiptsAddUp at (e ∷ es) = (e.at ≡ at) × ReceiptsAddUp (at + cost_of e.records) es

-- what they cost together
abbrev pub cost_of_placed : List Placed → ℕ
cost_of_placed es = sum_by (λ e. cost_of e.records) es

-- the lists of records alone
abbrev pub lists_in : List Placed → List (List (List ℕ))
lists_in es = map (λ e. e.records) es

-- the records, one batch behind another
abbrev pub records_in : List Placed → List (List ℕ)
records_in es = in_turn (lists_in es)

-- at which numbers, from one on, the records of a pass stand
abbrev pub places_of : ℕ → ℕ → List Placed → List ℕ
places_of pass at [] = []
places_of pass at (e ∷ es) =
    if e.pass == pass then range_with_len at (length e.records) ++ places_of pass (at + length e.records) es
    else places_of pass (at + length e.records) es

-- these are the batches of so many passes, each with the number of its pass
pub record ArePlaced (passes : List PassValue) (count : ℕ) (es : List Placed) : Type 0 where
  pub each : (i : ℕ) (p : PassValue) → slice_get passes i ≡ Some p → of_pass i es ≡ map (place_in i) p.mine
  pub rising : (i : ℕ) (p : PassValue) → slice_get passes i ≡ Some p → Rises p.mine
  pub short : AllByRecursion (λ e. IsShort e.records) es
  pub no_other : AllByRecursion (λ e. e.pass < count) es

-- a seat has what the seats of so many passes had: the pieces of these batches, and the numbers at which passes ended
pub record HasAllOf (passes : List PassValue) (count : ℕ) (es : List Placed) (me : Me (Unit {0}) SeatView) : Type 0 where
  pub mine : me.0.mine ≡ map piece_at es
  pub past : map (λ x. x.at) me.0.past ≡ ends_of passes
  pub weight : me.0.weight ≡ count
  pub slots : me.1 ≡ []

-- these are the batches of so many passes in the order of their receipts: no record is too long, what they cost is within the limit,
-- and where passes ended the least number at which one did
pub record AreSorted (passes : List PassValue) (count : ℕ) (es : List Placed) : Type 0 where
  pub each : (i : ℕ) (p : PassValue) → slice_get passes i ≡ Some p → of_pass i es ≡ map (place_in i) p.mine
  pub no_other : AllByRecursion (λ e. e.pass < count) es
  pub receipts : ReceiptsAddUp 0 es
  pub short : AllByRecursion (λ e. IsShort e.records) es
  pub most : cost_of_placed es ≤ limit
  pub ended : ends_of passes ≢ [] → IsLeast (cost_of_placed es) (ends_of passes)

-- the records, and the numbers of each of so many passes
abbrev pub gathered_of : List Placed → ℕ → GatheredValue
gathered_of es passes = record { records = records_in es; numbers = map (λ pass. places_of pass 0 es) (range_with_len 0 passes) }
