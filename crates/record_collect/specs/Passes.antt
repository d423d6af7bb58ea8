-- Inside. What contracts see of a collector and of its passes. Own.
use Rattle.std.specs.Prelude.{◌≡◌, ◌≢◌, ℕ, ◌+◌, ◌^◌, ◌<◌, ◌≤◌, ◌⊎◌, Option, Some, None, List, [], ◌∷◌, ◌++◌, length, map, take}
use Rattle.std.specs.List.{AllByRecursion, AllZip, flat_map}
use Rattle.std.specs.Option.{option_to_list}
use Rattle.atomic_table.specs.Seated.{TableId}
use Rattle.number_shares.specs.Least.{IsLeast}
use Rattle.simple_chunk.specs.Costs.{cost, cost_of}
use Rattle.record_collect.specs.declared.collector.Batch.{Batch}
use Rattle.record_collect.specs.declared.collector.CollectEnd.{CollectEnd}
use Rattle.record_collect.specs.declared.collector.CollectEnd.TheVariants.{TooLong, Full, Memory}
use Rattle.record_collect.specs.Limits.{limit}
use Rattle.record_collect.specs.Gatherings.{AreWoven, GatheredValue}

-- which table receipts are taken from, and for how many passes
pub record CollectorValue : Type 0 where
  pub table : TableId
  pub passes : ℕ

-- which table the pass takes receipts from, the batches of records that were accepted of it, in their order, each with the
-- receipt of its first record, and the number at which it ended, if it did
pub record PassValue : Type 0 where
  pub table : TableId
  pub mine : List Batch
  pub ended : Option ℕ

-- the pass belongs to this collector: it takes its receipts from the collector's table
abbrev pub BelongsTo : CollectorValue → PassValue → Type 0
BelongsTo collector pass = pass.table ≡ collector.table

-- nothing was put, and the pass hasn't ended
abbrev pub IsFresh : PassValue → Type 0
IsFresh pass = (pass.mine ≡ []) × (pass.ended ≡ None)

-- a pass of the collector of which nothing was put yet
abbrev pub IsReady : CollectorValue → PassValue → Type 0
IsReady collector pass = BelongsTo collector pass × IsFresh pass

-- the numbers of each batch end where those of the next begin, or before
abbrev pub Rises : List Batch → Type 0
Rises [] = Unit {0}
Rises (b ∷ bs) = AllByRecursion (λ c. b.at + cost_of b.records ≤ c.at) bs × Rises bs

-- each record has at most 2 ^ 24 bytes
abbrev pub IsShort : List (List ℕ) → Type 0
IsShort records = AllByRecursion (λ r. length r ≤ 2 ^ 24) records

abbrev pub AreShort : List Batch → Type 0
AreShort batches = AllByRecursion (λ b. IsShort b.records) batches

-- the record was accepted with this receipt: it ends at or below the limit, and begins past all that the pass had, behind which
-- it goes
pub record IsPut (old : PassValue) (record_bytes : List ℕ) (at : ℕ) (new : PassValue) : Type 0 where
  pub short : length record_bytes ≤ 2 ^ 24
  pub going : old.ended ≡ None
  pub ends : at + cost record_bytes ≤ limit
  pub above : AllByRecursion (λ b. b.at + cost_of b.records ≤ at) old.mine
  pub pass : new ≡ record old { mine = old.mine ++ record { at = at; records = record_bytes ∷ [] } ∷ [] }

-- the pass ends here, since with so much more it would end above the limit
pub record EndsHere (old : PassValue) (more held : ℕ) (new : PassValue) : Type 0 where
  pub going : old.ended ≡ None
  pub over : limit < held + more
  pub pass : new ≡ record old { ended = Some held }

-- a pass that took its step for records before they are read: its batches, what the records before these cost, and what they cost
pub record ReservedValue : Type 0 where
  pub table : TableId
  pub mine : List Batch
  pub at : ℕ
  pub cost : ℕ

-- so it was made of the pass
pub record IsReserved (old : PassValue) (more : ℕ) (new : ReservedValue) : Type 0 where
  pub table : new.table ≡ old.table
  pub mine : new.mine ≡ old.mine
  pub cost : new.cost ≡ more

-- and the pass again, with these records
abbrev pub IsFilled : ReservedValue → List (List ℕ) → PassValue → Type 0
IsFilled old records new =
    new ≡ record { table = old.table; mine = old.mine ++ record { at = old.at; records = records } ∷ []; ended = None }

-- why the record was refused, and what became of the pass: too long exactly where it has more than 2 ^ 24 bytes; full where
-- the pass had ended, or ends here
abbrev pub IsRefused : PassValue → List ℕ → CollectEnd → PassValue → Type 0
IsRefused old record_bytes TooLong new = (2 ^ 24 < length record_bytes) × (new ≡ old)
IsRefused old record_bytes (Full held) new =
    (length record_bytes ≤ 2 ^ 24) × (((old.ended ≡ Some held) × (new ≡ old)) ⊎ EndsHere old (cost record_bytes) held new)
IsRefused old record_bytes Memory new = (length record_bytes ≤ 2 ^ 24) × (old.ended ≡ None) × (new ≡ old)

-- the records that were accepted of a pass
abbrev pub pass_records : PassValue → List (List ℕ)
pass_records pass = flat_map (λ b. b.records) pass.mine

-- the receipts of records, of which those before the first cost so much
abbrev pub receipts_from : ℕ → List (List ℕ) → List ℕ
receipts_from at [] = []
receipts_from at (r ∷ rs) = at ∷ receipts_from (at + cost r) rs

-- the receipts of the records that were accepted of a pass
abbrev pub receipts_of : PassValue → List ℕ
receipts_of pass = flat_map (λ b. receipts_from b.at b.records) pass.mine

-- the numbers at which passes ended
abbrev pub ends_of : List PassValue → List ℕ
ends_of passes = flat_map (λ p. option_to_list p.ended) passes

-- what the records before each of these numbers cost is the receipt of the pass's record there
abbrev pub HaveReceipts : List (List ℕ) → PassValue → List ℕ → Type 0
HaveReceipts records pass numbers = map (λ n. cost_of (take n records)) numbers ≡ receipts_of pass

-- what a collector makes of its passes: their records woven into one list, in which the receipt of each is what all before it
-- cost; together they cost no more than the limit, and where a pass ended, the least number at which one did
pub record AreGathered (passes : List PassValue) (made : GatheredValue) : Type 0 where
  pub woven : AreWoven (map pass_records passes) made.records made.numbers
  pub receipts : AllZip (HaveReceipts made.records) passes made.numbers
  pub most : cost_of made.records ≤ limit
  pub ended : ends_of passes ≢ [] → IsLeast (cost_of made.records) (ends_of passes)
