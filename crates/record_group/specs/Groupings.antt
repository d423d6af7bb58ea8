-- Inside. What a grouper keeps between records, and what it gives for them. Own.
use Rattle.std.specs.Prelude.{◌≡◌, ◌≢◌, ℕ, ◌+◌, ◌^◌, ◌≤◌, true, false, Option, Some, None, IfSome, List, [], ◌∷◌, ◌++◌, length}
use Rattle.std.specs.Option.{ForSome, option_to_list}
use Rattle.simple_chunk.specs.Costs.{cost_of}
use Rattle.record_group.specs.Groups.{closes_before, groups_after}

-- the chunk size, how many records are wanted in each group, where a number is wanted, and the open group
pub record Grouping : Type 0 where
  pub size : ℕ
  pub every : Option ℕ
  pub group : List (List ℕ)

-- the open group with its limits, and the groups that closed before it
pub record BufferValue : Type 0 where
  pub grouping : Grouping
  pub closed : List (List (List ℕ))

-- what each group keeps: it has a record, no more of them than are wanted in each, and costs at most the size,
-- unless it is one record alone
pub record KeepsLimits (size : ℕ) (every : Option ℕ) (group : List (List ℕ)) : Type 0 where
  pub some : group ≢ []
  pub count : IfSome every (λ most. 1 ≤ most → length group ≤ most)
  pub costs : 2 ≤ length group → cost_of group ≤ size

-- a size, and a number of records where one is wanted, that groups may be limited to
pub record MayLimit (size : ℕ) (every : Option ℕ) : Type 0 where
  pub some_size : 1 ≤ size
  pub size_at_most : size ≤ 2 ^ 24
  pub some_records : ForSome every (λ count. 1 ≤ count)
  pub every_at_most : ForSome every (λ count. count ≤ 2 ^ 24)

-- a group that is given keeps the limits, and so costs at most that size, or what one record does
pub record IsGivenGroup (size : ℕ) (every : Option ℕ) (group : List (List ℕ)) : Type 0 where
  pub limits : KeepsLimits size every group
  pub costs : cost_of group ≤ 2 ^ 24 + 8

-- what a grouper keeps: a size of at most 2 ^ 24, and an open group that is empty or keeps the limits, and so costs
-- at most that size, or what one record does
pub record IsOpenGroup (size : ℕ) (every : Option ℕ) (group : List (List ℕ)) : Type 0 where
  pub size_at_most : size ≤ 2 ^ 24
  pub limits : group ≢ [] → KeepsLimits size every group
  pub costs : cost_of group ≤ 2 ^ 24 + 8

-- before any record
abbrev pub new_grouping : ℕ → Option ℕ → Grouping
new_grouping size every = record { size = size; every = every; group = [] }

-- the groups that are still to come, where these records follow
abbrev pub groups_from : Grouping → List (List ℕ) → List (List (List ℕ))
groups_from grouping = groups_after grouping.size grouping.every grouping.group

-- what a record does: it goes into the open group, and nothing is given; or that group closes before it and is given,
-- and the record is the first of the next
abbrev pub IsPush : Grouping → List ℕ → Option (List (List ℕ)) → Grouping → Type 0
IsPush old record_bytes None new =
    (closes_before old.size old.every old.group record_bytes ≡ false)
    × (new ≡ record old { group = old.group ++ record_bytes ∷ [] })
IsPush old record_bytes (Some given) new =
    (closes_before old.size old.every old.group record_bytes ≡ true)
    × (given ≡ old.group)
    × (new ≡ record old { group = record_bytes ∷ [] })

-- what records do, one after another, with all groups that are given
abbrev pub ArePushes : Grouping → List (List ℕ) → List (List (List ℕ)) → Grouping → Type 0
ArePushes old [] given new = (given ≡ []) × (new ≡ old)
ArePushes old (record_bytes ∷ records) given new =
    (closed : Option (List (List ℕ)))
    × (next : Grouping)
    × (rest : List (List (List ℕ)))
    × IsPush old record_bytes closed next
    × ArePushes next records rest new
    × (given ≡ option_to_list closed ++ rest)
