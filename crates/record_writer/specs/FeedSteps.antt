-- Inside. What a feed of records reads, and how it hands on the next record. Own.
use Rattle.std.specs.Prelude.{◌≡◌, ℕ, ◌+◌, ◌^◌, ◌≤◌, Bool, Option, Some, None, IfSome, List, [], ◌∷◌, drop, length}
use Rattle.std.specs.List.{flat_map, sum_by}
use Rattle.record_group.specs.Groupings.{Grouping, IsPush}
use Rattle.record_writer.specs.Feeds.{Rest}

-- what a feed reads
pub record Origin : Type 0 where
  -- the name of what it borrows, if it borrows what it reads
  pub name : ℕ
  -- how many bytes of that it leaves in any case, where that is shown
  pub spared : Option ℕ

-- a feed borrows nothing, and shows nothing of what it leaves
abbrev pub no_origin : Origin
no_origin = record { name = 0; spared = None }

-- no record and no stop is left
abbrev pub nothing_left : Rest
nothing_left = record { records = []; stop = None }

-- how many bytes records have together, and one more for each
abbrev pub feed_bound : List (List ℕ) → ℕ
feed_bound records = sum_by length records + length records

-- where a feed showed what was to come, this record was the first of it
abbrev pub GivesRecord : Option Rest → Option Rest → List ℕ → Type 0
GivesRecord before after record_bytes =
    IfSome before (λ r. (later : Rest) × (after ≡ Some later) × (r ≡ record later { records = record_bytes ∷ later.records }))

-- what is left of the records of lists, one list behind another, past so many
abbrev pub left_of : List (List (List ℕ)) → ℕ → List (List ℕ)
left_of lists at = drop at (flat_map (λ list. list) lists)

-- how many records the first of lists has
abbrev pub first_length : List (List (List ℕ)) → ℕ
first_length [] = 0
first_length (list ∷ lists) = length list

-- a feed gave its next record, of 2^24 bytes or fewer
pub record GivesNext (before after : Option Rest) (old_bound new_bound : ℕ) (record_bytes : List ℕ) : Type 0 where
  pub next : GivesRecord before after record_bytes
  pub at_most : length record_bytes ≤ 2 ^ 24
  pub lowers : new_bound + length record_bytes + 1 ≤ old_bound

-- a feed is at its end without a stop, where it shows what is to come
pub record IsAtEnd (before after : Option Rest) : Type 0 where
  pub at_end : IfSome before (λ rest. rest ≡ nothing_left)
  pub kept : after ≡ before

-- a feed put nothing into an open group
pub record HandsNone (before after : Option Rest) (old_bound new_bound : ℕ) (old new : Grouping) : Type 0 where
  pub rest : after ≡ before
  pub bound : new_bound ≡ old_bound
  pub grouping : new ≡ old

-- a call reads nothing of what a feed reads: whether it may be asked, what it reads and its count of faults stay
pub record ReadsNothing {L N : Type 0} (going : L → Bool) (origin : L → N) (faults : L → ℕ) (before after : L) : Type 0 where
  pub same_going : going after ≡ going before
  pub same_origin : origin after ≡ origin before
  pub same_faults : faults after ≡ faults before

-- a feed gave its next record, which went into an open group behind the others
pub record HandsOn (before after : Option Rest) (old_bound new_bound : ℕ) (old new : Grouping) : Type 0 where
  pub record_bytes : List ℕ
  pub gives : GivesRecord before after record_bytes
  pub takes : IsPush old record_bytes None new
  pub lowers : new_bound + length record_bytes + 1 ≤ old_bound
