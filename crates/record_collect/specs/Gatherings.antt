-- Promise. Lists of records that are woven into one, and files whose records are. Own.
use Rattle.std.specs.Prelude.{◌≡◌, ℕ, ◌^◌, ◌<◌, ◌≤◌, ◌⊎◌, Some, List, length, map, slice_get}
use Rattle.std.specs.List.{AllByRecursion, AllZip, flat_map, sum_by}
use Rattle.std.specs.List.Sorted.{IsStrictlyIncreasing}
use Rattle.chunk_header.specs.Chunks.{ChunkValue}
use Rattle.simple_chunk.specs.Costs.{cost_of}
use Rattle.number_shares.specs.Once.{HasEachBelow}
use Rattle.meta_chunk.specs.Files.{IsReadable, AreRecordsOf}
use Rattle.record_collect.specs.Limits.{limit}

-- the records in one list, and for each pass the numbers at which its records stand there
pub record GatheredValue : Type 0 where
  pub records : List (List ℕ)
  pub numbers : List (List ℕ)

-- each record has at most 2 ^ 24 bytes, together they cost no more than the limit, and each number is one of a record
pub record IsInBounds (made : GatheredValue) : Type 0 where
  pub short : AllByRecursion (λ r. length r ≤ 2 ^ 24) made.records
  pub most : cost_of made.records ≤ limit
  pub below : AllByRecursion (AllByRecursion (λ n. n < length made.records)) made.numbers

-- the numbers rise, and at them stand exactly the records of this list, in its order
pub record StandAt (records list : List (List ℕ)) (numbers : List ℕ) : Type 0 where
  pub rise : IsStrictlyIncreasing numbers
  pub stand : map (λ n. slice_get records n) numbers ≡ map (λ r. Some r) list

-- each list stands at numbers of its own, and together these are each number of a record once
pub record AreWoven (lists : List (List (List ℕ))) (records : List (List ℕ)) (numbers : List (List ℕ)) : Type 0 where
  pub each : AllZip (StandAt records) lists numbers
  pub once : HasEachBelow (length records) (flat_map (λ ns. ns) numbers)

-- these are the records of each file, which has no fault
abbrev pub AreRecordsOfEach : List (List ℕ) → List (List (List ℕ)) → Type 0
AreRecordsOfEach files lists =
    AllZip (λ file list. (ks : List ChunkValue) × IsReadable ks file
    × AreRecordsOf ks list) files lists

-- the files have no fault, and their records are woven into one list, of bounded records and cost
pub record AreGatheredOf (files : List (List ℕ)) (made : GatheredValue) : Type 0 where
  pub lists : List (List (List ℕ))
  pub are : AreRecordsOfEach files lists
  pub woven : AreWoven lists made.records made.numbers
  pub bounds : IsInBounds made

-- one of the lists has a record of more than 2 ^ 24 bytes
pub record HasTooLong (lists : List (List (List ℕ))) : Type 0 where
  pub list_number : ℕ
  pub number : ℕ
  pub list : List (List ℕ)
  pub long : List ℕ
  pub one_list : slice_get lists list_number ≡ Some list
  pub one_record : slice_get list number ≡ Some long
  pub too_long : 2 ^ 24 < length long

-- the files have no fault, and they have a record of more than 2 ^ 24 bytes, or records that cost more than the limit together
pub record IsTooMuch (files : List (List ℕ)) : Type 0 where
  pub lists : List (List (List ℕ))
  pub are : AreRecordsOfEach files lists
  pub over : HasTooLong lists ⊎ (limit < sum_by cost_of lists)
