-- Where one weave of the records of files is within bounds, each is.
use Rattle.std.proofs.Common.{◌≡◌, ℕ, suc, ◌^◌, ◌<◌, ◌≤◌, Some, List, [], ◌∷◌, length, map, refl, subst, inl, inr, arith}
use Rattle.std.specs.Prelude.{slice_get}
use Rattle.std.specs.List.{AllByRecursion, AllZip, flat_map, sum_by}
use Rattle.std.proofs.lemmas.Bool.{cases_lt}
use Rattle.std.proofs.lemmas.Option.{slice_get_within}
use Rattle.simple_chunk.specs.Costs.{cost_of}
use Rattle.number_shares.specs.Once.{times}
use Rattle.number_shares.proofs.Counting.{times-none}
use Rattle.number_shares.proofs.Lists.{all_append, all_back, all_front}
use Rattle.record_collect.specs.Gatherings.{AreGatheredOf, AreRecordsOfEach, AreWoven, GatheredValue, IsInBounds, StandAt}
use Rattle.record_collect.specs.Limits.{limit}
use Rattle.record_collect.proofs.WholeGatherings.{fits}
use Rattle.record_collect.proofs.WovenCosts.{woven-cost}
use Rattle.record_collect.proofs.Weaves.{too_long_or_short}

-- the record at a number is short
abbrev IsShortAt : List (List ℕ) → ℕ → Type 0
IsShortAt records n = (r : List ℕ) → slice_get records n ≡ Some r → length r ≤ 2 ^ 24

short_standing : (records list : List (List ℕ)) (ns : List ℕ) → map (λ n. slice_get records n) ns ≡ map (λ r. Some r) list
    → AllByRecursion (λ r. length r ≤ 2 ^ 24) list → AllByRecursion (IsShortAt records) ns
short_standing records list [] stand short = tt
short_standing records [] (n ∷ ns) stand short = absurd cc
short_standing records (r ∷ list) (n ∷ ns) stand short =
    let head : slice_get records n ≡ Some r = cc in
    let tail : map (λ m. slice_get records m) ns ≡ map (λ q. Some q) list = cc in (
      λ q there. (let same : r ≡ q = cc in subst (λ (x : List ℕ). length x ≤ 2 ^ 24) same short.0),
      short_standing records list ns tail short.1,
    )

short_at_each : (records : List (List ℕ)) (lists : List (List (List ℕ))) (numbers : List (List ℕ)) → AllZip (StandAt records) lists numbers
    → AllByRecursion (AllByRecursion (λ r. length r ≤ 2 ^ 24)) lists → AllByRecursion (IsShortAt records) (flat_map (λ ns. ns) numbers)
short_at_each records [] [] h short = tt
short_at_each records [] (ns ∷ numbers) h short = absurd h
short_at_each records (list ∷ lists) [] h short = absurd h
short_at_each records (list ∷ lists) (ns ∷ numbers) h short =
    all_append (IsShortAt records) ns (flat_map (λ ns. ns) numbers)
    (short_standing records list ns h.0.stand short.0)
    (short_at_each records lists numbers h.1 short.1)

all_short : (records : List (List ℕ)) → ((n : ℕ) → IsShortAt records n) → AllByRecursion (λ r. length r ≤ 2 ^ 24) records
all_short [] at = tt
all_short (r ∷ records) at = (at 0 r refl, all_short records (λ n. at (suc n)))

-- a weave of short records has no others
woven-short : (lists : List (List (List ℕ))) (made : GatheredValue) → AreWoven lists made.records made.numbers
    → AllByRecursion (AllByRecursion (λ r. length r ≤ 2 ^ 24)) lists → AllByRecursion (λ r. length r ≤ 2 ^ 24) made.records
woven-short lists made h short =
    all_short made.records
    (λ n r there. elim (cases_lt (2 ^ 24) (length r)) [
      | inl long ↦
          let flat : List ℕ = flat_map (λ ns. ns) made.numbers in
          let each = short_at_each made.records lists made.numbers h.each short in
          let none : times n flat ≡ 0 = times-none (IsShortAt made.records) n flat (λ at. omega (arith, at r there, long)) each in
          absurd (omega (arith, none, h.once.once n (slice_get_within made.records n r there)))
      | inr fits ↦ fits
    ])

numbers_below : (most : ℕ) (numbers : List (List ℕ)) → AllByRecursion (λ n. n < most) (flat_map (λ ns. ns) numbers)
    → AllByRecursion (AllByRecursion (λ n. n < most)) numbers
numbers_below most [] all = tt
numbers_below most (ns ∷ numbers) all =
    let others : List ℕ = flat_map (λ ns. ns) numbers in
    (all_front (λ n. n < most) ns others all, numbers_below most numbers (all_back (λ n. n < most) ns others all))

woven-bounds : (lists : List (List (List ℕ))) (made : GatheredValue) → AreWoven lists made.records made.numbers
    → AllByRecursion (AllByRecursion (λ r. length r ≤ 2 ^ 24)) lists → sum_by cost_of lists ≤ limit → IsInBounds made
woven-bounds lists made h short most = record {
  short = woven-short lists made h short;
  most = omega (arith, most, woven-cost lists made.records made.numbers h);
  below = numbers_below (length made.records) made.numbers h.once.no_other;
}

pub each_gathered : (files : List (List ℕ)) (some made : GatheredValue) (lists : List (List (List ℕ))) → AreGatheredOf files some
    → AreRecordsOfEach files lists → AreWoven lists made.records made.numbers → AreGatheredOf files made
each_gathered files some made lists gathered are woven = elim (too_long_or_short lists) [
  | inl long ↦ absurd (fits files some gathered (record { lists = lists; are = are; over = inl long }))
  | inr short ↦ elim (cases_lt limit (sum_by cost_of lists)) [
    | inl over ↦ absurd (fits files some gathered (record { lists = lists; are = are; over = inr over }))
    | inr most ↦ record { lists = lists; are = are; woven = woven; bounds = woven-bounds lists made woven short most }
  ]
]
