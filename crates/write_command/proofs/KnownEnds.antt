-- What is known of line ends as the search goes on.
use Rattle.std.proofs.Common.{◌≡◌, ◌≢◌, ◌↔◌, ◌∙◌, ℕ, ◌+◌, ◌-◌, ◌%◌, ◌<◌, ◌≤◌, List, Option, Some, None, length, slice_index, refl, ap, subst, arith, ⊎_elim}
use Rattle.std.specs.Int.{bit_at}
use Rattle.std.specs.Option.{IfSome}
use Rattle.std.proofs.lemmas.Nat.Bits.{bit_at-zero, bit_at-lt}
use Rattle.std.proofs.lemmas.Bool.{cases_lt}
use Rattle.write_command.specs.LineEnds.{MarksEnds, NoEnds, IsFirstEnd, KnowsEnds}

-- a place by its distance from base
at-distance : (bytes : List ℕ) (base p : ℕ) → base ≤ p → slice_index bytes p ≡ 10 → slice_index bytes (base + (p - base)) ≡ 10
at-distance bytes base p low is = let e : base + (p - base) ≡ p = omega arith in ap (slice_index bytes) e ∙ is

no-bit : (k : ℕ) → bit_at 0 k ≡ 1 → ⊥
no-bit k set = absurd (omega (arith, bit_at-zero k))

-- at the begin of a buffer
pub knows-begin : (bytes : List ℕ) (to mask : ℕ) → 64 ≤ length bytes → MarksEnds bytes 0 mask → KnowsEnds bytes 0 to 0 mask
knows-begin bytes to mask room marks = record {
  passed = λ p low high before. absurd (omega arith);
  sound = λ k within set. (omega arith, (marks k within).0 set);
  complete = λ k within low high is. (marks k within).1 is;
  near = omega arith;
  room = omega arith;
  step = omega arith;
}

-- where no byte counts
pub knows-nothing : (bytes : List ℕ) → 64 ≤ length bytes → KnowsEnds bytes 0 0 0 0
knows-nothing bytes room = record {
  passed = λ p low high before. absurd (omega arith);
  sound = λ k within set. absurd (no-bit k set);
  complete = λ k within low high is. absurd (omega arith);
  near = omega arith;
  room = omega arith;
  step = omega arith;
}

-- where no mark is left, no end stands among the 64 bytes
pub none-near : (bytes : List ℕ) (from to base p : ℕ) → KnowsEnds bytes from to base 0 → from ≤ p → p < to → p < base + 64
    → slice_index bytes p ≢ 10
none-near bytes from to base p knows low high near is =
    ⊎_elim (λ before. knows.passed p low high before is)
    (λ behind. no-bit (p - base) (knows.complete (p - base) (omega arith) (omega arith) (omega arith) (at-distance bytes base p behind is)))
    (cases_lt p base)

-- 64 bytes on
pub knows-next : (bytes : List ℕ) (from to base mask : ℕ) → KnowsEnds bytes from to base 0 → base + 64 < to → to ≤ length bytes → length bytes % 64 ≡ 0
    → MarksEnds bytes (base + 64) mask → KnowsEnds bytes from to (base + 64) mask
knows-next bytes from to base mask knows more within whole marks =
    let near = knows.near in
    let step = knows.step in
    record {
      passed = λ p low high before. none-near bytes from to base p knows low high before;
      sound = λ k small set. (omega arith, (marks k small).0 set);
      complete = λ k small low high is. (marks k small).1 is;
      near = omega arith;
      room = omega arith;
      step = omega arith;
    }

-- the place of the lowest mark
pub first-marked : (bytes : List ℕ) (from to base mask j : ℕ) → KnowsEnds bytes from to base mask → j < 64 → bit_at mask j ≡ 1
    → ((i : ℕ) → i < j → bit_at mask i ≡ 0) → (from ≤ base + j) × (slice_index bytes (base + j) ≡ 10) × ((p : ℕ) → from ≤ p → p < to → p < base + j → slice_index bytes p ≢ 10)
first-marked bytes from to base mask j knows small set below =
    let s = knows.sound j small set in (
      s.0,
      s.1,
      λ p low high before is.
          ⊎_elim (λ l. knows.passed p low high l is)
          (λ l. absurd (omega (arith, below (p - base) (omega arith), knows.complete (p - base) (omega arith) (omega arith) (omega arith) (at-distance bytes base p l is))))
          (cases_lt p base),
    )

-- the first end is the only one
pub first-only : (bytes : List ℕ) (from to at other : ℕ) → IsFirstEnd bytes from to at → IsFirstEnd bytes from to other → at ≡ other
first-only bytes from to at other a b =
    ⊎_elim (λ l. absurd (b.none at a.low l a.here))
    (λ l. ⊎_elim (λ m. absurd (a.none other b.low m b.here)) (λ m. omega arith) (cases_lt other at))
    (cases_lt at other)

-- the first end of those 64 bytes has the lowest mark
pub lowest-mark : (bytes : List ℕ) (from to base mask at : ℕ) → KnowsEnds bytes from to base mask → IsFirstEnd bytes from to at → at < base + 64
    → (base ≤ at) × (bit_at mask (at - base) ≡ 1) × ((i : ℕ) → i < at - base → bit_at mask i ≡ 0)
lowest-mark bytes from to base mask at knows first near =
    let low : base ≤ at = ⊎_elim (λ l. absurd (knows.passed at first.low first.high l first.here)) (λ l. l) (cases_lt at base) in
    let high = first.high in
    let from_low = first.low in (
      low,
      knows.complete (at - base) (omega arith) (omega arith) (omega arith) (at-distance bytes base at low first.here),
      λ i l.
          ⊎_elim (λ m. omega arith) (λ m.
          let set : bit_at mask i ≡ 1 = omega (arith, bit_at-lt mask i) in
          let s = knows.sound i (omega arith) set in
          absurd (first.none (base + i) s.0 (omega arith) s.1)) (cases_lt (bit_at mask i) 1),
    )

-- a mask that is 0
pub knows-unmarked : {bytes : List ℕ} {from to base mask : ℕ} → KnowsEnds bytes from to base mask → mask ≡ 0 → KnowsEnds bytes from to base 0
knows-unmarked {bytes} {from} {to} {base} knows e = subst (KnowsEnds bytes from to base) e knows

-- where a first end is sought and stands, one is found that lies near
pub first-near : (bytes : List ℕ) (from to base at : ℕ) (found : Option ℕ) → IsFirstEnd bytes from to at
    → IfSome found (λ n. IsFirstEnd bytes from to (from + n)) → (found ≡ None → NoEnds bytes from to) → IfSome found (λ n. from + n < base + 64)
    → at < base + 64
first-near bytes from to base at None first is none near = absurd (none refl at first.low first.high first.here)
first-near bytes from to base at (Some n) first is none near = omega (arith, near, first-only bytes from to at (from + n) first is)

-- and then some mark is left
pub marked-near : (bytes : List ℕ) (from to base mask at : ℕ) → KnowsEnds bytes from to base mask → IsFirstEnd bytes from to at → at < base + 64 → mask ≢ 0
marked-near bytes from to base mask at knows first near e =
    none-near bytes from to base at (knows-unmarked knows e) first.low first.high near first.here

-- behind the first end, where the rest of the marks is what is left
pub knows-behind : (bytes : List ℕ) (from to base mask rest at : ℕ) → KnowsEnds bytes from to base mask → IsFirstEnd bytes from to at → at < base + 64
    → ((k j : ℕ) → bit_at mask j ≡ 1 → ((i : ℕ) → i < j → bit_at mask i ≡ 0) → (bit_at rest k ≡ 1) ↔ ((j < k) × (bit_at mask k ≡ 1)))
    → KnowsEnds bytes (at + 1) to base rest
knows-behind bytes from to base mask rest at knows first near cleared =
    let lowest = lowest-mark bytes from to base mask at knows first near in
    let bits : (k : ℕ) → (bit_at rest k ≡ 1) ↔ ((at - base < k) × (bit_at mask k ≡ 1)) = (λ k. cleared k (at - base) lowest.1 lowest.2) in
    let low = lowest.0 in
    let from_low = first.low in
    record {
      passed = λ p l high before. absurd (omega arith);
      sound = λ k small set. let b = (bits k).0 set in (omega (arith, b.0), (knows.sound k small b.1).1);
      complete = λ k small l high is. (bits k).1 (omega arith, knows.complete k small (omega arith) high is);
      near = omega arith;
      room = knows.room;
      step = knows.step;
    }
