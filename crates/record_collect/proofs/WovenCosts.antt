-- What lists cost that are woven into one, and which records they have.
use Rattle.std.proofs.Common.{◌≡◌, ◌∙◌, ℕ, zero, suc, ◌+◌, ◌*◌, ◌<◌, ◌≤◌, Option, Some, None, List, [], ◌∷◌, length, map, refl, sym, ap, subst, inl, inr, arith}
use Rattle.std.specs.List.{AllByRecursion, AllZip, flat_map, slice_get, sum_by}
use Rattle.std.proofs.lemmas.Bool.{cases_eq}
use Rattle.std.proofs.lemmas.List.Sums.{sum_by-append, sum_by-cons}
use Rattle.simple_chunk.specs.Costs.{cost, cost_of}
use Rattle.number_shares.specs.Once.{times}
use Rattle.number_shares.proofs.Counting.{one_if, one_if-same, one_if-other, times-cons}
use Rattle.record_collect.specs.Gatherings.{AreWoven, StandAt}

-- what these numbers weigh together: the k from a place on, each as often as it stands in the list
abbrev weight : (ℕ → ℕ) → (at k : ℕ) → List ℕ → ℕ
weight f at zero ns = 0
weight f at (suc k) ns = times at ns * f at + weight f (at + 1) k ns

weight-nil : (f : ℕ → ℕ) (at k : ℕ) → weight f at k [] ≡ 0
weight-nil f at zero = refl
weight-nil f at (suc k) = omega (arith, weight-nil f (at + 1) k)

weight-before : (f : ℕ → ℕ) (at k n : ℕ) (ns : List ℕ) → n < at → weight f at k (n ∷ ns) ≡ weight f at k ns
weight-before f at zero n ns before = refl
weight-before f at (suc k) n ns before =
    let none : one_if at n ≡ 0 = one_if-other at n (λ e. absurd (omega (arith, e))) in
    let same : times at (n ∷ ns) ≡ times at ns = omega (arith, times-cons at n ns) in
    let rest : weight f (at + 1) k (n ∷ ns) ≡ weight f (at + 1) k ns = weight-before f (at + 1) k n ns (omega arith) in
    ap (λ (t : ℕ). t * f at + weight f (at + 1) k (n ∷ ns)) same ∙ ap (λ (w : ℕ). times at ns * f at + w) rest

weight-more : (f : ℕ → ℕ) (at k n : ℕ) (ns : List ℕ) → at ≤ n → n < at + k → weight f at k (n ∷ ns) ≡ f n + weight f at k ns
weight-more f at zero n ns from to = absurd (omega arith)
weight-more f at (suc k) n ns from to = elim (cases_eq n at) [
  | inl here ↦
      let one : one_if at n ≡ 1 = one_if-same at n here in
      let more : times at (n ∷ ns) ≡ suc (times at ns) = omega (arith, times-cons at n ns) in
      let rest : weight f (at + 1) k (n ∷ ns) ≡ weight f (at + 1) k ns = weight-before f (at + 1) k n ns (omega arith) in
      let own : f n ≡ f at = ap f here in
      let times_more : suc (times at ns) * f at ≡ f at + times at ns * f at = grind arith in
      let step : times at (n ∷ ns) * f at ≡ f at + times at ns * f at = ap (λ (t : ℕ). t * f at) more ∙ times_more in
      omega (arith, step, rest, own)
  | inr other ↦
      let none : one_if at n ≡ 0 = one_if-other at n other in
      let same : times at (n ∷ ns) ≡ times at ns = omega (arith, times-cons at n ns) in
      let step : times at (n ∷ ns) * f at ≡ times at ns * f at = ap (λ (t : ℕ). t * f at) same in
      omega (arith, step, weight-more f (at + 1) k n ns (omega arith) (omega arith))
]

-- numbers among these weigh what they weigh one by one
weight-sum : (f : ℕ → ℕ) (k : ℕ) (ns : List ℕ) → AllByRecursion (λ n. n < k) ns → weight f 0 k ns ≡ sum_by f ns
weight-sum f k [] all = weight-nil f 0 k
weight-sum f k (n ∷ ns) all = omega (arith, weight-more f 0 k n ns (omega arith) (omega (arith, all.0)), weight-sum f k ns all.1, sum_by-cons f n ns)

-- what a record at a place costs
abbrev cost_if : Option (List ℕ) → ℕ
cost_if None = 0
cost_if (Some r) = cost r

abbrev cost_at : List (List ℕ) → ℕ → ℕ
cost_at records n = cost_if (slice_get records n)

-- each number once weighs what the records cost
weight-each : (f : ℕ → ℕ) (at : ℕ) (ns : List ℕ) (records : List (List ℕ)) → ((n : ℕ) → at ≤ n → n < at + length records → times n ns ≡ 1)
    → ((i : ℕ) → f (at + i) ≡ cost_at records i) → weight f at (length records) ns ≡ cost_of records
weight-each f at ns [] once is = refl
weight-each f at ns (r ∷ records) once is =
    let one : times at ns ≡ 1 = once at (omega arith) (omega arith) in
    let own : f at ≡ cost r = subst (λ (n : ℕ). f n ≡ cost r) (omega arith) (is 0) in
    let step : times at ns * f at ≡ 1 * f at = ap (λ (t : ℕ). t * f at) one in
    let rest : weight f (at + 1) (length records) ns ≡ cost_of records =
    weight-each f (at + 1) ns records (λ n from to. once n (omega arith) (omega arith))
    (λ i. (let on : at + suc i ≡ at + 1 + i = omega arith in subst (λ (n : ℕ). f n ≡ cost_at records i) on (is (suc i)))) in
    omega (arith, step, own, rest, sum_by-cons cost r records)

-- what stands at some numbers costs what these weigh
standing : (records list : List (List ℕ)) (ns : List ℕ) → map (λ n. slice_get records n) ns ≡ map (λ r. Some r) list
    → sum_by (cost_at records) ns ≡ cost_of list
standing records [] [] stand = refl
standing records [] (n ∷ ns) stand = cc
standing records (r ∷ list) [] stand = cc
standing records (r ∷ list) (n ∷ ns) stand =
    let head : slice_get records n ≡ Some r = cc in
    let tail : map (λ m. slice_get records m) ns ≡ map (λ q. Some q) list = cc in
    let own : cost_at records n ≡ cost r = ap cost_if head in
    omega (arith, own, sum_by-cons (cost_at records) n ns, sum_by-cons cost r list, standing records list ns tail)

all_standing : (records : List (List ℕ)) (lists : List (List (List ℕ))) (numbers : List (List ℕ)) → AllZip (StandAt records) lists numbers
    → sum_by (cost_at records) (flat_map (λ ns. ns) numbers) ≡ sum_by cost_of lists
all_standing records [] [] h = refl
all_standing records [] (ns ∷ numbers) h = absurd h
all_standing records (list ∷ lists) [] h = absurd h
all_standing records (list ∷ lists) (ns ∷ numbers) h =
    omega (
      arith,
      sum_by-append (cost_at records) ns (flat_map (λ ns. ns) numbers),
      standing records list ns h.0.stand,
      all_standing records lists numbers h.1,
      sum_by-cons cost_of list lists,
    )

-- lists that are woven into one cost what it costs
pub woven-cost : (lists : List (List (List ℕ))) (records : List (List ℕ)) (numbers : List (List ℕ)) → AreWoven lists records numbers
    → sum_by cost_of lists ≡ cost_of records
woven-cost lists records numbers h =
    let flat : List ℕ = flat_map (λ ns. ns) numbers in
    sym (all_standing records lists numbers h.each)
    ∙ sym (weight-sum (cost_at records) (length records) flat h.once.no_other)
    ∙ weight-each (cost_at records) 0 flat records (λ n from to. h.once.once n (omega arith)) (λ i. (let here : i ≡ 0 + i = omega arith in ap (cost_at records) (sym here)))

-- a record of one of the lists is one of it
pub stands : (records list : List (List ℕ)) (ns : List ℕ) (j : ℕ) (r : List ℕ) → map (λ n. slice_get records n) ns ≡ map (λ r. Some r) list → slice_get list j ≡ Some r
    → (n : ℕ) × (slice_get records n ≡ Some r)
stands records [] [] j r stand there = absurd cc
stands records [] (n ∷ ns) j r stand there = absurd cc
stands records (q ∷ list) [] j r stand there = absurd cc
stands records (q ∷ list) (n ∷ ns) zero r stand there =
    let head : slice_get records n ≡ Some q = cc in
    let same : q ≡ r = cc in
    (n, head ∙ ap Some same)
stands records (q ∷ list) (n ∷ ns) (suc j) r stand there =
    let tail : map (λ m. slice_get records m) ns ≡ map (λ q. Some q) list = cc in
    stands records list ns j r tail there

pub woven-stands : (records : List (List ℕ)) (lists : List (List (List ℕ))) (numbers : List (List ℕ)) (i j : ℕ) (list : List (List ℕ)) (r : List ℕ)
    → AllZip (StandAt records) lists numbers → slice_get lists i ≡ Some list → slice_get list j ≡ Some r → (n : ℕ) × (slice_get records n ≡ Some r)
woven-stands records [] [] i j list r h one there = absurd cc
woven-stands records [] (ns ∷ numbers) i j list r h one there = absurd h
woven-stands records (l ∷ lists) [] i j list r h one there = absurd h
woven-stands records (l ∷ lists) (ns ∷ numbers) zero j list r h one there =
    let same : l ≡ list = cc in
    stands records l ns j r h.0.stand (ap (λ (m : List (List ℕ)). slice_get m j) same ∙ there)
woven-stands records (l ∷ lists) (ns ∷ numbers) (suc i) j list r h one there = woven-stands records lists numbers i j list r h.1 one there
