-- Where reading goes on past damage is one place past it, and there is such a place.
use Rattle.std.proofs.Common.{◌≡◌, ◌∙◌, ◌⊎◌, ℕ, ◌+◌, ◌-◌, ◌<◌, ◌≤◌, min, nat_lt, List, length, refl, sym, ap, subst, inl, inr, arith}
use Rattle.std.proofs.lemmas.Bool.{cases_lt, cond-true, cond-false, lt-ltb, le-ltb}
use Rattle.block_layout.specs.Layout.{IsBoundary}
use Rattle.block_layout.specs.BlockHeaders.{IsSane, StandsAt}
use Rattle.chunk_header.proofs.Decided.{IsDecided, both, same_decided, less_decided, at_most_decided, equal_decided, not_decided, some_below_decided}
use Rattle.chunk_reader.proofs.Blocks.{stands_one, stands_decided, stands_within}
use Rattle.chunk_reader.proofs.FaultsDecided.{either_decided, least_below}
use Rattle.damage_skip.specs.Resyncs.{IsFirstBlock, StandsFrom, landing, IsResync, Contradicts}
use Rattle.damage_skip.specs.Steps.{IsOnward}

-- a block leads to the begin of the chunk where that is past the place, and else to the chunk's end
pub landing-back : (size place block previous next : ℕ) → place < block - previous → landing size place block previous next ≡ block - previous
landing-back size place block previous next past =
    cond-true (nat_lt place (block - previous)) (block - previous) (min (block + next) size) (lt-ltb place (block - previous) past)

pub landing-on : (size place block previous next : ℕ) → block - previous ≤ place → landing size place block previous next ≡ min (block + next) size
landing-on size place block previous next not =
    cond-false (nat_lt place (block - previous)) (block - previous) (min (block + next) size) (le-ltb place (block - previous) not)

-- it leads past the place, and to a boundary or to the file's end
pub onward-landing : (size place block previous next : ℕ) → IsSane block previous next → place ≤ block → block < size
    → IsOnward size place (landing size place block previous next)
onward-landing size place block previous next sane from below =
    elim (cases_lt place (block - previous)) [
      | inl past ↦
          subst (IsOnward size place) (sym (landing-back size place block previous next past))
          (record { past = past; within = omega arith; boundary = inl sane.from_boundary })
      | inr not ↦
          subst (IsOnward size place) (sym (landing-on size place block previous next not))
          (record {
            past = omega (arith, sane.past_itself);
            within = omega arith;
            boundary = elim (cases_lt size (block + next)) [
              | inl beyond ↦ inr (omega arith)
              | inr inside ↦ inl (subst IsBoundary (omega arith) sane.to_boundary)
            ];
          })
    ]

-- the first block is one, and what its header says
pub first_block_one : (P : (block previous next : ℕ) → Type 0)
    → ((b p n q m : ℕ) → P b p n → P b q m → (p ≡ q) × (n ≡ m))
    → (b p n c q m : ℕ) → IsFirstBlock P b p n → IsFirstBlock P c q m → (b ≡ c) × (p ≡ q) × (n ≡ m)
first_block_one P says b p n c q m h g =
    let same : b ≡ c = omega (arith, h.first c q m g.holds, g.first b p n h.holds) in
    let both_there = says c p n q m (subst (λ (x : ℕ). P x p n) same h.holds) g.holds in
    (same, both_there.0, both_there.1)

-- there is one where such a block is, if it is decided of each
pub first_block_of : (P : (block previous next : ℕ) → Type 0)
    → ((block : ℕ) → IsDecided ((previous next : ℕ) × P block previous next))
    → (block previous next : ℕ) → P block previous next
    → (b p n : ℕ) × IsFirstBlock P b p n
first_block_of P decided block previous next here =
    let least = least_below (λ (b : ℕ). (p n : ℕ) × P b p n) decided block block (omega arith) (previous, next, here) in
    (least.0, least.1.0, least.1.1, record { holds = least.1.2; first = λ b p n there. least.2 b (p, n, there) })

-- equal blocks that say the same lead to one place
pub landing_same : (size place b p n c q m : ℕ) → (b ≡ c) × (p ≡ q) × (n ≡ m) → landing size place b p n ≡ landing size place c q m
landing_same size place b p n c q m same =
    ap (λ (x : ℕ). landing size place x p n) same.0
    ∙ ap (λ (x : ℕ). landing size place c x n) same.1
    ∙ ap (λ (x : ℕ). landing size place c q x) same.2

-- blocks at or past a place, whose headers are right and sane
says_from : (file : List ℕ) (place b p n q m : ℕ) → StandsFrom file place b p n → StandsFrom file place b q m → (p ≡ q) × (n ≡ m)
says_from file place b p n q m h g = stands_one file b p n q m h.stands g.stands

from_decided : (file : List ℕ) (place block : ℕ) → IsDecided ((previous next : ℕ) × StandsFrom file place block previous next)
from_decided file place block =
    same_decided ((place ≤ block) × ((previous next : ℕ) × StandsAt file block previous next)) _
    (λ h. (h.1.0, h.1.1, record { stands = h.1.2; from = h.0 }))
    (λ h. (h.2.from, (h.0, h.1, h.2.stands)))
    (both _ _ (at_most_decided place block) (stands_decided file block))

some_from_decided : (file : List ℕ) (place : ℕ) → IsDecided ((block previous next : ℕ) × StandsFrom file place block previous next)
some_from_decided file place =
    same_decided ((block : ℕ) × (block < length file) × ((previous next : ℕ) × StandsFrom file place block previous next)) _
    (λ h. (h.0, h.2.0, h.2.1, h.2.2))
    (λ h. (h.0, omega (arith, stands_within file h.0 h.1 h.2 h.3.stands), (h.1, h.2, h.3)))
    (some_below_decided (λ (b : ℕ). (previous next : ℕ) × StandsFrom file place b previous next) (from_decided file place) (length file))

-- reading goes on past the place
pub resync_past : (file : List ℕ) (place to : ℕ) → place < length file → IsResync file place to → IsOnward (length file) place to
resync_past file place to below (inl (b, p, n, first, is)) =
    subst (IsOnward (length file) place) (sym is)
    (onward-landing (length file) place b p n first.holds.stands.sane first.holds.from
    (omega (arith, stands_within file b p n first.holds.stands)))
resync_past file place to below (inr (none, is)) = record { past = omega (arith, is); within = omega (arith, is); boundary = inr is }

-- at one place
pub resync_one : (file : List ℕ) (place to other : ℕ) → IsResync file place to → IsResync file place other → to ≡ other
resync_one file place to other (inl (b, p, n, first, is)) (inl (c, q, m, also, there)) =
    is ∙ landing_same (length file) place b p n c q m
    (first_block_one (StandsFrom file place) (says_from file place) b p n c q m first also) ∙ sym there
resync_one file place to other (inl (b, p, n, first, is)) (inr (none, there)) = absurd (none b p n first.holds)
resync_one file place to other (inr (none, is)) (inl (c, q, m, also, there)) = absurd (none c q m also.holds)
resync_one file place to other (inr (none, is)) (inr (nor, there)) = is ∙ sym there

-- and there is one
pub resync_of : (file : List ℕ) (place : ℕ) → (to : ℕ) × IsResync file place to
resync_of file place =
    elim (some_from_decided file place) [
      | inl some ↦
          let first = first_block_of (StandsFrom file place) (from_decided file place) some.0 some.1 some.2 some.3 in
          (landing (length file) place first.0 first.1 first.2, inl (first.0, first.1, first.2, first.3, refl))
      | inr none ↦ (length file, inr (λ b p n h. none (b, p, n, h), refl))
    ]

-- blocks that contradict a chunk
pub says_against : (file : List ℕ) (begin end b p n q m : ℕ) → Contradicts file begin end b p n → Contradicts file begin end b q m
    → (p ≡ q) × (n ≡ m)
says_against file begin end b p n q m h g = stands_one file b p n q m h.stands g.stands

-- whether a block does
pub against_decided : (file : List ℕ) (begin end block : ℕ) → IsDecided ((previous next : ℕ) × Contradicts file begin end block previous next)
against_decided file begin end block =
    elim (stands_decided file block) [
      | inl (p, n, stands) ↦
          same_decided ((begin ≤ block) × ((block < end) × ((¬ (block - p ≡ begin)) ⊎ (¬ (block + n ≡ end))))) _
          (λ h. (p, n, record { stands = stands; from = h.0; below = h.1.0; differs = h.1.1 }))
          (λ h.
          let same = stands_one file block h.0 h.1 p n h.2.stands stands in
          let differs : (¬ (block - p ≡ begin)) ⊎ (¬ (block + n ≡ end)) = rw (← same.0, ← same.1) h.2.differs in
          (h.2.from, (h.2.below, differs)))
          (both _ _ (at_most_decided begin block) (both _ _ (less_decided block end)
          (either_decided _ _ (not_decided _ (equal_decided (block - p) begin)) (not_decided _ (equal_decided (block + n) end)))))
      | inr never ↦ inr (λ h. never (h.0, h.1, h.2.stands))
    ]

-- and whether some block does
pub some_against_decided : (file : List ℕ) (begin end : ℕ) → IsDecided ((block previous next : ℕ) × Contradicts file begin end block previous next)
some_against_decided file begin end =
    same_decided ((block : ℕ) × (block < end) × ((previous next : ℕ) × Contradicts file begin end block previous next)) _
    (λ h. (h.0, h.2.0, h.2.1, h.2.2))
    (λ h. (h.0, h.3.below, (h.1, h.2, h.3)))
    (some_below_decided (λ (b : ℕ). (previous next : ℕ) × Contradicts file begin end b previous next) (against_decided file begin end) end)
